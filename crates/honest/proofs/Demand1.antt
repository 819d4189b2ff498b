-- Demand 1: each call returns the number that is due, and what it leaves of the lent spaces.
use Prim.Native.Nat.{ℕ, suc, ◌+◌, ◌*◌, ◌≤◌}
use mathlib.Core.Path.{◌≡◌, refl, ap, ◌∙◌}
use mathlib.Core.Bool.{Bool}
use mathlib.Core.List.{List, [], ◌++◌}
use mathlib.Core.Logic.{◌≢◌}
use mathlib.Core.Option.{none, some}
use lib.ListN.{length, drop, replicate}
use lib.IntN.{ℤ}
use Rattle.bits.specs.Strings.{Bits}
use Rattle.bits.specs.Packing.{packed_length}
use Rattle.places.specs.Places.{overlay}
use Rattle.places.proofs.Places.{overlay_nil}
use Rattle.calls.specs.Causes.{Due}
use Rattle.calls.specs.Outcome.{Outcome}
use Rattle.calls.proofs.Judged.{due_unique, judged_refused}
use Rattle.point.specs.PublicShare.{public_share_length}
use Rattle.query.specs.Query.{prefix_length, prefix_count}
use Rattle.keymaker.specs.Key.{key_causes, key_outcome}
use Rattle.idpf.specs.Share.{share_causes, share_outcome}
use Rattle.keymaker.proofs.KeyCauses.{nothing_written}
use Rattle.keymaker.proofs.KeyTheorems.{key_due}
use Rattle.idpf.proofs.ShareDue.{share_due}
use Rattle.shares.specs.Add.{add_causes, add_outcome}
use Rattle.shares.proofs.AddOutcome as add
use Rattle.combine.specs.Answer.{next, list, ended, kind}
use Rattle.combine.specs.Combine.{combine_answer, combine_bytes, combine_causes, combine_outcome, combine_kind}
use Rattle.combine.proofs.CombineDue.{combine_due}
use Rattle.search.specs.Search.{Lent, record_bytes, list_bytes, search_causes, search_number, record_length, list_length, record_after, list_after}
use Rattle.search.proofs.SearchDue.{search_due}
use Rattle.search.proofs.Areas as areas
use Rattle.honest.specs.Honest.{AreBytes}
use Rattle.honest.proofs.Room.{key_room, share_room, no_kind, told_kind, combine_room, next_length, list_length_lem, ended_length}

-- where nothing is written, a space is as it was
unchanged : {bytes area : List ℕ} → bytes ≡ [] → overlay bytes area ≡ area
unchanged {area = area} h = ap (λ (bytes : List ℕ). overlay bytes area) h ∙ overlay_nil area

-- ---- the key maker, with the space `area` for the public share

module _ (n e : ℕ) (w : ℤ) (string seed0 seed1 area : List ℕ) where
  abbrev key : Outcome
  key = key_outcome n e w string seed0 seed1 (length area)

  -- Its number is due, and no other is.
  pub key_number : Due (key_causes n e string seed0 seed1 (length area)) key.number
      × ((k : ℕ) → Due (key_causes n e string seed0 seed1 (length area)) k → k ≡ key.number)
  key_number =
      let d = key_due n e w string seed0 seed1 (length area) in
      (d, λ k h. due_unique (key_causes n e string seed0 seed1 (length area)) h d)

  -- A refusal writes nothing, so that its length is 0, and leaves the space as it was.
  pub key_refused : key.number ≢ 0 → (key.written ≡ []) × (overlay key.written area ≡ area)
  key_refused h = let none_written = nothing_written n e w string seed0 seed1 (length area) h in (none_written, unchanged none_written)

  -- Where it succeeds with seeds of bytes, what it writes has the length of a public share and fits, and the bytes past it are as they were.
  pub key_written : AreBytes seed0 → AreBytes seed1 → key.number ≡ 0
      → (length key.written ≡ public_share_length n) × (public_share_length n ≤ length area)
      × (overlay key.written area ≡ key.written ++ drop (public_share_length n) area)
  unfolding overlay
  key_written byte0 byte1 h =
      let r = key_room n e w string seed0 seed1 (length area) byte0 byte1 h in
      (r.0, r.1, ap (λ (m : ℕ). key.written ++ drop m area) r.0)

-- ---- server b's share for a query, with the space `area` for its numbers

module _ (n e : ℕ) (b : Bool) (seeds shares query area : List ℕ) where
  abbrev answer : Outcome
  answer = share_outcome n e b seeds shares query (length area)

  -- Where the public shares and the query are bytes, its number is due, and no other is.
  pub share_number : AreBytes shares → AreBytes query
      → Due (share_causes n e seeds shares query (length area)) answer.number
      × ((k : ℕ) → Due (share_causes n e seeds shares query (length area)) k → k ≡ answer.number)
  share_number share-byte query-byte =
      let d = share_due n e b seeds shares query (length area) share-byte query-byte in
      (d, λ k h. due_unique (share_causes n e seeds shares query (length area)) h d)

  -- A refusal writes nothing, so that its length is 0, and leaves the space as it was.
  pub share_refused : answer.number ≢ 0 → (answer.written ≡ []) × (overlay answer.written area ≡ area)
  unfolding share_outcome
  share_refused h = let none_written = judged_refused (share_causes n e seeds shares query (length area)) _ h in (none_written, unchanged none_written)

  -- Where it succeeds, what it writes is 8 bytes for each prefix of the query and fits, and the bytes past it are as they were.
  pub share_written : answer.number ≡ 0
      → (length answer.written ≡ 8 * prefix_count query) × (8 * prefix_count query ≤ length area)
      × (overlay answer.written area ≡ answer.written ++ drop (8 * prefix_count query) area)
  unfolding overlay
  share_written h =
      let r = share_room n e b seeds shares query (length area) h in
      (r.0, r.1, ap (λ (m : ℕ). answer.written ++ drop m area) r.0)

-- ---- two shares of one server added, with the space `area` for their sums

module _ (share0 share1 area : List ℕ) where
  abbrev sums : Outcome
  sums = add_outcome share0 share1 (length area)

  -- Its number is due, and no other is.
  pub add_number : Due (add_causes share0 share1 (length area)) sums.number
      × ((k : ℕ) → Due (add_causes share0 share1 (length area)) k → k ≡ sums.number)
  add_number =
      let d = add.add_due share0 share1 (length area) in
      (d, λ k h. due_unique (add_causes share0 share1 (length area)) h d)

  -- A refusal writes nothing, so that its length is 0, and leaves the space as it was.
  pub add_refused : sums.number ≢ 0 → (sums.written ≡ []) × (overlay sums.written area ≡ area)
  add_refused h = let none_written = add.nothing_written share0 share1 (length area) h in (none_written, unchanged none_written)

  -- Where it succeeds, what it writes is as long as either share and fits, and the bytes past it are as they were.
  pub add_written : sums.number ≡ 0
      → (length sums.written ≡ length share0) × (length share0 ≤ length area)
      × (overlay sums.written area ≡ sums.written ++ drop (length share0) area)
  unfolding overlay
  add_written h =
      let r = add.ready share0 share1 (length area) h in
      let size : length sums.written ≡ length share0 = ap (λ (o : Outcome). length o.written) r.outcome ∙ r.size in
      (size, r.fits, ap (λ (m : ℕ). sums.written ++ drop m area) size)

-- ---- combining two shares for a query, with the space `area` for its answer

module _ (n : ℕ) (weighted : Bool) (t : ℕ) (query share0 share1 area : List ℕ) where
  abbrev combined : Outcome
  combined = combine_outcome n weighted t query share0 share1 (length area)

  -- Where the query is bytes, its number is due, and no other is.
  pub combine_number : AreBytes query
      → Due (combine_causes n weighted t query share0 share1 (length area)) combined.number
      × ((k : ℕ) → Due (combine_causes n weighted t query share0 share1 (length area)) k → k ≡ combined.number)
  combine_number query-byte =
      let d = combine_due n weighted t query share0 share1 (length area) query-byte in
      (d, λ k h. due_unique (combine_causes n weighted t query share0 share1 (length area)) h d)

  -- A refusal writes nothing, so that its length is 0, leaves the space as it was and names none of the three kinds of answer.
  pub combine_refused : combined.number ≢ 0
      → (combined.written ≡ []) × (overlay combined.written area ≡ area) × (combine_kind n weighted t query share0 share1 (length area) ≡ none)
  unfolding combine_outcome
  combine_refused h =
      let none_written = judged_refused (combine_causes n weighted t query share0 share1 (length area)) _ h in
      (none_written, unchanged none_written, no_kind n weighted t query share0 share1 (length area) h)

  -- Where it succeeds, it names the kind of its answer, what it writes are that answer's bytes and fits, and the bytes past it are as they were.
  pub combine_written : combined.number ≡ 0
      → (combine_kind n weighted t query share0 share1 (length area) ≡ some (kind (combine_answer n weighted t query share0 share1)))
      × (combined.written ≡ combine_bytes n weighted t query share0 share1) × (length combined.written ≤ length area)
      × (overlay combined.written area ≡ combined.written ++ drop (length combined.written) area)
  unfolding overlay
  combine_written h =
      let r = combine_room n weighted t query share0 share1 (length area) h in
      (told_kind n weighted t query share0 share1 (length area) h, r.0, rw r.0 r.1, refl)

  -- Where the query is bytes, a next query has 6 bytes and its prefixes one bit longer, a list its strings of n bits, each packed, and 'ended' nothing.
  pub combine_length : AreBytes query → combined.number ≡ 0
      → ((qs : List Bits) → combine_answer n weighted t query share0 share1 ≡ next qs → length combined.written ≡ 6 + length qs * packed_length (suc (prefix_length query)))
      × ((ss : List Bits) → combine_answer n weighted t query share0 share1 ≡ list ss → length combined.written ≡ length ss * packed_length n)
      × (combine_answer n weighted t query share0 share1 ≡ ended → length combined.written ≡ 0)
  combine_length query-byte h = (
    next_length n weighted t query share0 share1 (length area) h query-byte,
    list_length_lem n weighted t query share0 share1 (length area) h query-byte,
    ended_length n weighted t query share0 share1 (length area) h query-byte,
  )

-- ---- the whole search

module _ (s : Lent) where
  -- Where the public shares are bytes, its number is due, and no other is.
  pub search_number_lem : AreBytes s.shares0 → AreBytes s.shares1
      → Due (search_causes s) (search_number s) × ((k : ℕ) → Due (search_causes s) k → k ≡ search_number s)
  search_number_lem byte0 byte1 = let d = search_due s byte0 byte1 in (d, λ k h. due_unique (search_causes s) h d)

  -- A refusal returns the lengths 0 and leaves the list area as it was.
  pub search_refused : search_number s ≢ 0 → (record_length s ≡ 0) × (list_length s ≡ 0) × (list_after s ≡ s.list_area)
  search_refused h = (areas.record_length_refused s h, areas.list_length_refused s h, areas.list_refused s h)

  -- A refusal with another number than 11 leaves the record area as it was.
  pub record_refused : search_number s ≢ 0 → search_number s ≢ 11 → record_after s ≡ s.record_area
  record_refused = areas.record_refused s

  -- Where the number is 11, the record area becomes zero bytes.
  pub record_zeroed : search_number s ≡ 11 → record_after s ≡ replicate (length s.record_area) 0
  record_zeroed = areas.record_zeroed s

  -- Success returns the record's length, the record fits, and the bytes past it are as they were.
  pub record_written : search_number s ≡ 0
      → (record_length s ≡ length (record_bytes s)) × (record_length s ≤ length s.record_area)
      × (record_after s ≡ record_bytes s ++ drop (record_length s) s.record_area)
  record_written h = (areas.record_length_lem s h, areas.record_room s h, areas.record_written s h)

  -- Success returns the list's length, the list fits, and the bytes past it are as they were.
  pub list_written : search_number s ≡ 0
      → (list_length s ≡ length (list_bytes s)) × (list_length s ≤ length s.list_area)
      × (list_after s ≡ list_bytes s ++ drop (list_length s) s.list_area)
  list_written h = (areas.list_length_lem s h, areas.list_room_lem s h, areas.list_written s h)

  -- Both areas keep their lengths.
  pub area_lengths : (length (record_after s) ≡ length s.record_area) × (length (list_after s) ≡ length s.list_area)
  area_lengths = (areas.record_area_length s, areas.list_area_length s)
