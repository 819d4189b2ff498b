-- Demand 2: keys and shares, what combining writes, and what the list of an accepted search holds.
use Rattle.std.specs.Prelude.{Some}
use mathlib.Core.Path.{◌≡◌, refl, sym, ap, ap₂, ◌∙◌}
use mathlib.Core.Logic.{◌↔◌}
use mathlib.Core.Bool.{Bool, true, false, cond}
use mathlib.Core.List.{List, [], ◌∷◌}
use mathlib.Core.Option.{some}
use Prim.Native.Nat.{ℕ, zero, suc, ◌+◌, ◌*◌, ◌/◌, ◌%◌, ◌≤◌, ◌<◌}
use native.Mathlib.Omega.{arith}
use lib.ListN.{length, get_or, length-append}
use lib.IntN.{ℤ, pos}
use Rattle.places.specs.Lists.{◌∈◌, All}
use Rattle.bits.specs.Strings.{Bits, ◌▹◌, is_prefix, count, Ascending}
use Rattle.places.specs.Places.{Bytes}
use Rattle.bits.specs.Packing.{pack}
use Rattle.calls.specs.Bounds.{threshold_most}
use Rattle.calls.specs.Outcome.{Outcome, accepted}
use Rattle.expander.specs.Expander.{choice_of, is_expander}
use Rattle.expander.specs.declared.Expander.{Expander}
use Rattle.group.specs.Modular.{modulus, field}
use Rattle.signed.specs.SignedReading.{embed}
use Rattle.signed.proofs.Embedding.{embed_below}
use Rattle.weights.specs.Weights.{IsWeight, EveryOne, held_weight}
use Rattle.point.specs.Correction.{Correction}
use Rattle.point.specs.Keys.{key_correction}
use Rattle.point.specs.Evaluation.{bit_of, share_at}
use Rattle.point.specs.PublicShare.{joined, public_share, public_share_length}
use Rattle.point.specs.Totals.{report_correction, report_share, report_public_share}
use Rattle.point.specs.Instance.{scheme}
use Rattle.point.proofs.Instance.{scheme_correct}
use Rattle.query.specs.Query.{OfLength, packs, query as query_of, IsQuery, prefix_length, prefix_count, prefixes_of, children}
use Rattle.tree.specs.SearchRule.{totals, search_list, Ended}
use Rattle.tree.specs.Cut.{Heavy, honest_list, times}
use Rattle.tree.specs.Space.{fewest_holders, record_space, list_space}
use Rattle.places.proofs.Lists.{all_map}
use Rattle.query.proofs.Queries.{query_passes}
use Rattle.tree.proofs.Kept as kept
use Rattle.tree.proofs.Totals as strings
use Rattle.tree.proofs.Demands.{honest_exact, honest_ascending, honest_once}
use Rattle.space.specs.SearchSpace.{named_record_space, named_list_space}
use Rattle.space.proofs.Within.{named_record, named_list}
use Rattle.keymaker.specs.Key.{key_outcome}
use Rattle.report_sums.specs.Reports.{seed_at, all_count, sum_where, lent_share, server_sum}
use Rattle.idpf.specs.Share.{share_outcome}
use Rattle.combine.specs.Answer.{next_query}
use Rattle.combine.specs.Combine.{kept_prefixes, combine_outcome, combine_kind}
use Rattle.combine.proofs.NextPasses as passing
use Rattle.search.specs.Search.{Lent, counted_number, threshold_of, reaches_of, total, list_bytes, list_length}
use Rattle.search.proofs.Outcome.{accepted_clear, named_expander}
use Rattle.honest.specs.Honest.{AreBytes, Accepted, list_read, Honest, counted_strings, counted_weights}
use Rattle.honest.proofs.Keys.{made_report, key_accepted}
use Rattle.honest.proofs.Shares.{query_prefixes, share_lent}
use Rattle.honest.proofs.Reports.{reports_of, reports_length, reports_made_lem, reports_seeds0, reports_seeds1, reports_shares0, reports_shares1, share_of0, share_of1, sum_of0, sum_of1}
use Rattle.honest.proofs.Reading.{list_read_lem, list_whole}
use Rattle.honest.proofs.Counted.{reports_number, sums_add, accepted_total, accepted_kept, accepted_list}
use Rattle.honest.proofs.Accepting.{space_accepted}
use Rattle.honest.proofs.Making.{made_honest}

-- ---- keys and shares

-- For a string of 1 to 256 bits, root seeds of 16 bytes, an expander's number (1 names Aes and 2 Classroom), a weight and room enough the key maker
-- succeeds and writes the public share of the point function's correction words for that string and the weight as a group number.
pub key_made : (e : Expander) (expander : ℕ) → choice_of expander ≡ Some e → (w : ℤ) (x : Bits) → 1 ≤ length x → length x ≤ 256
    → (seed0 seed1 : List ℕ) → Bytes 16 seed0 → Bytes 16 seed1 → (room : ℕ) → public_share_length (length x) ≤ room
    → key_outcome (length x) expander w (pack x) seed0 seed1 room
    ≡ accepted (public_share (length x) (key_correction (scheme e) (embed modulus w) (bit_of x) seed0 seed1))
unfolding report_public_share report_correction
key_made e expander named w x from to seed0 seed1 sized0 sized1 room fits =
    key_accepted e (length x) _ (made_report {string = x} {seed0 = seed0} {seed1 = seed1} w refl sized0 sized1) w refl expander named from to room fits

-- With those correction words both servers' shares at a prefix add to the weight if the string has it, and to 0 if not.
pub key_correct : (e : Expander) (w : ℤ) (x : Bits) (seed0 seed1 : List ℕ) → Bytes 16 seed0 → Bytes 16 seed1
    → (q : Bits) → 0 < length q → length q ≤ length x
    → let words = key_correction (scheme e) (embed modulus w) (bit_of x) seed0 seed1 in
    (share_at (scheme e) words seed0 false q + share_at (scheme e) words seed1 true q) % modulus ≡ cond (is_prefix q x) (embed modulus w) 0
key_correct e w x seed0 seed1 sized0 sized1 q least fits =
    scheme_correct e (embed modulus w) (embed_below modulus (omega arith) w) seed0 seed1 sized0 sized1 x q least fits

-- For honest reports and an expander's number (1 names Aes and 2 Classroom) each server's share of a report is the point function's, with the
-- correction words of that report's key, and each server's sum is the sum of these shares over all reports.
pub shares_made : (s : Lent) (xs : List Bits) (ws : List ℤ) → Honest s xs ws → 1 ≤ s.n → s.n ≤ 256 → (e : Expander) → choice_of s.expander ≡ Some e
    → (q : Bits) → length q ≤ s.n
    → let words : ℕ → ℕ → Correction ℕ = λ i. key_correction (scheme e) (embed modulus (get_or ws i (pos 0))) (bit_of (get_or xs i [])) (seed_at s.seeds0 i) (seed_at s.seeds1 i) in
    let share0 : ℕ → ℕ = λ i. share_at (scheme e) (words i) (seed_at s.seeds0 i) false q in
    let share1 : ℕ → ℕ = λ i. share_at (scheme e) (words i) (seed_at s.seeds1 i) true q in
    ((i : ℕ) → i < length xs → lent_share e s.n false s.seeds0 s.shares0 (bit_of q) (length q) i ≡ share0 i)
    × ((i : ℕ) → i < length xs → lent_share e s.n true s.seeds1 s.shares1 (bit_of q) (length q) i ≡ share1 i)
    × (server_sum e s.n false s.seeds0 s.shares0 all_count (bit_of q) (length q) ≡ sum_where field all_count (length xs) share0)
    × (server_sum e s.n true s.seeds1 s.shares1 all_count (bit_of q) (length q) ≡ sum_where field all_count (length xs) share1)
unfolding report_share report_correction
shares_made s xs ws honest from to e named q fits = (
  λ i h. share_of0 s xs ws honest e named from to i h q fits,
  λ i h. share_of1 s xs ws honest e named from to i h q fits,
  sum_of0 s xs ws honest e named from to q fits,
  sum_of1 s xs ws honest e named from to q fits,
)

-- For honest reports, an expander's number (1 names Aes and 2 Classroom) and a query both servers succeed, and prefix by prefix of the query what
-- they write adds to what the weights of its holders add to, as a group number.
pub shares_add : (s : Lent) (xs : List Bits) (ws : List ℤ) → Honest s xs ws → 1 ≤ s.n → s.n ≤ 256 → length xs ≤ 65535
    → (e : Expander) → choice_of s.expander ≡ Some e → (query : List ℕ) → IsQuery s.n query
    → (room0 room1 : ℕ) → 8 * prefix_count query ≤ room0 → 8 * prefix_count query ≤ room1
    → let sum0 : Bits → ℕ = λ q. server_sum e s.n false s.seeds0 s.shares0 all_count (bit_of q) (length q) in
    let sum1 : Bits → ℕ = λ q. server_sum e s.n true s.seeds1 s.shares1 all_count (bit_of q) (length q) in
    (share_outcome s.n s.expander false s.seeds0 s.shares0 query room0 ≡ accepted (totals sum0 (prefixes_of query)))
    × (share_outcome s.n s.expander true s.seeds1 s.shares1 query room1 ≡ accepted (totals sum1 (prefixes_of query)))
    × All (λ q. (sum0 q + sum1 q) % modulus ≡ embed modulus (held_weight (counted_strings s xs) (counted_weights s ws) q)) (prefixes_of query)
shares_add s xs ws honest from to few e named query asks room0 room1 fits0 fits1 =
    let rs = reports_of s xs ws in
    let these = reports_made_lem s xs ws honest in
    let most : length rs ≤ 65535 = omega (arith, few, reports_length s xs ws) in
    let passes = query_passes s.n query asks in (
      share_lent e s.expander named s.n from to rs these most false _ _
          (reports_seeds0 s xs ws honest) (reports_shares0 s xs ws honest e named from to) query passes room0 fits0,
      share_lent e s.expander named s.n from to rs these most true _ _
          (reports_seeds1 s xs ws honest) (reports_shares1 s xs ws honest e named from to) query passes room1 fits1,
      all_map (λ q. (0 < length q) × (length q ≤ s.n)) _ (λ q h. sums_add s xs ws honest e named from to q h.0 h.1) (prefixes_of query) (query_prefixes s.n query passes),
    )

-- ---- combining

-- Where combining answers a query of bytes and names a next query, what it writes is the query for both children of each kept prefix, and passes 9.
pub next_passes : (n : ℕ) (weighted : Bool) (t : ℕ) (query share0 share1 : List ℕ) (room : ℕ) → AreBytes query → combine_kind n weighted t query share0 share1 room ≡ some next_query
    → ((combine_outcome n weighted t query share0 share1 room).written ≡ query_of (prefix_length query) (children (kept_prefixes weighted t query share0 share1)))
    × IsQuery n (combine_outcome n weighted t query share0 share1 room).written
next_passes n weighted t query share0 share1 room byte told =
    let is = passing.next_told n weighted t query share0 share1 room told in
    (passing.next_written n weighted t query share0 share1 room _ is.1 is.0, passing.next_passes n weighted t query share0 share1 room _ is.1 is.0 byte)

-- ---- honest searches

-- Any strings of n bits, any weights, each one where the search is not weighted, and any root seeds, lent with the public shares that the key maker
-- writes for them one after the other, are honest.
pub honest_made : (n : ℕ) (weighted : Bool) (t expander : ℕ) (xs : List Bits) (ws : List ℤ) (seeds0 seeds1 record_area list_area : List ℕ)
    → 1 ≤ n → n ≤ 256 → is_expander expander ≡ true
    → OfLength n xs → length ws ≡ length xs → All IsWeight ws → (weighted ≡ false → EveryOne ws)
    → Bytes (16 * length xs) seeds0 → Bytes (16 * length xs) seeds1
    → let key : ℕ → Outcome = λ i. key_outcome n expander (get_or ws i (pos 0)) (pack (get_or xs i [])) (seed_at seeds0 i) (seed_at seeds1 i) (public_share_length n) in
    let shares = joined (length xs) (λ i. (key i).written) in
    Honest (record {
      n = n;
      weighted = weighted;
      t = t;
      expander = expander;
      seeds0 = seeds0;
      shares0 = shares;
      seeds1 = seeds1;
      shares1 = shares;
      record_area = record_area;
      list_area = list_area;
    }) xs ws
honest_made n weighted t expander xs ws seeds0 seeds1 record_area list_area from to known bits weighed weights unweighted sized0 sized1 =
    made_honest _ xs ws bits sized0 sized1 (named_expander expander known).0 (named_expander expander known).1 from to weighed weights unweighted refl refl

-- An honest search with n, t, the expander and the number of reports in their bounds, and with its space, is accepted.
pub honest_accepted : (s : Lent) (xs : List Bits) (ws : List ℤ) → Honest s xs ws → 1 ≤ s.n → s.n ≤ 256 → 1 ≤ threshold_of s → threshold_of s ≤ threshold_most s.weighted
    → is_expander s.expander ≡ true → length xs ≤ 65535
    → let C = length (counted_strings s xs) in
    let h = fewest_holders s.weighted (threshold_of s) in
    record_space s.n h C ≤ length s.record_area → list_space s.n h C ≤ length s.list_area → Accepted s
honest_accepted s xs ws honest from to least most known few room list = space_accepted s xs ws honest from to least most known few room list

-- So is one with the space that `record_space` and `list_space` name for it.
pub named_space_accepted : (s : Lent) (xs : List Bits) (ws : List ℤ) → Honest s xs ws → 1 ≤ s.n → s.n ≤ 256 → 1 ≤ threshold_of s → threshold_of s ≤ threshold_most s.weighted
    → is_expander s.expander ≡ true → length xs ≤ 65535
    → let C = length (counted_strings s xs) in
    named_record_space s.n s.weighted (threshold_of s) C ≤ length s.record_area
    → named_list_space s.n s.weighted (threshold_of s) C ≤ length s.list_area → Accepted s
named_space_accepted s xs ws honest from to least most known few room list =
    let C = length (counted_strings s xs) in
    honest_accepted s xs ws honest from to least most known few
    (omega (arith, named_record s.n s.weighted (threshold_of s) C from to least most few, room))
    (omega (arith, named_list s.n s.weighted (threshold_of s) C from to least most few, list))

-- ---- the list

-- Where every weight is one, the list of an accepted search of honest reports holds every string of n bits that at least t installations hold and no
-- other, packed, strictly ascending and once each.
pub honest_list_lem : (s : Lent) (xs : List Bits) (ws : List ℤ) → Honest s xs ws → EveryOne ws → Accepted s
    → (ss : List Bits) × (list_read s ≡ packs ss) × Ascending ss × ((x : Bits) → times x ss ≤ 1)
    × ((x : Bits) → (x ∈ ss) ↔ ((length x ≡ s.n) × Heavy (threshold_of s) (counted_strings s xs) x))
honest_list_lem s xs ws honest ones ok = (
  honest_list s.n s.t xs,
  accepted_list s xs ws honest ok ones,
  honest_ascending s.n s.t xs,
  honest_once s.n s.t xs,
  honest_exact s.n s.t xs (accepted_clear s ok).sound.some_bits,
)

-- Whatever reports were lent, the list of an accepted search has the length that it returns, and lies in the list area.
pub list_inside : (s : Lent) → Accepted s → (length (list_read s) ≡ list_length s) × (list_length s ≤ length s.list_area)
list_inside s ok = list_whole s ok

-- Whatever reports were lent, an accepted search that ends has an empty list.
pub ended_empty : (s : Lent) → Accepted s → Ended (reaches_of s) (total s) s.n → (list_read s ≡ []) × (list_length s ≡ 0)
unfolding list_bytes packs
ended_empty s ok ended =
    let none : list_read s ≡ [] = list_read_lem s ok ∙ ap packs (kept.ended_empty (reaches_of s) (total s) s.n ended) in
    (none, sym (list_whole s ok).0 ∙ ap length none)

-- ---- the totals

-- Where every weight is one, in an accepted search of honest reports the total of a prefix of 1 to n bits is the number of strings that have it.
pub honest_total : (s : Lent) (xs : List Bits) (ws : List ℤ) → Honest s xs ws → EveryOne ws → Accepted s → (q : Bits) → 0 < length q → length q ≤ s.n → total s q ≡ count (counted_strings s xs) q
honest_total s xs ws honest ones ok q least fits = accepted_total s xs ws honest ok ones q least fits

-- There the totals of two children add to their parent's,
pub children_add : (s : Lent) (xs : List Bits) (ws : List ℤ) → Honest s xs ws → EveryOne ws → Accepted s
    → (q : Bits) → 0 < length q → length q < s.n → total s (q ▹ false) + total s (q ▹ true) ≡ total s q
children_add s xs ws honest ones ok q least short =
    let longer : (b : Bool) → length (q ▹ b) ≡ suc (length q) = λ b. omega (arith, length-append q (b ∷ [])) in
    let child : (b : Bool) → total s (q ▹ b) ≡ count xs (q ▹ b) =
    λ b. accepted_total s xs ws honest ok ones (q ▹ b) (omega (arith, longer b)) (omega (arith, longer b)) in
    ap₂ ◌+◌ (child false) (child true)
    ∙ sym (strings.count_children s.n xs honest.n_bits q short)
    ∙ sym (accepted_total s xs ws honest ok ones q least (omega arith))

-- the first two totals add to the number of counted reports,
pub first_add : (s : Lent) (xs : List Bits) (ws : List ℤ) → Honest s xs ws → EveryOne ws → Accepted s → total s (false ∷ []) + total s (true ∷ []) ≡ counted_number s
first_add s xs ws honest ones ok =
    let from = (accepted_clear s ok).sound.some_bits in
    ap₂ ◌+◌ (accepted_total s xs ws honest ok ones (false ∷ []) (omega arith) from) (accepted_total s xs ws honest ok ones (true ∷ []) (omega arith) from)
    ∙ strings.first_totals s.n xs honest.n_bits from ∙ sym (reports_number s xs ws honest)

-- and a query after the first, for prefixes of k + 1 bits, has at most twice as many as C ÷ t, rounded down.
pub query_most : (s : Lent) (xs : List Bits) (ws : List ℤ) → Honest s xs ws → EveryOne ws → Accepted s → (k : ℕ) → 1 ≤ k → k < s.n
    → length (children (search_list (reaches_of s) (total s) k)) ≤ 2 * (length (counted_strings s xs) / threshold_of s)
query_most s xs ws honest ones ok zero least l = absurd (omega arith)
query_most s xs ws honest ones ok (suc k) least l =
    rw (accepted_kept s xs ws honest ok ones (suc k) (omega arith))
    (strings.query_most s.n s.t xs honest.n_bits (accepted_clear s ok).sound.some_threshold k (omega arith))
