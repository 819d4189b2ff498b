-- A search played call by call: both servers answer a query, combining answers their two shares, and so on. Document 01, 'The search'.
use Rattle.std.specs.Prelude.{ℕ, zero, suc, ◌*◌, ◌≡◌, Bool, true, false, cond, List, [], ◌++◌, ◌⊎◌, length}
use Rattle.std.proofs.Math.Option.{Option, none, some}
use Rattle.bits.specs.Strings.{Bits}
use Rattle.numbers.specs.Numbers.{in_bytes}
use Rattle.calls.specs.Causes.{Cause}
use Rattle.calls.specs.Outcome.{Outcome}
use Rattle.group.specs.Modular.{field}
use Rattle.query.specs.Query.{query, prefix_length, prefix_count, children}
use Rattle.tree.specs.SearchRule.{start, search_list}
use Rattle.idpf.specs.Share.{share_outcome}
use Rattle.shares.specs.ShareNumbers.{numbers, added}
use Rattle.combine.specs.Answer.{Answer, answer_bytes, Kind, next_query, heavy_list, search_ended}
use Rattle.combine.specs.Combine.{combine_answer, space_causes, combine_outcome, combine_kind}
use Rattle.search.specs.Search.{Lent, threshold_of, reaches_of, total, search_number}

-- no cause before 11 applies to the search: its number is 0 or 11
abbrev pub Passes : Lent → Type 0
Passes s = (search_number s ≡ 0) ⊎ (search_number s ≡ 11)

-- the first query: `0`, `1`
abbrev pub first_query : List ℕ
first_query = query 0 (children start)

-- What the calls leave: of the record each query followed by its totals; and the list.
pub record Played : Type 0 where
  pub recorded : List ℕ
  pub listed : List ℕ

-- one round: the query q and its totals xs, and then the others
abbrev pub round : List ℕ → List ℕ → Played → Played
round q xs others = record { recorded = q ++ (in_bytes xs ++ others.recorded); listed = others.listed }

-- no round is left, and the list is what was written
abbrev pub over : List ℕ → Played
over bytes = record { recorded = []; listed = bytes }

-- what follows combining: the rounds from the next query on; or the list; a search that ends has an empty list, and a refusal names none
abbrev pub follow : (List ℕ → Played) → Option Kind → List ℕ → Played
follow play (some next_query) bytes = play bytes
follow play (some heavy_list) bytes = over bytes
follow play (some search_ended) bytes = over []
follow play none bytes = over []

module _ (s : Lent) where
  -- ---- the calls for a query q

  -- server b's outcome, with space for 8 bytes a prefix; and its share, which is what it writes
  abbrev pub share_of : Bool → List ℕ → Outcome
  share_of b q = share_outcome s.n s.expander b (cond b s.seeds1 s.seeds0) (cond b s.shares1 s.shares0) q (8 * prefix_count q)

  abbrev pub share_for : Bool → List ℕ → List ℕ
  share_for b q = (share_of b q).written

  -- the totals: the numbers of both shares, added as combining adds them
  abbrev pub totals_for : List ℕ → List ℕ
  totals_for q = added field (numbers (share_for false q)) (numbers (share_for true q))

  -- what combining is to answer to both shares, and the space that this takes
  abbrev pub answer_for : List ℕ → Answer
  answer_for q = combine_answer s.n s.weighted (threshold_of s) q (share_for false q) (share_for true q)

  abbrev pub space_for : List ℕ → ℕ
  space_for q = length (answer_bytes (prefix_length q) (answer_for q))

  -- combining's outcome with `room` bytes of space, and the kind of its answer
  abbrev pub combine_in : ℕ → List ℕ → Outcome
  combine_in room q = combine_outcome s.n s.weighted (threshold_of s) q (share_for false q) (share_for true q) room

  abbrev pub kind_in : ℕ → List ℕ → Option Kind
  kind_in room q = combine_kind s.n s.weighted (threshold_of s) q (share_for false q) (share_for true q) room

  -- the cause of combining that speaks of its space and of the limit
  abbrev pub space_in : ℕ → List ℕ → List Cause
  space_in room q = space_causes s.n s.weighted (threshold_of s) q (share_for false q) (share_for true q) room

  -- ---- the rounds

  -- what at most m rounds leave, the first of them for the query q
  unfoldable pub played : ℕ → List ℕ → Played
  played zero q = over []
  played (suc m) q = round q (totals_for q) (follow (played m) (kind_in (space_for q) q) (combine_in (space_for q) q).written)

  -- ---- the levels of the whole search

  -- the prefixes of k bits that it keeps; for k = 0 the empty prefix
  abbrev pub kept_at : ℕ → List Bits
  kept_at k = search_list (reaches_of s) (total s) k

  -- the query for both children of each
  abbrev pub query_at : ℕ → List ℕ
  query_at k = query k (children (kept_at k))
