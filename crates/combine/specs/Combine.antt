-- The call `combine`: document 01, 'The search' and 'Causes of refusal', and document 02, [1].
use Rattle.std.specs.Prelude.{ℕ, ◌*◌, ◌<◌, Bool, false, cond, not, ◌&&◌, ◌||◌, List, [], ◌∷◌, ◌++◌, ◌≢◌, ◌⊎◌, length, ltb, eqb, Result}
use Rattle.std.proofs.Math.Option.{Option, none, some}
use Rattle.places.specs.Places.{overlay}
use Rattle.bits.specs.Strings.{Bits}
use Rattle.calls.specs.Bounds.{length_cause, threshold_cause}
use Rattle.calls.specs.Causes.{Cause, cause, number_due}
use Rattle.calls.specs.Refusals.{number_in}
use Rattle.calls.specs.declared.Refusal.{Refusal}
use Rattle.calls.specs.Outcome.{Outcome, judged}
use Rattle.group.specs.Modular.{field}
use Rattle.kept.specs.Kept.{reaches_as, kept}
use Rattle.query.specs.Query.{limit, IsQuery, is_query, prefix_length, prefix_count, prefixes_of}
use Rattle.shares.specs.ShareNumbers.{numbers, added, Unmatched, unmatched, numbers_cause}
use Rattle.combine.specs.Answer.{Answer, next, list, ended, answer_at, answer_bytes, Kind, kind, length_of, kind_of}
use Rattle.combine.specs.declared.Combined.{Combined}

-- Two lent shares have the wrong length: their lengths differ or are no multiple of 8, or the query passes 9 and its count is another.
abbrev pub WrongShares : ℕ → List ℕ → List ℕ → List ℕ → Type 0
WrongShares n query share0 share1 = Unmatched share0 share1 ⊎ (IsQuery n query × (length share0 ≢ 8 * prefix_count query))

abbrev pub wrong_shares : ℕ → List ℕ → List ℕ → List ℕ → Bool
wrong_shares n query share0 share1 = unmatched share0 share1 || (is_query n query && not (eqb (length share0) (8 * prefix_count query)))

-- the totals of two shares, each a whole number below p
abbrev pub share_totals : List ℕ → List ℕ → List ℕ
share_totals share0 share1 = added field (numbers share0) (numbers share1)

-- the prefixes of the query whose total passes a test
abbrev pub passing : (ℕ → Bool) → List ℕ → List ℕ → List ℕ → List Bits
passing passes query share0 share1 = kept passes (prefixes_of query) (share_totals share0 share1)

-- the kept prefixes of the query: those whose total, read as a signed number where the search is weighted, is at least t
abbrev pub kept_prefixes : Bool → ℕ → List ℕ → List ℕ → List ℕ → List Bits
kept_prefixes weighted t = passing (reaches_as weighted t)

-- the answer
abbrev pub combine_answer : ℕ → Bool → ℕ → List ℕ → List ℕ → List ℕ → Answer
combine_answer n weighted t query share0 share1 = answer_at n (prefix_length query) (kept_prefixes weighted t query share0 share1)

-- what is to be written
abbrev pub combine_bytes : ℕ → Bool → ℕ → List ℕ → List ℕ → List ℕ → List ℕ
combine_bytes n weighted t query share0 share1 = answer_bytes (prefix_length query) (combine_answer n weighted t query share0 share1)

-- a next query would pass 131,070 prefixes; and the test
abbrev pub PassesLimit : Answer → Type 0
PassesLimit (next qs) = limit < length qs
PassesLimit (list ss) = ⊥
PassesLimit ended = ⊥

abbrev pub passes_limit : Answer → Bool
passes_limit (next qs) = ltb limit (length qs)
passes_limit (list ss) = false
passes_limit ended = false

-- the causes of what is lent
abbrev pub lent_causes : ℕ → Bool → ℕ → List ℕ → List ℕ → List ℕ → List Cause
lent_causes n weighted t query share0 share1 =
    length_cause n
    ∷ threshold_cause weighted t
    ∷ cause 4 (WrongShares n query share0 share1) (wrong_shares n query share0 share1)
    ∷ numbers_cause share0 share1
    ∷ cause 9 (IsQuery n query → ⊥) (not (is_query n query))
    ∷ []

-- the cause of what is to be written
abbrev pub space_causes : ℕ → Bool → ℕ → List ℕ → List ℕ → List ℕ → ℕ → List Cause
space_causes n weighted t query share0 share1 room =
    cause 11 ((room < length (combine_bytes n weighted t query share0 share1)) ⊎ PassesLimit (combine_answer n weighted t query share0 share1))
    (ltb room (length (combine_bytes n weighted t query share0 share1)) || passes_limit (combine_answer n weighted t query share0 share1))
    ∷ []

-- all, in the order in which they are judged
abbrev pub combine_causes : ℕ → Bool → ℕ → List ℕ → List ℕ → List ℕ → ℕ → List Cause
combine_causes n weighted t query share0 share1 room = lent_causes n weighted t query share0 share1 ++ space_causes n weighted t query share0 share1 room

-- the outcome: the number, and what is written
unfoldable pub combine_outcome : ℕ → Bool → ℕ → List ℕ → List ℕ → List ℕ → ℕ → Outcome
combine_outcome n weighted t query share0 share1 room = judged (combine_causes n weighted t query share0 share1 room) (combine_bytes n weighted t query share0 share1)

-- the kind of answer where the number is 0; else none
abbrev pub kind_with : ℕ → Answer → Option Kind
kind_with number a = cond (eqb number 0) (some (kind a)) none

unfoldable pub combine_kind : ℕ → Bool → ℕ → List ℕ → List ℕ → List ℕ → ℕ → Option Kind
combine_kind n weighted t query share0 share1 room = kind_with (number_due (combine_causes n weighted t query share0 share1 room)) (combine_answer n weighted t query share0 share1)

-- The number, the kind of answer and the length that the call returns, and the lent space at exit.
pub record CombineExit : Type 0 where
  pub number : ℕ
  pub kind : Option Kind
  pub length : ℕ
  pub area : List ℕ

-- what the call returns, and the space that it is lent, at exit
abbrev pub combine_exit : ℕ → Bool → ℕ → List ℕ → List ℕ → List ℕ → List ℕ → CombineExit
combine_exit n weighted t query share0 share1 area =
    let o = combine_outcome n weighted t query share0 share1 (length area) in
    record { number = o.number; kind = combine_kind n weighted t query share0 share1 (length area); length = length o.written; area = overlay o.written area }

-- what was returned, and the space as it was left
unfoldable pub told : Result Combined Refusal → List ℕ → CombineExit
told r area = record { number = number_in r; kind = kind_of r; length = length_of r; area = area }
