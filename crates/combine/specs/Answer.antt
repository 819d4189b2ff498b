-- What combining answers: document 01, 'The search'.
use Rattle.std.specs.Prelude.{ℕ, cond, List, [], ◌∷◌, eqb, Result, Ok, Err}
use Rattle.std.proofs.Math.Option.{Option, none, some}
use Rattle.bits.specs.Strings.{Bits}
use Rattle.calls.specs.declared.Refusal.{Refusal}
use Rattle.query.specs.Query.{packs, query, children}
use Rattle.combine.specs.declared.Combined.{Combined}
use Rattle.combine.specs.declared.Combined.TheVariants.{Next, List as Listed, Ended}

-- ---- the answer

-- The next query's prefixes; the heavy strings; or the search ended.
pub data Answer : Type 0 where
  next : List Bits → Answer
  list : List Bits → Answer
  ended : Answer

-- before length n: ended exactly when nothing is kept, else both children of each kept prefix
abbrev pub further : List Bits → Answer
further [] = ended
further (p ∷ ps) = next (children (p ∷ ps))

-- the answer where the prefixes ps, of k bits each, are kept: at length n the list, empty or not
abbrev pub answer_at : ℕ → ℕ → List Bits → Answer
answer_at n k ps = cond (eqb k n) (list ps) (further ps)

-- what is written of an answer to a query for prefixes of k bits
abbrev pub answer_bytes : ℕ → Answer → List ℕ
answer_bytes k (next qs) = query k qs
answer_bytes k (list ss) = packs ss
answer_bytes k ended = []

-- ---- the values that the call returns

-- The three kinds of answer.
pub data Kind : Type 0 where
  next_query : Kind
  heavy_list : Kind
  search_ended : Kind

abbrev pub kind : Answer → Kind
kind (next qs) = next_query
kind (list ss) = heavy_list
kind ended = search_ended

-- the length of what the call returns
abbrev pub length_of : Result Combined Refusal → ℕ
length_of (Ok (Next length)) = length
length_of (Ok (Listed length)) = length
length_of (Ok Ended) = 0
length_of (Err refusal) = 0

-- its kind; a refusal has none of the three
abbrev pub kind_of : Result Combined Refusal → Option Kind
kind_of (Ok (Next length)) = some next_query
kind_of (Ok (Listed length)) = some heavy_list
kind_of (Ok Ended) = some search_ended
kind_of (Err refusal) = none
