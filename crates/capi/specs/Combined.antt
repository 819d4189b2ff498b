-- The kinds of combining's answers as C reads them.
use Rattle.std.specs.Prelude.{ℕ, Bool, List}
use Rattle.std.proofs.Math.Option.{Option, none, some}
use Rattle.combine.specs.Answer.{Kind, next_query, heavy_list, search_ended}
use Rattle.combine.specs.Combine.{CombineExit, combine_exit}
use Rattle.capi.specs.declared.CombineReply.{CombineReply}

-- 0 for a refusal, 1 for the next query, 2 for the list, 3 where the search ended
abbrev pub kind_number : Option Kind → ℕ
kind_number none = 0
kind_number (some next_query) = 1
kind_number (some heavy_list) = 2
kind_number (some search_ended) = 3

-- The number, the kind as C reads it and the length that the call returns, and the lent space at exit.
pub record InC : Type 0 where
  pub number : ℕ
  pub kind : ℕ
  pub length : ℕ
  pub area : List ℕ

-- an exit with the kind as a number
abbrev pub as_numbers : CombineExit → InC
as_numbers x = record { number = x.number; kind = kind_number x.kind; length = x.length; area = x.area }

-- what combining returns, and the space that it is lent, at exit
abbrev pub combine_in_c : ℕ → Bool → ℕ → List ℕ → List ℕ → List ℕ → List ℕ → InC
combine_in_c n weighted t query share0 share1 area =
    let x = combine_exit n weighted t query share0 share1 area in
    record { number = x.number; kind = kind_number x.kind; length = x.length; area = x.area }

-- what was returned, and the space as it was left
abbrev pub in_c : CombineReply → List ℕ → InC
in_c r area = record { number = r.number; kind = r.kind; length = r.length; area = area }
