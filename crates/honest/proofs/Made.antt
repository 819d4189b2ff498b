-- Reports as the theory has them, and what the servers are lent for them.
use Prim.Native.Nat.{ℕ, ◌<◌}
use mathlib.Core.Bool.{Bool}
use mathlib.Core.List.{List, [], ◌∷◌, ◌++◌}
use lib.ListN.{length}
use Rattle.bits.specs.Strings.{Bits}
use Rattle.group.specs.Modular.{p}
use Rattle.expander.specs.declared.Expander.{Expander}
use Rattle.point.specs.Evaluation.{bit_of}
use Rattle.point.specs.Totals.{Report, Made, root_seed, report_public_share}
use Rattle.point.specs.Instance.{scheme}
use Rattle.report_sums.specs.Reports.{all_count, server_sum}

-- A report is made for a search of n bits: its string has n bits, its root seeds 16 bytes each, and its weight is a group number.
abbrev pub MadeReport : ℕ → Report ℕ → Type 0
MadeReport n r = Made (λ x. x < p) n r

-- what f gives for each report, one after the other
unfoldable pub one_by_one : (Report ℕ → List ℕ) → List (Report ℕ) → List ℕ
one_by_one f [] = []
one_by_one f (r ∷ rs) = f r ++ one_by_one f rs

-- the root seeds that server b is lent: its own of each report
abbrev pub lent_seeds : Bool → List (Report ℕ) → List ℕ
lent_seeds b = one_by_one (root_seed b)

-- the public shares that both servers are lent: what the key maker gave for each report, with the search's expander
abbrev pub lent_shares : Expander → ℕ → List (Report ℕ) → List ℕ
lent_shares e n = one_by_one (report_public_share (scheme e) n)

-- server b's sum over what it is lent, at the prefix q
abbrev pub sum_at : Expander → ℕ → List (Report ℕ) → Bool → Bits → ℕ
sum_at e n rs b q = server_sum e n b (lent_seeds b rs) (lent_shares e n rs) all_count (bit_of q) (length q)
