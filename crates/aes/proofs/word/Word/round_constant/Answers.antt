-- `aes::word::Word::round_constant` meets its contract. The ten constants are computed.
use mathlib.Core.Path.{ap, ◌∙◌}
use mathlib.Core.List.{List, [], ◌∷◌}
use mathlib.Core.Bool.{Bool}
use Prim.Native.Nat.{ℕ, ◌+◌, ◌-◌}
use lib.Dec.{eqb, eqb→eq}
use lib.ListN.{get_or}
use Rattle.aes.specs.Fips197.{power_of_x}
use Rattle.aes.proofs.Computes.{computes}
use Rattle.gf256.proofs.Below.{below}
use borrow.Author.Rules.{rules}
use Rattle.aes.proofs.word.Word.round_constant.Goals as goal

constants : List ℕ
constants = 1 ∷ 2 ∷ 4 ∷ 8 ∷ 16 ∷ 32 ∷ 64 ∷ 128 ∷ 27 ∷ 54 ∷ []

right : ℕ → Bool
right i = eqb (get_or constants i 0) (power_of_x (i + 1 - 1))

pub returns : goal.returns
unfolding constants right computes
returns c =
    let i = c.args.i in
    c.load.ensures
    ∙ ap (λ (x : ℕ). x ∷ 0 ∷ 0 ∷ 0 ∷ []) (eqb→eq (get_or constants i 0) (power_of_x (i + 1 - 1)) (below right 10 tt i (search rules)))
