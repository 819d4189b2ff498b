-- The digits of a number of 64 bits are those of its tenth, and one more.
use Prim.Native.Nat.{ℕ, ◌+◌, ◌/◌, ◌%◌, ◌^◌, ◌≤◌, ◌<◌}
use native.Mathlib.Omega.{arith}
use mathlib.Core.Path.{◌≡◌, ap, ◌∙◌}
use mathlib.Core.List.{List, [], ◌∷◌, ◌++◌}
use lib.ListN.{length, length-append}
use Rattle.exam_text.specs.Characters.{decimal}
use Rattle.exam_text.proofs.Decimals.{decimal_more, decimal_enough}

module _ (x : ℕ) (b : x < 2 ^ 64) (h : 10 ≤ x) where
  pub decimal_long : decimal x ≡ decimal (x / 10) ++ ((48 + x % 10) ∷ [])
  decimal_long = decimal_more 19 x h ∙ ap (λ (d : List ℕ). d ++ ((48 + x % 10) ∷ [])) (decimal_enough 18 19 (x / 10) (omega arith) (omega arith))

  pub decimal_long_length : length (decimal x) ≡ length (decimal (x / 10)) + 1
  decimal_long_length = ap length decimal_long ∙ length-append (decimal (x / 10)) ((48 + x % 10) ∷ [])
