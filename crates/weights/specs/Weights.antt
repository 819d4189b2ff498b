-- The weights of reports as signed numbers, and what those of a prefix's holders add to: document 02, [1].
use Rattle.std.specs.Prelude.{◌≡◌, cond, List, [], ◌∷◌, ℤ, pos, negsuc, ◌+ℤ◌, ◌≤ℤ◌}
use Rattle.places.specs.Lists.{All}
use Rattle.bits.specs.Strings.{Bits, is_prefix}

-- w is a weight: from −32,768 to 32,767
pub record IsWeight (w : ℤ) : Type 0 where
  pub least : negsuc 32767 ≤ℤ w
  pub most : w ≤ℤ pos 32767

-- every weight is one
abbrev pub EveryOne : List ℤ → Type 0
EveryOne ws = All (λ w. w ≡ pos 1) ws

-- what the weights of those that hold the prefix q add to, where ws are the weights of the strings xs, one for each, in order
abbrev pub held_weight : List Bits → List ℤ → Bits → ℤ
held_weight [] ws q = pos 0
held_weight (x ∷ xs) [] q = pos 0
held_weight (x ∷ xs) (w ∷ ws) q = cond (is_prefix q x) w (pos 0) +ℤ held_weight xs ws q
