-- Computed facts that pin the definitions: the least and the greatest weight, and what weights of both signs add to.
use mathlib.Core.Path.{◌≡◌, refl}
use mathlib.Core.Bool.{true, false}
use mathlib.Core.List.{[], ◌∷◌}
use lib.IntN.{pos, negsuc}
use lib.Signed.{le_z_yes}
use Rattle.weights.specs.Weights.{IsWeight, held_weight}

-- −32,768 and 32,767 are weights.
pub least_weight : IsWeight (negsuc 32767)
least_weight = record { least = le_z_yes tt; most = le_z_yes tt }

pub greatest_weight : IsWeight (pos 32767)
greatest_weight = record { least = le_z_yes tt; most = le_z_yes tt }

-- −32,769 and 32,768 are none.
pub below_weights : IsWeight (negsuc 32768) → ⊥
below_weights h = h.least.le

pub above_weights : IsWeight (pos 32768) → ⊥
above_weights h = h.most.le

-- Of `01`, `00` and `10` with the weights 5, −7 and 3 those with `0` add to −2.
pub held_below_zero :
    held_weight ((false ∷ true ∷ []) ∷ (false ∷ false ∷ []) ∷ (true ∷ false ∷ []) ∷ []) (pos 5 ∷ negsuc 6 ∷ pos 3 ∷ []) (false ∷ []) ≡ negsuc 1
held_below_zero = refl
