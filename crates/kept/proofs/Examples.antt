-- Computed facts that pin the definitions: the edge of the threshold, and the strings that are kept.
use mathlib.Core.Path.{◌≡◌, refl}
use mathlib.Core.Bool.{true, false}
use mathlib.Core.List.{[], ◌∷◌}
use Rattle.kept.specs.Kept.{reaches, kept}

-- with threshold 2 a total of 2 is kept, and so is 3, and 1 is not
pub edge : (reaches 2 1 ≡ false) × (reaches 2 2 ≡ true) × (reaches 2 3 ≡ true)
edge = (refl, refl, refl)

-- of `0` with 2, `1` with 1 and `00` with 3, the first and the last are kept
pub two_kept : kept (reaches 2) ((false ∷ []) ∷ (true ∷ []) ∷ (false ∷ false ∷ []) ∷ []) (2 ∷ 1 ∷ 3 ∷ []) ≡ ((false ∷ []) ∷ (false ∷ false ∷ []) ∷ [])
two_kept = refl
