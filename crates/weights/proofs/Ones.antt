-- A weight of one for each string.
use Prim.Native.Nat.{ℕ, zero, suc, ◌<◌}
use native.Mathlib.Omega.{arith}
use mathlib.Core.Path.{◌≡◌, refl}
use mathlib.Core.List.{List, [], ◌∷◌}
use lib.ListN.{length, get_or}
use lib.IntN.{ℤ, pos}
use lib.Signed.{le_z_yes}
use Rattle.places.specs.Lists.{All}
use Rattle.bits.specs.Strings.{Bits}
use Rattle.weights.specs.Weights.{IsWeight, EveryOne}

abbrev pub ones : List Bits → List ℤ
ones [] = []
ones (x ∷ xs) = pos 1 ∷ ones xs

pub ones_length : (xs : List Bits) → length (ones xs) ≡ length xs
ones_length [] = refl
ones_length (x ∷ xs) = omega (arith, ones_length xs)

pub ones_every : (xs : List Bits) → EveryOne (ones xs)
ones_every [] = tt
ones_every (x ∷ xs) = (refl, ones_every xs)

pub ones_weights : (xs : List Bits) → All IsWeight (ones xs)
ones_weights [] = tt
ones_weights (x ∷ xs) = (record { least = le_z_yes tt; most = le_z_yes tt }, ones_weights xs)

pub ones_at : (xs : List Bits) (i : ℕ) → i < length xs → get_or (ones xs) i (pos 0) ≡ pos 1
ones_at [] i h = absurd (omega arith)
ones_at (x ∷ xs) zero h = refl
ones_at (x ∷ xs) (suc i) h = ones_at xs i (omega arith)
