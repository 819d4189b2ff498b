-- Laws of lists that are given by their places.
use mathlib.Core.Path.{◌≡◌, refl, ap}
use mathlib.Core.List.{List, [], ◌∷◌, map}
use Prim.Native.Nat.{ℕ, zero, suc, ◌<◌}
use native.Mathlib.Nat.{le_of_suc-le-suc, not-suc-le-zero}
use lib.ListN.{get_or}
use Rattle.gf256.specs.Field.{tabulate}

pub get_d_tabulate : (f : ℕ → ℕ) (n k : ℕ) → k < n → get_or (tabulate n f) k 0 ≡ f k
get_d_tabulate f zero k h = absurd (not-suc-le-zero h)
get_d_tabulate f (suc n) zero h = refl
get_d_tabulate f (suc n) (suc k) h = get_d_tabulate (λ i. f (suc i)) n k (le_of_suc-le-suc h)

pub cons4 : {a a' b b' c c' d d' : ℕ} → a ≡ a' → b ≡ b' → c ≡ c' → d ≡ d' → ◌≡◌ {A = List ℕ} (a ∷ b ∷ c ∷ d ∷ []) (a' ∷ b' ∷ c' ∷ d' ∷ [])
cons4 p q r s = cc

pub map_tabulate : (g f : ℕ → ℕ) (n : ℕ) → map g (tabulate n f) ≡ tabulate n (λ i. g (f i))
map_tabulate g f zero = refl
map_tabulate g f (suc n) = ap (λ (m : List ℕ). g (f 0) ∷ m) (map_tabulate g (λ i. f (suc i)) n)
