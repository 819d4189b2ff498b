-- Tests and what they decide: alternatives, numbers that differ, and a number outside its bounds.
use Prim.Native.Nat.{ℕ, ◌≤◌, ◌<◌}
use mathlib.Core.Path.{◌≡◌, refl}
use mathlib.Core.Bool.{Bool, true, false, not, true≢false, ◌||◌}
use mathlib.Core.Logic.{◌≢◌, ◌⊎◌, inl, inr}
use borrow.Author.Tests.{eq-eqb, ne_eqb, lt-ltb, le-ltb, ltb-false}
use lib.Dec.{T, eqb, ltb, ltb→lt, lt→ltb, T_not}
use Rattle.calls.specs.Bounds.{Outside, outside}

-- ---- one test

pub passed : (b : Bool) → T b → b ≡ true
passed true t = refl
passed false t = absurd t

pub failed : (b : Bool) → T (not b) → b ≡ false
failed false t = refl
failed true t = absurd t

pub failed_test : {b : Bool} → b ≡ false → T (not b)
failed_test h = rw h tt

-- two numbers differ
pub differ : (x y : ℕ) → T (not (eqb x y)) → x ≢ y
differ x y t q = T_not (eqb x y) t (rw (eq-eqb x y q) tt)

pub differ_test : (x y : ℕ) → x ≢ y → T (not (eqb x y))
differ_test x y h = rw (ne_eqb x y h) tt

-- ---- one or the other

module _ {P Q : Type 0} where
  pub either : (a b : Bool) → (T a → P) → (T b → Q) → T (a || b) → P ⊎ Q
  either true b f g t = inl (f tt)
  either false b f g t = inr (g t)

  pub either_test : (a b : Bool) → (P → T a) → (Q → T b) → P ⊎ Q → T (a || b)
  either_test true b f g h = tt
  either_test false b f g (inl h) = absurd (f h)
  either_test false b f g (inr h) = g h

pub neither : (a b : Bool) → (a || b) ≡ false → (a ≡ false) × (b ≡ false)
neither false b h = (refl, h)
neither true b h = absurd (true≢false h)

pub neither_test : {a b : Bool} → a ≡ false → b ≡ false → (a || b) ≡ false
neither_test h k = rw (h, k)

-- ---- bounds

module _ (most x : ℕ) where
  pub beyond : T (outside most x) → Outside most x
  beyond = either (ltb x 1) (ltb most x) (ltb→lt x 1) (ltb→lt most x)

  pub beyond_test : Outside most x → T (outside most x)
  beyond_test = either_test (ltb x 1) (ltb most x) (lt→ltb x 1) (lt→ltb most x)

  pub below_bounds : x < 1 → outside most x ≡ true
  below_bounds h = rw (lt-ltb x 1 h)

  pub above_bounds : 1 ≤ x → most < x → outside most x ≡ true
  above_bounds h k = rw (le-ltb x 1 h, lt-ltb most x k)

  pub bounds : outside most x ≡ false → (1 ≤ x) × (x ≤ most)
  bounds h = let e = neither (ltb x 1) (ltb most x) h in (ltb-false x 1 e.0, ltb-false most x e.1)

  pub in_bounds : 1 ≤ x → x ≤ most → outside most x ≡ false
  in_bounds h k = neither_test (le-ltb x 1 h) (le-ltb most x k)
