-- The numbers of two shares, and their sums, one after the other: how a loop over them goes on.
use Prim.Native.Nat.{ℕ, zero, suc, ◌+◌, ◌-◌, ◌/◌, ◌≤◌, ◌<◌}
use native.Mathlib.Omega.{arith}
use mathlib.Core.Path.{◌≡◌, refl}
use mathlib.Core.Bool.{true, false}
use mathlib.Core.List.{List, [], ◌∷◌}
use borrow.Author.Tests.{lt-ltb, le-ltb}
use lib.ListN.{length}
use Rattle.numbers.specs.Numbers.{from_little}
use Rattle.places.specs.Places.{window}
use Rattle.group.specs.Group.{Group}
use Rattle.group.specs.Modular.{p, field}
use Rattle.query.specs.Query.{parts}
use Rattle.query.proofs.Pieces as pieces
use Rattle.query.proofs.Pieces.{numbers_at, numbers_step}
use Rattle.shares.specs.ShareNumbers.{numbers, added, all_below}

-- ---- how many

pub added_length : (G : Group ℕ) (xs ys : List ℕ) → length xs ≡ length ys → length (added G xs ys) ≡ length xs
added_length G [] ys l = refl
added_length G (x ∷ xs) [] l = absurd (omega arith)
added_length G (x ∷ xs) (y ∷ ys) l = omega (arith, added_length G xs ys (omega arith))

pub numbers_length : (s : List ℕ) → length (numbers s) ≡ length s / 8
numbers_length s = pieces.numbers_length (length s / 8) 0 s

-- ---- numbers below p

module _ (m place : ℕ) (s : List ℕ) (h : 0 < m) (room : place + 8 ≤ length s) (x : ℕ) (e : x ≡ from_little (window 8 place s)) where
  pub below_yes : x < p → all_below (numbers_at m place s) ≡ all_below (numbers_at (m - 1) (place + 8) s)
  unfolding all_below
  below_yes l = rw (numbers_step m place s h room, ← e, lt-ltb x p l)

  pub below_no : p ≤ x → all_below (numbers_at m place s) ≡ false
  unfolding all_below
  below_no l = rw (numbers_step m place s h room, ← e, le-ltb x p l)

pub below_none : (m place : ℕ) (s : List ℕ) → m ≤ 0 → all_below (numbers_at m place s) ≡ true
unfolding parts all_below
below_none zero place s h = refl
below_none (suc m) place s h = absurd (omega arith)

-- ---- sums

module _ (s0 s1 : List ℕ) where
  -- the sum at a place
  abbrev pub added_at : ℕ → ℕ
  added_at place = field.add (from_little (window 8 place s0)) (from_little (window 8 place s1))

  -- m sums from a place on
  abbrev pub added_from : ℕ → ℕ → List ℕ
  added_from m place = added field (numbers_at m place s0) (numbers_at m place s1)

  pub added_step : (m place : ℕ) → 0 < m → place + 8 ≤ length s0 → place + 8 ≤ length s1 → added_from m place ≡ added_at place ∷ added_from (m - 1) (place + 8)
  added_step m place h room0 room1 = rw (numbers_step m place s0 h room0, numbers_step m place s1 h room1)

  pub added_none : (m place : ℕ) → m ≤ 0 → added_from m place ≡ []
  unfolding parts
  added_none zero place h = refl
  added_none (suc m) place h = absurd (omega arith)
