-- Laws of the kept strings, for any test of a number.
use Prim.Native.Nat.{ℕ, ◌+◌}
use native.Mathlib.Omega.{arith}
use mathlib.Core.Path.{◌≡◌, refl, ap}
use mathlib.Core.Bool.{Bool, true, false, cond}
use mathlib.Core.List.{List, [], ◌∷◌, map}
use lib.ListN.{length}
use Rattle.places.specs.Lists.{All, digit, how_many, select}
use Rattle.bits.specs.Strings.{Bits, Before, Ascending}
use Rattle.kept.specs.Kept.{kept}

module _ (passes : ℕ → Bool) where
  -- of a first string and number, where b tells whether the number passes
  pub kept_first : (s : Bits) (ss : List Bits) (x : ℕ) (xs : List ℕ) (b : Bool) → b ≡ passes x
      → kept passes (s ∷ ss) (x ∷ xs) ≡ cond b (s ∷ kept passes ss xs) (kept passes ss xs)
  kept_first s ss x xs b e = rw e

  -- what holds of all strings holds of those that are kept
  pub kept_all : (P : Bits → Type 0) (ss : List Bits) (xs : List ℕ) → All P ss → All P (kept passes ss xs)
  kept_all P [] xs a = tt
  kept_all P (s ∷ ss) [] a = tt
  kept_all P (s ∷ ss) (x ∷ xs) a = go (passes x) (kept_all P ss xs a.1)
    where
      go : (b : Bool) → All P (kept passes ss xs) → All P (cond b (s ∷ kept passes ss xs) (kept passes ss xs))
      go true h = (a.0, h)
      go false h = h

  -- kept strings of ascending ones are ascending
  pub kept_ascending : (ss : List Bits) (xs : List ℕ) → Ascending ss → Ascending (kept passes ss xs)
  kept_ascending [] xs a = tt
  kept_ascending (s ∷ ss) [] a = tt
  kept_ascending (s ∷ ss) (x ∷ xs) a = go (passes x) (kept_ascending ss xs a.1)
    where
      go : (b : Bool) → Ascending (kept passes ss xs) → Ascending (cond b (s ∷ kept passes ss xs) (kept passes ss xs))
      go true h = (kept_all (Before s) ss xs a.0, h)
      go false h = h

  -- as many as numbers that pass
  pub kept_length : (ss : List Bits) (xs : List ℕ) → length ss ≡ length xs → length (kept passes ss xs) ≡ how_many passes xs
  kept_length [] [] l = refl
  kept_length [] (x ∷ xs) l = absurd (omega arith)
  kept_length (s ∷ ss) [] l = absurd (omega arith)
  kept_length (s ∷ ss) (x ∷ xs) l = go (passes x) (kept_length ss xs (omega arith))
    where
      go : (b : Bool) → length (kept passes ss xs) ≡ how_many passes xs → length (cond b (s ∷ kept passes ss xs) (kept passes ss xs)) ≡ digit b + how_many passes xs
      go true h = omega arith
      go false h = omega arith

  -- Where the numbers are totals of the strings, the kept strings are those whose total passes.
  pub kept_select : (T : Bits → ℕ) (ss : List Bits) → kept passes ss (map T ss) ≡ select (λ s. passes (T s)) ss
  kept_select T [] = refl
  kept_select T (s ∷ ss) = ap (λ (ks : List Bits). cond (passes (T s)) (s ∷ ks) ks) (kept_select T ss)
