-- The digits with which a text begins, and the number that digits are.
use Prim.Native.Nat.{ℕ, zero, suc, ◌+◌, ◌-◌, ◌*◌, ◌^◌, ◌≤◌, ◌<◌}
use native.Mathlib.Nat.{pow-succ'}
use native.Mathlib.Omega.{arith}
use mathlib.Core.Path.{◌≡◌, refl, ap}
use mathlib.Core.Bool.{Bool, true, false}
use mathlib.Core.List.{List, [], ◌∷◌}
use lib.ListN.{length, get_or, take, drop}
use lib.Seq.{drop-cons}
use Rattle.std.specs.List.{list_all, prefix_len}
use Rattle.places.proofs.Lists.{and_left, and_right}
use Rattle.exam_text.specs.Reader.{is_decimal, leading, number_after}

-- ---- the digits

-- they are as many as the library counts
pub leading_length : (cs : List ℕ) → prefix_len is_decimal cs ≡ length (leading cs)
unfolding leading
leading_length [] = refl
leading_length (c ∷ cs) = elim (is_decimal c) as (λ (b : Bool). is_decimal c ≡ b → prefix_len is_decimal (c ∷ cs) ≡ length (leading (c ∷ cs))) [
  | true ↦ λ e. rw e (omega (arith, leading_length cs))
  | false ↦ λ e. rw e
] refl

pub leading_taken : (cs : List ℕ) → take (length (leading cs)) cs ≡ leading cs
unfolding leading
leading_taken [] = refl
leading_taken (c ∷ cs) = elim (is_decimal c) as (λ (b : Bool). is_decimal c ≡ b → take (length (leading (c ∷ cs))) (c ∷ cs) ≡ leading (c ∷ cs)) [
  | true ↦ λ e. rw e (ap (λ (l : List ℕ). c ∷ l) (leading_taken cs))
  | false ↦ λ e. rw e
] refl

pub leading_digits : (cs : List ℕ) → list_all is_decimal (leading cs) ≡ true
unfolding leading
leading_digits [] = refl
leading_digits (c ∷ cs) = elim (is_decimal c) as (λ (b : Bool). is_decimal c ≡ b → list_all is_decimal (leading (c ∷ cs)) ≡ true) [
  | true ↦ λ e. rw (e, e) (leading_digits cs)
  | false ↦ λ e. rw e
] refl

-- each of them is one
pub digit_at : (cs : List ℕ) (i : ℕ) → list_all is_decimal cs ≡ true → i < length cs → is_decimal (get_or cs i 0) ≡ true
digit_at [] i e h = absurd (omega arith)
digit_at (c ∷ cs) zero e h = and_left (is_decimal c) (list_all is_decimal cs) e
digit_at (c ∷ cs) (suc i) e h = digit_at cs i (and_right (is_decimal c) (list_all is_decimal cs) e) (omega arith)

-- ---- the number

pub number_step : (x : ℕ) (ds : List ℕ) (i : ℕ) → i < length ds → number_after x (drop i ds) ≡ number_after (10 * x + (get_or ds i 0 - 48)) (drop (suc i) ds)
unfolding number_after
number_step x ds i h = rw (drop-cons ds i 0 h)

pub number_none : (x : ℕ) (ds : List ℕ) → length ds ≡ 0 → number_after x ds ≡ x
unfolding number_after
number_none x [] e = refl
number_none x (d ∷ ds) e = absurd (omega arith)

-- ---- how large the number is

pub digits_more : (x v k : ℕ) → x < 10 ^ k → v ≤ 9 → 10 * x + v < 10 ^ suc k
digits_more x v k a b = omega (arith, pow-succ' 10 k)
