-- A field of a first line: its digits, and what stands behind it.
use Prim.Native.Nat.{ℕ, suc, ◌+◌, ◌-◌, ◌≤◌, ◌<◌}
use native.Mathlib.Omega.{arith}
use mathlib.Core.Path.{◌≡◌, sym, ap, ◌∙◌}
use mathlib.Core.Bool.{true, false, ◌&&◌}
use mathlib.Core.List.{List}
use borrow.Author.Tests.{leb-true, eq-eqb}
use lib.ListN.{length, get_or, take, drop, length-drop}
use lib.Seq.{drop-drop, take_all}
use lib.Dec.{leb}
use Rattle.places.proofs.Lists.{and_left, and_right}
use Rattle.exam_text.specs.Reader.{leading, is_number, number_then, number_after}
use Rattle.exam_text.proofs.Digits.{leading_taken}
use Rattle.exam_text.proofs.Reading.{FieldSays}

pub number_short : (ds : List ℕ) → is_number ds ≡ true → length ds ≤ 5
number_short ds e = leb-true (length ds) 5 (and_right (leb 1 (length ds)) _ (and_left (leb 1 (length ds) && leb (length ds) 5) _ e))

-- a text from a place on
pub rest_is : (t : List ℕ) (at : ℕ) → take (length t - at) (drop at t) ≡ drop at t
rest_is t at = take_all (length t - at) (drop at t) (omega (arith, length-drop at t))

-- so many digits stand at a place of a text
module _ (t : List ℕ) (at size : ℕ) (e : size ≡ length (leading (take (length t - at) (drop at t)))) where
  pub size_is : size ≡ length (leading (drop at t))
  size_is = e ∙ ap (λ (l : List ℕ). length (leading l)) (rest_is t at)

  pub digits_are : take size (take (length t - at) (drop at t)) ≡ leading (drop at t)
  digits_are = rw (rest_is t at, size_is) (leading_taken (drop at t))

  pub digits_within : size ≡ length (take size (take (length t - at) (drop at t)))
  digits_within = size_is ∙ ap length (sym digits_are)

  pub no_number : (c : ℕ) → is_number (take size (take (length t - at) (drop at t))) ≡ false → number_then c (drop at t) ≡ false
  no_number c f = rw (sym (ap is_number digits_are) ∙ f)

  pub number_ends : (c : ℕ) → is_number (take size (take (length t - at) (drop at t))) ≡ true → get_or (take (length t - at) (drop at t)) size 0 ≡ c → number_then c (drop at t) ≡ true
  number_ends c f g =
      let h : get_or (drop at t) (length (leading (drop at t))) 0 ≡ c = rw (← size_is, ← rest_is t at) g in
      rw (sym (ap is_number digits_are) ∙ f, eq-eqb _ c h)

  pub field_says : (x : ℕ) → at + size < length t → x ≡ number_after 0 (take size (take (length t - at) (drop at t))) → FieldSays t (drop at t) x (at + size + 1)
  field_says x h f =
      let p : at + size + 1 ≡ at + suc (length (leading (drop at t))) = omega (arith, size_is) in
      record {
        number_read = f ∙ ap (number_after 0) digits_are;
        rest = record { within = omega arith; same = rw p (sym (drop-drop (suc (length (leading (drop at t)))) at t)) };
      }
