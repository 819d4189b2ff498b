-- Words read as signed numbers, and numbers of 16 bits as words.
use Prim.Native.Nat.{ℕ, zero, suc, ◌-◌, ◌≤◌, ◌<◌}
use native.Mathlib.Nat.{mod-eq_of_lt}
use native.Mathlib.Omega.{arith}
use mathlib.Core.Path.{◌≡◌, refl, sym, ap, subst, ◌∙◌}
use mathlib.Core.Bool.{true, false, true≢false}
use borrow.Author.Tests.{le-leb, lt-leb, lt-ltb, le-ltb}
use lib.Dec.{T}
use lib.IntN.{ℤ, pos, negsuc, ◌-ℤ◌, nat_abs}
use lib.Signed.{lt_z, non_neg}
use mir.Syntax.{w16, w64}
use mir.Val.{Fits, SFits, to_z, of_z}
use mir.ValLaws.{to_z_pos, to_z-of_z}
use Rattle.group.specs.Modular.{modulus}
use Rattle.signed.specs.SignedReading.{embed, signed_in}

-- ---- `signed`

-- up to (p − 1) ÷ 2
pub small_read : (x : ℕ) → x ≤ 9223372034707292160 → to_z w64 x ≡ signed_in modulus x
unfolding signed_in
small_read x h = to_z_pos w64 x (omega arith) ∙ rw (le-leb x 9223372034707292160 h)

-- p and above
pub large_read : (x : ℕ) → modulus ≤ x → x < 18446744073709551616 → to_z w64 (x - 18446744069414584321) ≡ signed_in modulus x
unfolding signed_in
large_read x h fits = to_z_pos w64 (x - 18446744069414584321) (omega arith) ∙ rw (lt-leb x 9223372034707292160 (omega arith), le-ltb x 18446744069414584321 h)

minus : (y : ℕ) → negsuc 0 -ℤ pos y ≡ negsuc y
minus zero = refl
minus (suc k) = ap negsuc (omega arith)

-- between
module _ (x : ℕ) (above : 9223372034707292160 < x) (below : x < modulus) where
  abbrev difference : ℤ
  difference = negsuc 0 -ℤ to_z w64 (18446744069414584320 - x)

  difference_is : difference ≡ negsuc (18446744069414584320 - x)
  difference_is = ap (λ (z : ℤ). negsuc 0 -ℤ z) (to_z_pos w64 (18446744069414584320 - x) (omega arith)) ∙ minus (18446744069414584320 - x)

  pub middle_fits : SFits w64 difference
  middle_fits = subst (SFits w64) (sym difference_is) (record { sfits = omega arith })

  pub middle_read : to_z w64 (of_z w64 difference) ≡ signed_in modulus x
  unfolding signed_in
  middle_read =
      to_z-of_z w64 difference middle_fits
      ∙ difference_is
      ∙ rw (lt-leb x 9223372034707292160 above, lt-ltb x 18446744069414584321 below) (ap negsuc (omega arith))

-- ---- `from_signed`

-- a number of 16 bits, read at 64
abbrev pub widened : ℤ → ℤ
widened w = to_z w64 (of_z w64 (to_z w16 (of_z w16 w)))

module _ (w : ℤ) (fits : SFits w16 w) where
  narrow_is : to_z w16 (of_z w16 w) ≡ w
  narrow_is = to_z-of_z w16 w fits

  pub wide_fits : SFits w64 (to_z w16 (of_z w16 w))
  wide_fits = subst (SFits w64) (sym narrow_is) (record { sfits = omega (arith, fits.sfits) })

  wide_is : widened w ≡ w
  wide_is = to_z-of_z w64 (to_z w16 (of_z w16 w)) wide_fits ∙ narrow_is

negative : (z : ℤ) → SFits w16 z → lt_z z (pos 0) ≡ true → (k : ℕ) × (z ≡ negsuc k) × (k < 32768)
negative (pos a) f e = absurd (true≢false (sym e ∙ le-ltb a 0 (omega arith)))
negative (negsuc k) f e = (k, refl, f.sfits)

other : (z : ℤ) → SFits w16 z → lt_z z (pos 0) ≡ false → (k : ℕ) × (z ≡ pos k) × (k < 32768)
other (pos a) f e = (a, refl, f.sfits)
other (negsuc k) f e = absurd (true≢false e)

embedded : (k : ℕ) → k < 32768 → embed modulus (negsuc k) ≡ 18446744069414584321 - suc k
unfolding embed
embedded k h = rw (mod-eq_of_lt {n = suc k} {m = modulus} (omega arith)) (mod-eq_of_lt (omega arith))

-- a negative number
module _ (w : ℤ) (fits : SFits w16 w) (less : lt_z (widened w) (pos 0) ≡ true) where
  k : (k : ℕ) × (w ≡ negsuc k) × (k < 32768)
  k = negative w fits (ap (λ (z : ℤ). lt_z z (pos 0)) (sym (wide_is w fits)) ∙ less)

  abbrev negated : ℤ
  negated = pos 0 -ℤ widened w

  negated_is : negated ≡ pos (suc k.0)
  negated_is = ap (λ (z : ℤ). pos 0 -ℤ z) (wide_is w fits ∙ k.1) ∙ ap pos (omega arith)

  pub negated_fits : SFits w64 negated
  negated_fits = subst (SFits w64) (sym negated_is) (record { sfits = omega (arith, k.2) })

  read_is : to_z w64 (of_z w64 negated) ≡ pos (suc k.0)
  read_is = to_z-of_z w64 negated negated_fits ∙ negated_is

  pub negated_word : T (non_neg (to_z w64 (of_z w64 negated))) × Fits w64 (nat_abs (to_z w64 (of_z w64 negated)))
  negated_word = subst (λ (z : ℤ). T (non_neg z) × Fits w64 (nat_abs z)) (sym read_is) (tt, record { fits = omega (arith, k.2) })

  pub negated_most : nat_abs (to_z w64 (of_z w64 negated)) ≤ 32768
  negated_most = subst (λ (z : ℤ). nat_abs z ≤ 32768) (sym read_is) (omega (arith, k.2))

  pub negated_embedded : (18446744069414584321 - nat_abs (to_z w64 (of_z w64 negated)) ≡ embed modulus w)
      × (18446744069414584321 - nat_abs (to_z w64 (of_z w64 negated)) < modulus)
  negated_embedded = subst (λ (z : ℤ). (18446744069414584321 - nat_abs z ≡ embed modulus w) × (18446744069414584321 - nat_abs z < modulus)) (sym read_is) (same, omega (arith, k.2))
    where
      same : 18446744069414584321 - suc k.0 ≡ embed modulus w
      same = sym (ap (embed modulus) k.1 ∙ embedded k.0 k.2)

-- any other
module _ (w : ℤ) (fits : SFits w16 w) (least : lt_z (widened w) (pos 0) ≡ false) where
  n : (k : ℕ) × (w ≡ pos k) × (k < 32768)
  n = other w fits (ap (λ (z : ℤ). lt_z z (pos 0)) (sym (wide_is w fits)) ∙ least)

  wide_read : widened w ≡ pos n.0
  wide_read = wide_is w fits ∙ n.1

  pub wide_word : T (non_neg (widened w)) × Fits w64 (nat_abs (widened w))
  wide_word = subst (λ (z : ℤ). T (non_neg z) × Fits w64 (nat_abs z)) (sym wide_read) (tt, record { fits = omega (arith, n.2) })

  pub wide_embedded : (nat_abs (widened w) ≡ embed modulus w) × (nat_abs (widened w) < modulus)
  unfolding embed
  wide_embedded =
      let same : n.0 ≡ embed modulus w = sym (ap (embed modulus) n.1 ∙ mod-eq_of_lt (omega (arith, n.2))) in
      subst (λ (z : ℤ). (nat_abs z ≡ embed modulus w) × (nat_abs z < modulus)) (sym wide_read) (same, omega (arith, n.2))
