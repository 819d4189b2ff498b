-- Spare bits: what it is that one of them is set; and byte by byte: a remainder tests those in the byte that holds bit n, and all bytes after
-- it are zero.
use Prim.Native.Nat.{ℕ, zero, suc, ◌+◌, ◌-◌, ◌*◌, ◌/◌, ◌%◌, ◌^◌, ◌≤◌, ◌<◌}
use native.Mathlib.Omega.{arith}
use native.Mathlib.Nat.{mod-eq_of_lt, pow-succ', suc-add, zero-add}
use lib.Pow.{pow_pos, pow-add, shl-shr}
use lib.Arith.{mod-mul}
use mathlib.Core.Path.{◌≡◌, refl, sym, ap, ◌∙◌}
use mathlib.Core.Logic.{◌↔◌}
use mathlib.Core.Bool.{true, false, ◌&&◌, not, true≢false}
use mathlib.Core.List.{List, [], ◌∷◌, ◌++◌}
use borrow.Author.Tests.{eq-eqb, ne_eqb}
use lib.ListN.{length, get_or, drop, drop_of_length-le}
use lib.Seq.{get_or-drop, drop-cons, drop-drop, drop-append-le, drop-append-add, drop-nil}
use lib.Dec.{eqb}
use Rattle.std.specs.List.{list_all}
use Rattle.bits.specs.Strings.{Bits}
use Rattle.bits.specs.Packing.{digits, bits_of, is_zero, spare_zero}
use Rattle.bits.proofs.Packed.{digits_length, bits_of_length}

-- ---- a bit that is set

-- bits that are not all zero have one that is set
pub not_zero : (s : Bits) → is_zero s ≡ false → (i : ℕ) × (get_or s i false ≡ true)
not_zero [] e = absurd (true≢false e)
not_zero (true ∷ s) e = (0, refl)
not_zero (false ∷ s) e = let w = not_zero s e in (suc w.0, w.1)

pub one_set : (s : Bits) (i : ℕ) → get_or s i false ≡ true → is_zero s ≡ false
one_set [] i e = sym e
one_set (true ∷ s) i e = refl
one_set (false ∷ s) zero e = absurd (true≢false (sym e))
one_set (false ∷ s) (suc i) e = one_set s i e

-- the spare bits are not all zero exactly when a bit past the n-th is set
pub spare_set : (n : ℕ) (s : List ℕ) → (spare_zero n s ≡ false) ↔ ((i : ℕ) × (n ≤ i) × (get_or (bits_of s) i false ≡ true))
unfolding spare_zero
spare_set n s = (
  (λ h. let w = not_zero (drop n (bits_of s)) h in (n + w.0, omega arith, sym (get_or-drop n (bits_of s) w.0 false) ∙ w.1)),
  (λ h.
      let e : n + (h.0 - n) ≡ h.0 = omega (arith, h.1) in
      one_set (drop n (bits_of s)) (h.0 - n) (get_or-drop n (bits_of s) (h.0 - n) false ∙ rw e h.2)),
)

-- ---- a part of the bits, as a remainder

zero_append : (p q : Bits) → is_zero (p ++ q) ≡ (is_zero p && is_zero q)
zero_append [] q = refl
zero_append (true ∷ p) q = refl
zero_append (false ∷ p) q = zero_append p q

-- the w lowest digits are zero where the remainder is
digits_zero : (w x : ℕ) → is_zero (digits w x) ≡ eqb (x % 2 ^ w) 0
unfolding digits
digits_zero zero x = let e : x % 1 ≡ 0 = omega arith in rw e
digits_zero (suc w) x = go (x / 2 ^ w % 2) refl (omega arith) (digits_zero w x)
  where
    split : (b : ℕ) → x / 2 ^ w % 2 ≡ b → x % 2 ^ suc w ≡ b * 2 ^ w + x % 2 ^ w
    split b e = let two : 0 < 2 = omega arith in rw (pow-succ' 2 w, ← e) (mod-mul x two (pow_pos w))

    go : (b : ℕ) → x / 2 ^ w % 2 ≡ b → b < 2 → is_zero (digits w x) ≡ eqb (x % 2 ^ w) 0
        → (not (eqb (x / 2 ^ w % 2) 1) && is_zero (digits w x)) ≡ eqb (x % 2 ^ suc w) 0
    go zero e h ih = let s : x % 2 ^ suc w ≡ x % 2 ^ w = split 0 e ∙ omega arith in rw (e, s) ih
    go (suc zero) e h ih = rw e (sym (ne_eqb (x % 2 ^ suc w) 0 (λ z. omega (arith, split 1 e, pow_pos w))))
    go (suc (suc b)) e h ih = absurd (omega arith)

digits_drop : (r e x : ℕ) → drop r (digits (r + e) x) ≡ digits e x
unfolding digits
digits_drop zero e x = rw (zero-add e)
digits_drop (suc r) e x = rw (suc-add r e) (digits_drop r e x)

-- whole bytes left out
bits_of_drop : (k : ℕ) (s : List ℕ) → drop (8 * k) (bits_of s) ≡ bits_of (drop k s)
unfolding bits_of digits
bits_of_drop zero s = refl
bits_of_drop (suc k) [] = drop-nil (8 * suc k)
bits_of_drop (suc k) (x ∷ s) =
    let e : 8 * suc k ≡ 8 + 8 * k = omega arith in
    rw e (drop-append-add (digits 8 x) (bits_of s) (8 * k) ∙ bits_of_drop k s)

-- ---- the byte that holds bit n

-- a byte has 8 - n % 8 bits from bit n on
weight : (n : ℕ) → 256 / 2 ^ (n % 8) ≡ 2 ^ (8 - n % 8)
weight n =
    let f : 8 - n % 8 + n % 8 ≡ 8 = omega arith in
    ap (λ (k : ℕ). 2 ^ k / 2 ^ (n % 8)) (sym f) ∙ ap (λ (y : ℕ). y / 2 ^ (n % 8)) (pow-add 2 (8 - n % 8) (n % 8)) ∙ shl-shr (2 ^ (8 - n % 8)) (n % 8)

pub weight_pos : (n : ℕ) → 0 < 256 / 2 ^ (n % 8)
weight_pos n = rw (weight n) (pow_pos (8 - n % 8))

pub spare_past : (n : ℕ) (s : List ℕ) → length s ≤ n / 8 → spare_zero n s ≡ true
unfolding spare_zero
spare_past n s h =
    let k : length (bits_of s) ≤ n = omega (arith, bits_of_length s) in
    rw (drop_of_length-le (bits_of s) k)

module _ (n : ℕ) (s : List ℕ) (h : n / 8 < length s) where
  spare_bits : drop n (bits_of s) ≡ digits (8 - n % 8) (get_or s (n / 8) 0) ++ bits_of (drop (suc (n / 8)) s)
  unfolding bits_of
  spare_bits =
      let x = get_or s (n / 8) 0 in
      let rest = bits_of (drop (suc (n / 8)) s) in
      let e : 8 * (n / 8) + n % 8 ≡ n = omega arith in
      let f : n % 8 + (8 - n % 8) ≡ 8 = omega arith in
      let g : n % 8 ≤ length (digits 8 x) = rw (digits_length 8 x) (omega arith) in
      ap (λ (k : ℕ). drop k (bits_of s)) (sym e)
      ∙ sym (drop-drop (n % 8) (8 * (n / 8)) (bits_of s))
      ∙ ap (drop (n % 8)) (bits_of_drop (n / 8) s ∙ ap bits_of (drop-cons s (n / 8) 0 h))
      ∙ drop-append-le (n % 8) (digits 8 x) rest g
      ∙ ap (λ (p : Bits). p ++ rest) (ap (λ (k : ℕ). drop (n % 8) (digits k x)) (sym f) ∙ digits_drop (n % 8) (8 - n % 8) x)

  spare_step : spare_zero n s ≡ (eqb (get_or s (n / 8) 0 % (256 / 2 ^ (n % 8))) 0 && is_zero (bits_of (drop (suc (n / 8)) s)))
  unfolding spare_zero
  spare_step =
      let x = get_or s (n / 8) 0 in
      ap is_zero spare_bits
      ∙ zero_append (digits (8 - n % 8) x) (bits_of (drop (suc (n / 8)) s))
      ∙ rw (digits_zero (8 - n % 8) x, weight n)

  module _ (x : ℕ) (e : x ≡ get_or s (n / 8) 0) where
    pub spare_yes : x % (256 / 2 ^ (n % 8)) ≡ 0 → spare_zero n s ≡ is_zero (bits_of (drop (suc (n / 8)) s))
    spare_yes z = spare_step ∙ rw (← e, eq-eqb _ _ z)

    pub spare_no : (x % (256 / 2 ^ (n % 8)) ≡ 0 → ⊥) → spare_zero n s ≡ false
    spare_no z = spare_step ∙ rw (← e, ne_eqb _ _ z)

-- ---- the bytes after it

zero_bytes : (s : List ℕ) → ((i : ℕ) → get_or s i 0 < 256) → list_all (λ x. eqb x 0) s ≡ is_zero (bits_of s)
unfolding bits_of
zero_bytes [] byte = refl
zero_bytes (x ∷ s) byte =
    sym
    (zero_append (digits 8 x) (bits_of s)
    ∙ rw (digits_zero 8 x, mod-eq_of_lt (byte 0)) (ap (λ b. eqb x 0 && b) (sym (zero_bytes s (λ i. byte (suc i))))))

pub zero_rest : (k : ℕ) (s : List ℕ) → ((i : ℕ) → get_or s i 0 < 256) → list_all (λ x. eqb x 0) (drop k s) ≡ is_zero (bits_of (drop k s))
zero_rest k s byte = zero_bytes (drop k s) (λ i. rw (get_or-drop k s i 0) (byte (k + i)))
