-- A packed string is read back, and bytes without spare bits are packed again.
use Prim.Native.Nat.{ℕ, zero, suc, ◌+◌, ◌-◌, ◌*◌, ◌/◌, ◌%◌, ◌^◌, ◌≤◌, ◌<◌}
use native.Mathlib.Omega.{arith}
use native.Mathlib.Nat.{zero-div, mod-eq_of_lt, mul_assoc, pow-succ', mul-add-div_right, mul-add-mod_self_right, div-eq_of_lt}
use lib.Pow.{pow_pos}
use lib.Arith.{mod-mul}
use mathlib.Core.Path.{◌≡◌, refl, sym, ap, ap₂, ◌∙◌}
use mathlib.Core.Logic.{◌↔◌}
use mathlib.Core.Bool.{Bool, true, false}
use mathlib.Core.List.{List, [], ◌∷◌, ◌++◌}
use borrow.Author.Tests.{eqb-true, eqb-false, leb-true, leb-false}
use lib.ListN.{length, get_or, take, drop, length-append, length-take, length-drop, get_or-append, get_or-eq_default}
use lib.Seq.{length-take-le, get_or-take, get_or-drop, get_or-append-add, drop-nil, ext_get_or}
use lib.Dec.{eqb, leb}
use Rattle.places.specs.Lists.{digit}
use Rattle.bits.specs.Strings.{Bits}
use Rattle.places.specs.Places.{Bytes}
use Rattle.bits.specs.Packing.{packed_length, value, pack_in, pack, digits, bits_of, unpack, is_zero, spare_zero}
use Rattle.places.proofs.Places.{bytes_head, bytes_tail}

-- ---- some bits as a number

pub value_nil : (w : ℕ) → value w [] ≡ 0
unfolding value
value_nil zero = refl
value_nil (suc w) = refl

pub value_below : (w : ℕ) (s : Bits) → value w s < 2 ^ w
unfolding value
value_below zero s = omega arith
value_below (suc w) [] = omega (arith, value_below w [])
value_below (suc w) (false ∷ s) = omega (arith, value_below w s)
value_below (suc w) (true ∷ s) = omega (arith, value_below w s)

value_step : (w : ℕ) (s : Bits) → value (suc w) s ≡ digit (get_or s 0 false) * 2 ^ w + value w (drop 1 s)
unfolding value
value_step w [] = omega (arith, value_nil w)
value_step w (b ∷ s) = refl

-- missing bits count as zeros
value_same : (w : ℕ) (s q : Bits) → ((i : ℕ) → get_or s i false ≡ get_or q i false) → value w s ≡ value w q
unfolding value
value_same zero s q e = refl
value_same (suc w) s q e =
    rw (value_step w s, value_step w q, e 0)
    (ap (λ v. digit (get_or q 0 false) * 2 ^ w + v) (value_same w (drop 1 s) (drop 1 q) (λ i. get_or-drop 1 s i false ∙ e (1 + i) ∙ sym (get_or-drop 1 q i false))))

-- ---- a number's binary digits

digit_test : (y : ℕ) → digit (eqb (y % 2) 1) ≡ y % 2
digit_test y = go (eqb (y % 2) 1) refl
  where
    go : (b : Bool) → eqb (y % 2) 1 ≡ b → digit b ≡ y % 2
    go true e = sym (eqb-true (y % 2) 1 e)
    go false e = let n : y % 2 ≡ 1 → ⊥ = eqb-false (y % 2) 1 e in omega arith

test_digit : (b : Bool) → eqb ((digit b + 0) % 2) 1 ≡ b
test_digit true = refl
test_digit false = refl

pub digits_length : (w x : ℕ) → length (digits w x) ≡ w
unfolding digits
digits_length zero x = refl
digits_length (suc w) x = ap suc (digits_length w x)

-- the bit of weight 2 ^ e
digits_at : (w i e x : ℕ) → w ≡ suc (i + e) → get_or (digits w x) i false ≡ eqb (x / 2 ^ e % 2) 1
unfolding digits
digits_at zero i e x h = absurd (omega arith)
digits_at (suc w) zero e x h = let q : w ≡ e = omega arith in rw q
digits_at (suc w) (suc i) e x h = digits_at w i e x (omega arith)

-- what stands above does not matter
digits_cut : (w k x : ℕ) → digits w (k * 2 ^ w + x) ≡ digits w x
unfolding digits
digits_cut zero k x = refl
digits_cut (suc w) k x =
    let e : k * 2 ^ suc w ≡ k * 2 * 2 ^ w = rw (pow-succ' 2 w) (sym (mul_assoc k 2 (2 ^ w))) in
    rw (e, mul-add-div_right (pow_pos w) (k * 2) x, mul-add-mod_self_right k 2 (x / 2 ^ w), digits_cut w (k * 2) x)

digits_step : (b : Bool) (w v : ℕ) → v < 2 ^ w → digits (suc w) (digit b * 2 ^ w + v) ≡ b ∷ digits w v
unfolding digits
digits_step b w v h =
    rw (mul-add-div_right (pow_pos w) (digit b) v, div-eq_of_lt h, test_digit b, digits_cut w (digit b) v)

-- the first w bits, filled up with zeros
pad : ℕ → Bits → Bits
pad zero s = []
pad (suc w) s = get_or s 0 false ∷ pad w (drop 1 s)

digits_value : (w : ℕ) (s : Bits) → digits w (value w s) ≡ pad w s
unfolding pad digits
digits_value zero s = refl
digits_value (suc w) s =
    ap (digits (suc w)) (value_step w s)
    ∙ digits_step (get_or s 0 false) w (value w (drop 1 s)) (value_below w (drop 1 s))
    ∙ ap (λ q. get_or s 0 false ∷ q) (digits_value w (drop 1 s))

value_digits : (w x : ℕ) (r : Bits) → value w (digits w x ++ r) ≡ x % 2 ^ w
unfolding value digits
value_digits zero x r = omega arith
value_digits (suc w) x r =
    let two : 0 < 2 = omega arith in
    rw (digit_test (x / 2 ^ w), value_digits w x r, pow-succ' 2 w) (sym (mod-mul x two (pow_pos w)))

-- ---- the bits of bytes

pub bits_of_length : (s : List ℕ) → length (bits_of s) ≡ 8 * length s
unfolding bits_of
bits_of_length [] = refl
bits_of_length (x ∷ s) = length-append (digits 8 x) (bits_of s) ∙ rw (digits_length 8 x, bits_of_length s) (omega arith)

-- bit i stands in byte i / 8, the first one highest
pub bit_of_lem : (s : List ℕ) (i : ℕ) → get_or (bits_of s) i false ≡ eqb (get_or s (i / 8) 0 / 2 ^ (7 - i % 8) % 2) 1
unfolding bits_of
bit_of_lem [] i = rw (zero-div (2 ^ (7 - i % 8)))
bit_of_lem (x ∷ s) i = go (leb 8 i) refl (bit_of_lem s (i - 8))
  where
    go : (b : Bool) → leb 8 i ≡ b → get_or (bits_of s) (i - 8) false ≡ eqb (get_or s ((i - 8) / 8) 0 / 2 ^ (7 - (i - 8) % 8) % 2) 1
        → get_or (digits 8 x ++ bits_of s) i false ≡ eqb (get_or (x ∷ s) (i / 8) 0 / 2 ^ (7 - i % 8) % 2) 1
    go true e ih =
        let k : 8 ≤ i = leb-true 8 i e in
        let l : length (digits 8 x) + (i - 8) ≡ i = rw (digits_length 8 x) (omega arith) in
        let d : i / 8 ≡ suc ((i - 8) / 8) = omega arith in
        let m : i % 8 ≡ (i - 8) % 8 = omega arith in
        ap (λ (j : ℕ). get_or (digits 8 x ++ bits_of s) j false) (sym l) ∙ get_or-append-add (digits 8 x) (bits_of s) (i - 8) false ∙ ih ∙ rw (d, m)
    go false e ih =
        let k : i < 8 = leb-false 8 i e in
        let l : i < length (digits 8 x) = rw (digits_length 8 x) k in
        let d : i / 8 ≡ 0 = omega arith in
        let m : i % 8 ≡ i = omega arith in
        get_or-append (digits 8 x) (bits_of s) false i l ∙ rw (d, m) (digits_at 8 i (7 - i) x (omega arith))

-- ---- packing

pack_in_length : (m : ℕ) (s : Bits) → length (pack_in m s) ≡ m
unfolding pack_in
pack_in_length zero s = refl
pack_in_length (suc m) s = ap suc (pack_in_length m (drop 8 s))

pub pack_length : (s : Bits) → length (pack s) ≡ packed_length (length s)
unfolding pack
pack_length s = pack_in_length (packed_length (length s)) s

pad_bit : (w : ℕ) (s r : Bits) → ((j : ℕ) → get_or r j false ≡ get_or (drop w s) j false) → (i : ℕ) → get_or (pad w s ++ r) i false ≡ get_or s i false
unfolding pad
pad_bit zero s r e i = e i
pad_bit (suc w) [] r e zero = refl
pad_bit (suc w) [] r e (suc i) = pad_bit w [] r (λ j. e j ∙ rw (drop-nil w)) i
pad_bit (suc w) (b ∷ s) r e zero = refl
pad_bit (suc w) (b ∷ s) r e (suc i) = pad_bit w s r e i

pack_in_bit : (m : ℕ) (s : Bits) → length s ≤ 8 * m → (i : ℕ) → get_or (bits_of (pack_in m s)) i false ≡ get_or s i false
unfolding pack_in bits_of
pack_in_bit zero s h i = sym (get_or-eq_default s false (omega arith))
pack_in_bit (suc m) s h i =
    ap (λ (d : Bits). get_or (d ++ bits_of (pack_in m (drop 8 s))) i false) (digits_value 8 s)
    ∙ pad_bit 8 s (bits_of (pack_in m (drop 8 s))) (pack_in_bit m (drop 8 s) (omega (arith, length-drop 8 s))) i

pub bit_pack : (s : Bits) (i : ℕ) → get_or (bits_of (pack s)) i false ≡ get_or s i false
unfolding pack
bit_pack s i = pack_in_bit (packed_length (length s)) s (omega arith) i

pub unpack_length : (n : ℕ) (s : List ℕ) → length s ≡ packed_length n → length (unpack n s) ≡ n
unfolding unpack
unpack_length n s h = length-take-le n (bits_of s) (omega (arith, bits_of_length s))

pub unpack_pack : (s : Bits) → unpack (length s) (pack s) ≡ s
unfolding unpack
unpack_pack s =
    let l : length (take (length s) (bits_of (pack s))) ≡ length s = unpack_length (length s) (pack s) (pack_length s) in
    ext_get_or false (take (length s) (bits_of (pack s))) s l
    (λ i h. get_or-take (length s) (bits_of (pack s)) i false (omega arith) ∙ bit_pack s i)

pub pack_injective : (s q : Bits) → length s ≡ length q → pack s ≡ pack q → s ≡ q
pack_injective s q l e = sym (unpack_pack s) ∙ ap₂ unpack l e ∙ unpack_pack q

-- ---- spare bits

zero_bits : (s : Bits) → is_zero s ≡ true → (i : ℕ) → get_or s i false ≡ false
zero_bits [] e i = refl
zero_bits (true ∷ s) e i = cc
zero_bits (false ∷ s) e zero = refl
zero_bits (false ∷ s) e (suc i) = zero_bits s e i

bits_zero : (s : Bits) → ((i : ℕ) → get_or s i false ≡ false) → is_zero s ≡ true
bits_zero [] e = refl
bits_zero (b ∷ s) e = rw (e 0) (bits_zero s (λ i. e (suc i)))

pub pack_spare_zero : (s : Bits) → spare_zero (length s) (pack s) ≡ true
unfolding spare_zero
pack_spare_zero s =
    bits_zero (drop (length s) (bits_of (pack s)))
    (λ i. get_or-drop (length s) (bits_of (pack s)) i false ∙ bit_pack s (length s + i) ∙ get_or-eq_default s false (omega arith))

-- where the spare bits are zero, cutting them off changes no bit
unpack_bit : (n : ℕ) (s : List ℕ) → spare_zero n s ≡ true → (i : ℕ) → get_or (unpack n s) i false ≡ get_or (bits_of s) i false
unfolding spare_zero unpack
unpack_bit n s z i = go (leb n i) refl
  where
    go : (b : Bool) → leb n i ≡ b → get_or (take n (bits_of s)) i false ≡ get_or (bits_of s) i false
    go true e =
        let k : n ≤ i = leb-true n i e in
        let short : length (take n (bits_of s)) ≤ i = omega (arith, length-take n (bits_of s)) in
        let j : n + (i - n) ≡ i = omega arith in
        get_or-eq_default (take n (bits_of s)) false short
        ∙ sym (zero_bits (drop n (bits_of s)) z (i - n))
        ∙ get_or-drop n (bits_of s) (i - n) false
        ∙ rw j
    go false e = get_or-take n (bits_of s) i false (leb-false n i e)

pack_in_same : (m : ℕ) (s q : Bits) → ((i : ℕ) → get_or s i false ≡ get_or q i false) → pack_in m s ≡ pack_in m q
unfolding pack_in
pack_in_same zero s q e = refl
pack_in_same (suc m) s q e =
    ap₂ ◌∷◌ (value_same 8 s q e)
    (pack_in_same m (drop 8 s) (drop 8 q) (λ i. get_or-drop 8 s i false ∙ e (8 + i) ∙ sym (get_or-drop 8 q i false)))

pack_in_bits_of : (m : ℕ) (s : List ℕ) → Bytes m s → pack_in m (bits_of s) ≡ s
unfolding pack_in bits_of digits
pack_in_bits_of zero [] w = refl
pack_in_bits_of zero (x ∷ s) w = absurd (omega (arith, w.size))
pack_in_bits_of (suc m) [] w = absurd (omega (arith, w.size))
pack_in_bits_of (suc m) (x ∷ s) w =
    ap₂ ◌∷◌ (value_digits 8 x (bits_of s) ∙ mod-eq_of_lt (bytes_head w)) (pack_in_bits_of m s (bytes_tail w))

pub pack_unpack : (n : ℕ) (s : List ℕ) → Bytes (packed_length n) s → spare_zero n s ≡ true → pack (unpack n s) ≡ s
unfolding pack
pack_unpack n s w z =
    rw (unpack_length n s w.size) (pack_in_same (packed_length n) (unpack n s) (bits_of s) (unpack_bit n s z) ∙ pack_in_bits_of (packed_length n) s w)

-- bytes are the packing of n bits exactly when their number is right and the spare bits are zero
pub packed_exactly : (n : ℕ) (s : List ℕ) → ((i : ℕ) → get_or s i 0 < 256)
    → ((p : Bits) × (length p ≡ n) × (pack p ≡ s)) ↔ ((length s ≡ packed_length n) × (spare_zero n s ≡ true))
packed_exactly n s byte = (
  (λ h. (sym (ap length h.2) ∙ pack_length h.0 ∙ ap packed_length h.1, rw (← h.1, ← h.2) (pack_spare_zero h.0))),
  (λ h. (unpack n s, unpack_length n s h.0, pack_unpack n s (record { size = h.0; byte = byte }) h.1)),
)
