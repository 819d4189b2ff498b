-- The fields of a line, strings of bits and seeds: what is printed is read back, and what is read is printed so.
use Prim.Native.Nat.{ℕ, zero, suc, ◌+◌, ◌-◌, ◌*◌, ◌/◌, ◌%◌, ◌≤◌, ◌<◌}
use native.Mathlib.Decide.{dec_lt}
use native.Mathlib.Omega.{arith}
use mathlib.Core.Path.{◌≡◌, refl, ap, ap₂, ◌∙◌}
use mathlib.Core.Bool.{Bool, true, false, ◌&&◌, ◌||◌, or-true}
use mathlib.Core.Logic.{◌⊎◌, inl, inr, ⊎_elim}
use mathlib.Core.List.{List, [], ◌∷◌}
use borrow.Author.Tests.{leb-true, le-leb, lt-leb, eqb-true}
use lib.ListN.{length, get_or}
use lib.Dec.{leb, eqb}
use Rattle.bits.specs.Strings.{Bits}
use Rattle.places.specs.Places.{Bytes}
use Rattle.places.proofs.Places.{bytes_head, bytes_tail}
use Rattle.places.proofs.Lists.{and_left, and_right}
use Rattle.exam_text.specs.Characters.{glyph, binary, hexadecimal}
use Rattle.exam_text.specs.Reader.{is_decimal, are_bits, bits_read, is_hex, hex_value, are_hex, bytes_read}
use Rattle.exam_text.proofs.Decimals.{decimal_low, decimal_high, in_decimal, glyph_low, glyph_high}

-- ---- strings of bits

pub binary_length : (s : Bits) → length (binary s) ≡ length s
unfolding binary
binary_length [] = refl
binary_length (b ∷ s) = ap suc (binary_length s)

pub binary_are_bits : (s : Bits) → are_bits (binary s) ≡ true
unfolding binary are_bits
binary_are_bits [] = refl
binary_are_bits (false ∷ s) = binary_are_bits s
binary_are_bits (true ∷ s) = binary_are_bits s

pub read_binary : (s : Bits) → bits_read (binary s) ≡ s
unfolding binary
read_binary [] = refl
read_binary (false ∷ s) = ap (λ (q : Bits). false ∷ q) (read_binary s)
read_binary (true ∷ s) = ap (λ (q : Bits). true ∷ q) (read_binary s)

-- of two tests one passes
pub or_cases : (a b : Bool) → (a || b) ≡ true → (a ≡ true) ⊎ (b ≡ true)
or_cases true b e = inl refl
or_cases false b e = inr e

pub binary_read : (cs : List ℕ) → are_bits cs ≡ true → binary (bits_read cs) ≡ cs
unfolding binary are_bits
binary_read [] e = refl
binary_read (c ∷ cs) e =
    let rest = binary_read cs (and_right (eqb c 48 || eqb c 49) (are_bits cs) e) in
    ⊎_elim (λ z. rw (eqb-true c 48 z) (ap (λ (r : List ℕ). 48 ∷ r) rest)) (λ o. rw (eqb-true c 49 o) (ap (λ (r : List ℕ). 49 ∷ r) rest))
    (or_cases (eqb c 48) (eqb c 49) (and_left (eqb c 48 || eqb c 49) (are_bits cs) e))

-- ---- one hexadecimal digit

pub glyph_is_hex : (d : ℕ) → d < 16 → is_hex (glyph d) ≡ true
glyph_is_hex d h = elim (dec_lt d 10) [
  | yes a ↦ rw (glyph_low d a, in_decimal (48 + d) (omega arith) (omega arith))
  | no a ↦
      let ten : 10 ≤ d = omega arith in
      rw (glyph_high d ten, le-leb 97 (87 + d) (omega arith), le-leb (87 + d) 102 (omega arith)) (or-true (is_decimal (87 + d)))
]

pub glyph_value : (d : ℕ) → d < 16 → hex_value (glyph d) ≡ d
glyph_value d h = elim (dec_lt d 10) [
  | yes a ↦ rw (glyph_low d a, le-leb (48 + d) 57 (omega arith)) (omega arith)
  | no a ↦
      let ten : 10 ≤ d = omega arith in
      rw (glyph_high d ten, lt-leb (87 + d) 57 (omega arith)) (omega arith)
]

-- a digit that is read: its value is below 16, and it is the digit of its value
pub hex_digit_lem : (c : ℕ) → is_hex c ≡ true → (hex_value c < 16) × (glyph (hex_value c) ≡ c)
hex_digit_lem c e = ⊎_elim decimal letter (or_cases (is_decimal c) (leb 97 c && leb c 102) e)
  where
    decimal : is_decimal c ≡ true → (hex_value c < 16) × (glyph (hex_value c) ≡ c)
    decimal a =
        let low : 48 ≤ c = decimal_low c a in
        let high : c ≤ 57 = decimal_high c a in
        rw (le-leb c 57 high) (omega arith, glyph_low (c - 48) (omega arith) ∙ omega arith)

    letter : (leb 97 c && leb c 102) ≡ true → (hex_value c < 16) × (glyph (hex_value c) ≡ c)
    letter a =
        let low : 97 ≤ c = leb-true 97 c (and_left (leb 97 c) (leb c 102) a) in
        let high : c ≤ 102 = leb-true c 102 (and_right (leb 97 c) (leb c 102) a) in
        rw (lt-leb c 57 (omega arith)) (omega arith, glyph_high (c - 87) (omega arith) ∙ omega arith)

-- ---- bytes

pub hexadecimal_length : (bs : List ℕ) → length (hexadecimal bs) ≡ 2 * length bs
unfolding hexadecimal
hexadecimal_length [] = refl
hexadecimal_length (b ∷ bs) = omega (arith, hexadecimal_length bs)

pub hexadecimal_are_hex : (n : ℕ) (bs : List ℕ) → Bytes n bs → are_hex (hexadecimal bs) ≡ true
unfolding hexadecimal are_hex
hexadecimal_are_hex n [] w = refl
hexadecimal_are_hex zero (b ∷ bs) w = absurd (omega (arith, w.size))
hexadecimal_are_hex (suc n) (b ∷ bs) w =
    rw (glyph_is_hex (b / 16) (omega (arith, bytes_head w)), glyph_is_hex (b % 16) (omega arith)) (hexadecimal_are_hex n bs (bytes_tail w))

pub read_hexadecimal : (n : ℕ) (bs : List ℕ) → Bytes n bs → bytes_read (hexadecimal bs) ≡ bs
unfolding hexadecimal bytes_read
read_hexadecimal n [] w = refl
read_hexadecimal zero (b ∷ bs) w = absurd (omega (arith, w.size))
read_hexadecimal (suc n) (b ∷ bs) w =
    let high : hex_value (glyph (b / 16)) ≡ b / 16 = glyph_value (b / 16) (omega (arith, bytes_head w)) in
    let low : hex_value (glyph (b % 16)) ≡ b % 16 = glyph_value (b % 16) (omega arith) in
    let whole : 16 * (b / 16) + b % 16 ≡ b = omega arith in
    rw (high, low, whole) (ap (λ (r : List ℕ). b ∷ r) (read_hexadecimal n bs (bytes_tail w)))

pub hexadecimal_read : (n : ℕ) (cs : List ℕ) → length cs ≡ 2 * n → are_hex cs ≡ true → hexadecimal (bytes_read cs) ≡ cs
unfolding hexadecimal bytes_read are_hex
hexadecimal_read n [] l e = refl
hexadecimal_read n (c ∷ []) l e = absurd (omega arith)
hexadecimal_read zero (c ∷ d ∷ cs) l e = absurd (omega arith)
hexadecimal_read (suc n) (c ∷ d ∷ cs) l e =
    let tail = and_right (is_hex c) (is_hex d && are_hex cs) e in
    let h = hex_digit_lem c (and_left (is_hex c) (is_hex d && are_hex cs) e) in
    let k = hex_digit_lem d (and_left (is_hex d) (are_hex cs) tail) in
    let q : (16 * hex_value c + hex_value d) / 16 ≡ hex_value c = omega (arith, k.0) in
    let r : (16 * hex_value c + hex_value d) % 16 ≡ hex_value d = omega (arith, k.0) in
    ap₂ ◌∷◌ (ap glyph q ∙ h.1) (ap₂ ◌∷◌ (ap glyph r ∙ k.1) (hexadecimal_read n cs (omega arith) (and_right (is_hex d) (are_hex cs) tail)))

-- one byte more
bytes_cons : {n b : ℕ} {bs : List ℕ} → b < 256 → Bytes n bs → Bytes (suc n) (b ∷ bs)
bytes_cons {n} {b} {bs} h w = record { size = ap suc w.size; byte = at }
  where
    at : (i : ℕ) → get_or (b ∷ bs) i 0 < 256
    at zero = h
    at (suc i) = w.byte i

pub read_bytes : (n : ℕ) (cs : List ℕ) → length cs ≡ 2 * n → are_hex cs ≡ true → Bytes n (bytes_read cs)
unfolding bytes_read are_hex
read_bytes zero [] l e = record { size = refl; byte = λ i. omega arith }
read_bytes (suc n) [] l e = absurd (omega arith)
read_bytes n (c ∷ []) l e = absurd (omega arith)
read_bytes zero (c ∷ d ∷ cs) l e = absurd (omega arith)
read_bytes (suc n) (c ∷ d ∷ cs) l e =
    let tail = and_right (is_hex c) (is_hex d && are_hex cs) e in
    let h = hex_digit_lem c (and_left (is_hex c) (is_hex d && are_hex cs) e) in
    let k = hex_digit_lem d (and_left (is_hex d) (are_hex cs) tail) in
    bytes_cons (omega (arith, h.0, k.0)) (read_bytes n cs (omega arith) (and_right (is_hex d) (are_hex cs) tail))
