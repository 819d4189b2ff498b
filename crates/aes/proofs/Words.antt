-- The bytes of a number that is packed from four bytes, rotated, or added to another.
use mathlib.Core.Path.{◌≡◌, sym, ap, ◌∙◌}
use mathlib.Core.List.{[], ◌∷◌}
use Prim.Native.Nat.{ℕ, ◌+◌, ◌*◌, ◌/◌, ◌%◌, ◌^◌, ◌<◌}
use native.Mathlib.Nat.{div-add-mod', div-div-eq-div-mul, mod-eq_of_lt}
use native.Mathlib.Omega.{arith}
use lib.Bits.{bit_xor, xor_shr, xor_mod, or_shifted_r}
use Rattle.std.specs.Int.{w32, rotate_right}
use Rattle.std.specs.Int.Bits.{bit_or}
use Rattle.aes.specs.Fips197.{sum_word, rot_word}
use Rattle.aes.specs.StateLayout.{four_bytes}
use Rattle.gf256.proofs.Lists.{cons4}

pub byte : (x : ℕ) → x % 256 < 256
byte x = omega arith

pub packed : {a b c d : ℕ} → a < 256 → b < 256 → c < 256 → d < 256 → four_bytes (a + 256 * b + 65536 * c + 16777216 * d) ≡ a ∷ b ∷ c ∷ d ∷ []
packed {a} {b} {c} {d} ha hb hc hd = cons4 (omega arith) (omega arith) (omega arith) (omega arith)

-- three divisions by 256, one after the other
chain : (s a b c : ℕ) {x p q : ℕ} → p * 256 + a ≡ x → q * 256 + b ≡ p → s * 256 + c ≡ q → ((s * 2 ^ 8 + c) * 2 ^ 8 + b) * 2 ^ 8 + a ≡ x
chain s a b c e f g = omega arith

-- a number below 2 ^ 32 is that of its four bytes
pub whole : (x : ℕ) → x < 2 ^ 32 → ((x / 16777216 % 256 * 2 ^ 8 + x / 65536 % 256) * 2 ^ 8 + x / 256 % 256) * 2 ^ 8 + x % 256 ≡ x
whole x h =
    let top : x / 16777216 < 256 = omega arith in
    chain (x / 16777216 % 256) (x % 256) (x / 256 % 256) (x / 65536 % 256)
    (div-add-mod' x 256)
    (ap (λ (z : ℕ). z * 256 + x / 256 % 256) (sym (div-div-eq-div-mul x 256 256)) ∙ div-add-mod' (x / 256) 256)
    (ap (λ (z : ℕ). z * 256 + x / 65536 % 256) (mod-eq_of_lt top ∙ sym (div-div-eq-div-mul x 65536 256)) ∙ div-add-mod' (x / 65536) 256)

-- to the right by 8 bits: the lowest byte becomes the highest
turned : (x : ℕ) → x < 2 ^ 32 → bit_or (x / 2 ^ 8) (x * 2 ^ 24 % 2 ^ 32) ≡ x / 256 + x % 256 * 16777216
turned x h =
    let e : x * 2 ^ 24 % 2 ^ 32 ≡ x % 256 * 2 ^ 24 = omega arith in
    let low : x / 2 ^ 8 < 2 ^ 24 = omega arith in
    rw e (or_shifted_r (x % 256) 24 (x / 2 ^ 8) low ∙ omega arith)

pub rotated : (x : ℕ) → x < 2 ^ 32 → four_bytes (rotate_right w32 x 8) ≡ rot_word (four_bytes x)
rotated x h =
    let e : x / 256 + x % 256 * 16777216 ≡ x / 256 % 256 + 256 * (x / 65536 % 256) + 65536 * (x / 16777216 % 256) + 16777216 * (x % 256) = omega (arith, whole x h) in
    ap four_bytes (turned x h ∙ e) ∙ packed (byte (x / 256)) (byte (x / 65536)) (byte (x / 16777216)) (byte x)

-- the 8 bits above the k lowest of a sum
sum_byte : (k x y : ℕ) → bit_xor x y / 2 ^ k % 2 ^ 8 ≡ bit_xor (x / 2 ^ k % 2 ^ 8) (y / 2 ^ k % 2 ^ 8)
sum_byte k x y = ap (λ (z : ℕ). z % 2 ^ 8) (xor_shr x y k) ∙ xor_mod (x / 2 ^ k) (y / 2 ^ k) 8

pub summed : (x y : ℕ) → four_bytes (bit_xor x y) ≡ sum_word (four_bytes x) (four_bytes y)
summed x y = cons4 (xor_mod x y 8) (sum_byte 8 x y) (sum_byte 16 x y) (sum_byte 24 x y)
