-- The public share of a report as bytes, document 01, 'Public share', and how it is read.
use Rattle.std.specs.Prelude.{ℕ, zero, suc, ◌+◌, ◌*◌, ◌/◌, ◌%◌, ◌^◌, ◌<◌, Bool, true, false, cond, ◌&&◌, ◌||◌, List, [], ◌∷◌, ◌++◌, get_or, eqb, ltb}
use Rattle.places.specs.Lists.{digit}
use Rattle.places.specs.Places.{Bytes, window}
use Rattle.numbers.specs.Numbers.{little, from_little}
use Rattle.point.specs.Correction.{Correction}

-- ---- writing

-- f 0, f 1, .., f (n − 1), one after the other
unfoldable pub joined : ℕ → (ℕ → List ℕ) → List ℕ
joined zero f = []
joined (suc n) f = joined n f ++ f n

-- the number whose k binary digits are f 0, f 1, .., lowest first
unfoldable pub lowest_first : ℕ → (ℕ → Bool) → ℕ
lowest_first zero f = 0
lowest_first (suc k) f = digit (f 0) + 2 * lowest_first k (λ i. f (suc i))

-- how many bytes the control bits of n levels take: ⌈n ÷ 4⌉
abbrev pub control_bytes : ℕ → ℕ
control_bytes n = (n + 3) / 4

-- control bit i of n levels: left then right, level by level, spare bits zero
unfoldable pub level_bit : ℕ → (ℕ → Correction ℕ) → ℕ → Bool
level_bit n c i = cond (ltb (i / 2) n) (cond (eqb (i % 2) 0) (c (i / 2)).left (c (i / 2)).right) false

-- control byte j: eight control bits, lowest bit first
unfoldable pub control_byte : ℕ → (ℕ → Correction ℕ) → ℕ → ℕ
control_byte n c j = lowest_first 8 (λ i. level_bit n c (8 * j + i))

-- 16 bytes of seed correction and 8 of payload correction
unfoldable pub level_bytes : Correction ℕ → List ℕ
level_bytes c = c.seed ++ little 8 c.payload

-- the public share of n levels
unfoldable pub public_share : ℕ → (ℕ → Correction ℕ) → List ℕ
public_share n c = joined (control_bytes n) (λ j. control_byte n c j ∷ []) ++ joined n (λ k. level_bytes (c k))

-- its length
abbrev pub public_share_length : ℕ → ℕ
public_share_length n = control_bytes n + 24 * n

-- ---- reading, whatever the bytes are

-- binary digit i of a number
unfoldable pub binary_digit : ℕ → ℕ → Bool
binary_digit x i = eqb (x / 2 ^ i % 2) 1

-- where level k of n begins, after the control bits
abbrev pub level_start : ℕ → ℕ → ℕ
level_start n k = control_bytes n + 24 * k

-- the correction word of level k, for k below n; past that whatever stands in its place, and zeros for a part whose bytes are not all there
unfoldable pub read_correction : ℕ → List ℕ → ℕ → Correction ℕ
read_correction n bytes k = record {
  seed = window 16 (level_start n k) bytes;
  left = binary_digit (get_or bytes (k / 4) 0) (2 * (k % 4));
  right = binary_digit (get_or bytes (k / 4) 0) (2 * (k % 4) + 1);
  payload = from_little (window 8 (level_start n k + 16) bytes);
}

-- ---- the tests of causes 6 and 7

-- whether f holds at 0, 1, .., n − 1
unfoldable pub every : ℕ → (ℕ → Bool) → Bool
every zero f = true
every (suc n) f = every n f && f n

-- whether every payload correction of n levels is below m
unfoldable pub payloads_below : ℕ → ℕ → List ℕ → Bool
payloads_below m n bytes = every n (λ k. ltb (read_correction n bytes k).payload m)

-- whether the spare bits of the last control byte are zero: n levels fill it, or nothing stands above their bits
unfoldable pub spare_bits_zero : ℕ → List ℕ → Bool
spare_bits_zero n bytes = eqb (n % 4) 0 || eqb (get_or bytes (n / 4) 0 / 2 ^ (2 * (n % 4))) 0

-- ---- what a public share holds

-- Correction words of n levels as they should be: seeds of 16 bytes, payloads below m.
pub record Wellformed (m n : ℕ) (c : ℕ → Correction ℕ) : Type 0 where
  pub seeds : (k : ℕ) → k < n → Bytes 16 (c k).seed
  pub payloads : (k : ℕ) → k < n → (c k).payload < m
