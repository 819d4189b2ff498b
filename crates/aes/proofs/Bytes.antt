-- The cipher gives 16 elements, each below 256 where those of the key are.
use mathlib.Core.Path.{◌≡◌, refl}
use mathlib.Core.Bool.{Bool}
use mathlib.Core.List.{List, [], ◌∷◌, ◌++◌, map}
use Prim.Native.Nat.{ℕ, zero, suc, ◌+◌, ◌-◌, ◌*◌, ◌%◌, ◌^◌, ◌≤◌, ◌<◌}
use native.Mathlib.Nat.{mod-lt, mul-le-mul_right, pow-suc, le_of_suc-le-suc, le_of_lt}
use native.Mathlib.Omega.{arith}
use lib.Bits.{xor_lt}
use lib.Dec.{ltb, ltb→lt, lit<, lit≤}
use lib.ListN.{length, get_or, take, drop}
use Rattle.gf256.specs.Field.{◌⊕◌, inverse}
use Rattle.aes.specs.Fips197.{◌‼◌, affine_bit, affine_bits, affine, s_box, shift_rows, power_of_x, rcon, round_key, rounds, add_round_key, cipher}
use Rattle.gf256.specs.Field.{tabulate}
use Rattle.aes.proofs.Computes.{computes}
use Rattle.gf256.proofs.Below.{below}

-- every element of a list is below 256
data Bytes : List ℕ → Type 0 where
  none : Bytes []
  cons : {x : ℕ} {l : List ℕ} → x < 256 → Bytes l → Bytes (x ∷ l)

at : {l : List ℕ} → Bytes l → (i : ℕ) → l ‼ i < 256
at none i = lit< tt
at (cons h b) zero = h
at (cons h b) (suc i) = at b i

each : (l : List ℕ) → ((i : ℕ) → l ‼ i < 256) → Bytes l
each [] h = none
each (x ∷ l) h = cons (h 0) (each l (λ i. h (suc i)))

append : {l m : List ℕ} → Bytes l → Bytes m → Bytes (l ++ m)
append none b = b
append (cons h a) b = cons h (append a b)

taken : (n : ℕ) {l : List ℕ} → Bytes l → Bytes (take n l)
taken zero b = none
taken (suc n) none = none
taken (suc n) (cons h b) = cons h (taken n b)

dropped : (n : ℕ) {l : List ℕ} → Bytes l → Bytes (drop n l)
dropped zero b = b
dropped (suc n) none = none
dropped (suc n) (cons h b) = dropped n b

tabulated : (n : ℕ) (f : ℕ → ℕ) → ((i : ℕ) → f i < 256) → Bytes (tabulate n f)
tabulated zero f h = none
tabulated (suc n) f h = cons (h 0) (tabulated n (λ i. f (suc i)) (λ i. h (suc i)))

sums : (n : ℕ) {v w : List ℕ} → Bytes v → Bytes w → Bytes (tabulate n (λ i. v ‼ i ⊕ w ‼ i))
sums n {v} {w} a b = tabulated n (λ i. v ‼ i ⊕ w ‼ i) (λ i. xor_lt 8 (v ‼ i) (w ‼ i) (at a i) (at b i))

affine_bits_lt : (x n : ℕ) → affine_bits x n < 2 ^ n
unfolding affine_bits affine_bit
affine_bits_lt x zero = lit< tt
affine_bits_lt x (suc n) =
    let b : affine_bit x n < 2 = mod-lt _ (lit< tt) in
    let m : affine_bit x n * 2 ^ n ≤ 1 * 2 ^ n = mul-le-mul_right (2 ^ n) (le_of_suc-le-suc b) in
    omega (arith, affine_bits_lt x n, pow-suc 2 n, m)

s_box_lt : (x : ℕ) → s_box x < 256
unfolding s_box affine
s_box_lt x = affine_bits_lt (inverse x) 8

substituted : (l : List ℕ) → Bytes (map s_box l)
substituted [] = none
substituted (x ∷ l) = cons (s_box_lt x) (substituted l)

shifted : {s : List ℕ} → Bytes s → Bytes (shift_rows s)
shifted {s} b = tabulated 16 (λ i. s ‼ ((i + 4 * (i % 4)) % 16)) (λ i. at b ((i + 4 * (i % 4)) % 16))

is_byte : ℕ → Bool
is_byte i = ltb (power_of_x (suc i - 1)) 256

constant : (i : ℕ) → i < 10 → Bytes (rcon (suc i))
unfolding is_byte computes
constant i h =
    cons (ltb→lt (power_of_x (suc i - 1)) 256 (below is_byte 10 tt i h))
    (cons (lit< tt) (cons (lit< tt) (cons (lit< tt) none)))

round_keys : {key : List ℕ} → Bytes key → (n : ℕ) → n ≤ 10 → Bytes (round_key key n)
unfolding round_key
round_keys b zero h = b
round_keys {key} b (suc n) h =
    let k = round_keys b n (le_of_lt h) in
    let w0 = sums 4 (taken 4 k) (sums 4 (substituted (_ ∷ _ ∷ _ ∷ _ ∷ [])) (constant n h)) in
    let w1 = sums 4 (taken 4 (dropped 4 k)) w0 in
    let w2 = sums 4 (taken 4 (dropped 8 k)) w1 in
    let w3 = sums 4 (taken 4 (dropped 12 k)) w2 in
    append w0 (append w1 (append w2 w3))

pub cipher_length : (key block : List ℕ) → length (cipher key block) ≡ 16
unfolding cipher
cipher_length key block = refl

pub cipher_byte : (key block : List ℕ) → ((i : ℕ) → get_or key i 0 < 256) → (i : ℕ) → get_or (cipher key block) i 0 < 256
unfolding cipher
cipher_byte key block h =
    at
    (sums 16 (shifted (substituted (rounds key (add_round_key block (round_key key 0)) 9))) (round_keys (each key h) 10 (lit≤ tt)))
