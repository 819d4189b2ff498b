-- Laws of numbers as bytes: a number is read back from its bytes, and bytes from their number.
use mathlib.Core.Path.{◌≡◌, refl, sym, ap, ◌∙◌}
use Prim.Native.Nat.{ℕ, zero, suc, ◌+◌, ◌*◌, ◌/◌, ◌%◌, ◌^◌, ◌≤◌, ◌<◌}
use native.Mathlib.Nat.{mod-eq_of_lt, mul-add-div_right, mul-add-mod_self_right, div-eq_of_lt, div-one, div-div-eq-div-mul}
use native.Mathlib.Nat.{zero-add, add-zero, suc-add, add-mul, mul_assoc, mul_comm, mul-le-mul_right, one-le-pow, pow-succ'}
use native.Mathlib.Omega.{arith}
use mathlib.Core.List.{List, [], ◌∷◌, ◌++◌}
use lib.ListN.{length, get_or, length-append}
use lib.Pow.{pow-add}
use lib.Arith.{mod-mul}
use Rattle.places.specs.Places.{Bytes}
use Rattle.places.proofs.Places.{bytes_tail, bytes_head}
use Rattle.numbers.specs.Numbers.{little, from_little, big, from_big, in_bytes}

pub little_length : (n x : ℕ) → length (little n x) ≡ n
unfolding little
little_length zero x = refl
little_length (suc n) x = ap suc (little_length n (x / 256))

pub little_byte : (n x i : ℕ) → get_or (little n x) i 0 < 256
unfolding little
little_byte zero x i = omega arith
little_byte (suc n) x zero = omega arith
little_byte (suc n) x (suc i) = little_byte n (x / 256) i

pub little_bytes : (n x : ℕ) → Bytes n (little n x)
little_bytes n x = record { size = little_length n x; byte = little_byte n x }

pub from_little_little : (n x : ℕ) → x < 256 ^ n → from_little (little n x) ≡ x
unfolding little from_little
from_little_little zero x h = omega arith
from_little_little (suc n) x h = rw (from_little_little n (x / 256) (omega arith)) (omega arith)

pub little_from_little : (n : ℕ) (s : List ℕ) → Bytes n s → little n (from_little s) ≡ s
unfolding little from_little
little_from_little zero [] w = refl
little_from_little zero (b ∷ s) w = absurd (omega (arith, w.size))
little_from_little (suc n) [] w = absurd (omega (arith, w.size))
little_from_little (suc n) (b ∷ s) w =
    let r : (b + 256 * from_little s) % 256 ≡ b = omega (arith, bytes_head w) in
    let q : (b + 256 * from_little s) / 256 ≡ from_little s = omega (arith, bytes_head w) in
    rw (r, q) (ap (λ (l : List ℕ). b ∷ l) (little_from_little n s (bytes_tail w)))

pub little_injective : (n x y : ℕ) → x < 256 ^ n → y < 256 ^ n → little n x ≡ little n y → x ≡ y
little_injective n x y h k e = sym (from_little_little n x h) ∙ ap from_little e ∙ from_little_little n y k

pub from_little_append : (s t : List ℕ) → from_little (s ++ t) ≡ from_little s + 256 ^ length s * from_little t
unfolding from_little
from_little_append [] t = omega arith
from_little_append (b ∷ s) t = rw (from_little_append s t, pow-succ' 256 (length s), mul_assoc 256 (256 ^ length s) (from_little t)) (omega arith)

pub little_append : (m n x : ℕ) → little (m + n) x ≡ little m x ++ little n (x / 256 ^ m)
unfolding little
little_append zero n x = rw (zero-add n, div-one x)
little_append (suc m) n x =
    rw (suc-add m n, pow-succ' 256 m, ← div-div-eq-div-mul x 256 (256 ^ m)) (ap (λ (l : List ℕ). x % 256 ∷ l) (little_append m n (x / 256)))

-- 8 bytes for each number
pub in_bytes_length : (xs : List ℕ) → length (in_bytes xs) ≡ 8 * length xs
in_bytes_length [] = refl
in_bytes_length (x ∷ xs) = length-append (little 8 x) (in_bytes xs) ∙ rw (little_length 8 x, in_bytes_length xs) (omega arith)

-- ---- most significant first

pub big_length : (n x : ℕ) → length (big n x) ≡ n
unfolding big
big_length zero x = refl
big_length (suc n) x = ap suc (big_length n x)

power_pos : (n : ℕ) → 0 < 256 ^ n
power_pos n = one-le-pow n 256 (omega arith)

pub from_big_below : (n : ℕ) (s : List ℕ) → Bytes n s → from_big s < 256 ^ n
unfolding from_big
from_big_below zero [] w = omega arith
from_big_below zero (b ∷ s) w = absurd (omega (arith, w.size))
from_big_below (suc n) [] w = absurd (omega (arith, w.size))
from_big_below (suc n) (b ∷ s) w =
    let e : length s ≡ n = (bytes_tail w).size in
    let b≤ : b ≤ 255 = omega (arith, bytes_head w) in
    rw e (omega (arith, from_big_below n s (bytes_tail w), mul-le-mul_right (256 ^ n) b≤))

-- what is cut off does not matter
from_big_cut : (n x : ℕ) → from_big (big n x) ≡ x % 256 ^ n
unfolding big from_big
from_big_cut zero x = omega arith
from_big_cut (suc n) x =
    let p : 0 < 256 = omega arith in
    rw (big_length n x, from_big_cut n x, pow-succ' 256 n) (sym (mod-mul x p (power_pos n)))

pub from_big_big : (n x : ℕ) → x < 256 ^ n → from_big (big n x) ≡ x
from_big_big n x h = from_big_cut n x ∙ mod-eq_of_lt h

pub big_cut : (n k x : ℕ) → big n (k * 256 ^ n + x) ≡ big n x
unfolding big
big_cut zero k x = refl
big_cut (suc n) k x =
    let e : k * 256 ^ suc n ≡ k * 256 * 256 ^ n = rw (pow-succ' 256 n) (sym (mul_assoc k 256 (256 ^ n))) in
    rw (e, mul-add-div_right (power_pos n) (k * 256) x, mul-add-mod_self_right k 256 (x / 256 ^ n), big_cut n (k * 256) x)

pub big_from_big : (n : ℕ) (s : List ℕ) → Bytes n s → big n (from_big s) ≡ s
unfolding big from_big
big_from_big zero [] w = refl
big_from_big zero (b ∷ s) w = absurd (omega (arith, w.size))
big_from_big (suc n) [] w = absurd (omega (arith, w.size))
big_from_big (suc n) (b ∷ s) w =
    let e : length s ≡ n = (bytes_tail w).size in
    let f : from_big s < 256 ^ n = from_big_below n s (bytes_tail w) in
    rw (e, mul-add-div_right (power_pos n) b (from_big s), div-eq_of_lt f, add-zero b, mod-eq_of_lt (bytes_head w), big_cut n b (from_big s))
    (ap (λ (l : List ℕ). b ∷ l) (big_from_big n s (bytes_tail w)))

pub from_big_append : (s t : List ℕ) → from_big (s ++ t) ≡ from_big s * 256 ^ length t + from_big t
unfolding from_big
from_big_append [] t = omega arith
from_big_append (b ∷ s) t =
    rw (length-append s t, pow-add 256 (length s) (length t), from_big_append s t, add-mul (b * 256 ^ length s) (from_big s) (256 ^ length t), mul_assoc b (256 ^ length s) (256 ^ length t))
    (omega arith)

pub big_append : (m n x : ℕ) → big (m + n) x ≡ big m (x / 256 ^ n) ++ big n x
unfolding big
big_append zero n x = rw (zero-add n)
big_append (suc m) n x =
    rw (suc-add m n, pow-add 256 m n, mul_comm (256 ^ m) (256 ^ n), ← div-div-eq-div-mul x (256 ^ n) (256 ^ m), big_append m n x)
