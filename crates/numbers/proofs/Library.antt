-- The bytes that the library's conversions read and write are those of the definitions here.
use mathlib.Core.Path.{◌≡◌, refl, sym, ap, ap₂, ◌∙◌}
use Prim.Native.Nat.{ℕ, zero, suc, ◌+◌, ◌*◌, ◌/◌, ◌%◌, ◌^◌, ◌≤◌, ◌<◌}
use native.Mathlib.Nat.{div-one, div-div-eq-div-mul, pow-suc}
use native.Mathlib.Omega.{arith}
use mathlib.Core.List.{List, [], ◌∷◌}
use lib.ListN.{length, get_or, drop, drop_of_length-le}
use lib.Seq.{drop-cons}
use Rattle.std.specs.Int.{w16, w32, w64, byte_at, bytes_low_first, bytes_high_first, to_le_bytes, to_be_bytes, from_le_bytes, from_be_bytes}
use Rattle.numbers.specs.Numbers.{little, from_little, big, from_big}
use Rattle.places.specs.Places.{window}
use Rattle.places.proofs.Places.{window_length}
use Rattle.numbers.proofs.Endian.{big_cut}
use Rattle.std.proofs.lemmas.Nat.{div-add-mod'}

-- ---- writing

-- byte i of a number, as a quotient's remainder
byte_is : (i x : ℕ) → byte_at i x ≡ x / 256 ^ i % 256
byte_is zero x = rw (div-one x)
byte_is (suc i) x = refl

pub low_first : (i n x : ℕ) → bytes_low_first i n x ≡ little n (x / 256 ^ i)
unfolding little
low_first i zero x = refl
low_first i (suc n) x =
    let next : x / 256 ^ suc i ≡ x / 256 ^ i / 256 = rw (pow-suc 256 i, ← div-div-eq-div-mul x (256 ^ i) 256) in
    ap₂ (λ (b : ℕ) (l : List ℕ). b ∷ l) (byte_is i x) (low_first (suc i) n x ∙ rw next)

pub high_first : (n x : ℕ) → bytes_high_first n x ≡ big n x
unfolding big
high_first zero x = refl
high_first (suc n) x = ap₂ (λ (b : ℕ) (l : List ℕ). b ∷ l) (byte_is n x) (high_first n x)

pub le_8_bytes : (x : ℕ) → to_le_bytes w64 x ≡ little 8 x
le_8_bytes x = low_first 0 8 x ∙ rw (div-one x)

pub be_8_bytes : (x : ℕ) → to_be_bytes w64 x ≡ big 8 x
be_8_bytes x = high_first 8 x

-- what the lowest bytes leave out does not matter
low_bytes : (n x : ℕ) → big n (x % 256 ^ n) ≡ big n x
low_bytes n x =
    let e : x / 256 ^ n * 256 ^ n + x % 256 ^ n ≡ x = div-add-mod' x (256 ^ n) in
    sym (big_cut n (x / 256 ^ n) (x % 256 ^ n)) ∙ ap (big n) e

pub be_4_bytes : (x : ℕ) → to_be_bytes w32 (x % 4294967296) ≡ big 4 x
be_4_bytes x = high_first 4 (x % 4294967296) ∙ low_bytes 4 x

pub be_2_bytes : (x : ℕ) → to_be_bytes w16 (x % 65536) ≡ big 2 x
be_2_bytes x = high_first 2 (x % 65536) ∙ low_bytes 2 x

-- ---- reading

-- n elements of a list, one by one, from element k on
abbrev elements : ℕ → List ℕ → ℕ → List ℕ
elements zero s k = []
elements (suc n) s k = get_or s k 0 ∷ elements n s (suc k)

spelled : (n k : ℕ) (s : List ℕ) → k + n ≡ length s → drop k s ≡ elements n s k
spelled zero k s h =
    let past : length s ≤ k = omega arith in
    drop_of_length-le s past
spelled (suc n) k s h =
    let here : k < length s = omega arith in
    rw (drop-cons s k 0 here) (ap (λ (l : List ℕ). get_or s k 0 ∷ l) (spelled n (suc k) s (omega arith)))

le_8 : (s : List ℕ) → length s ≡ 8 → from_le_bytes w64 s ≡ from_little s
unfolding from_little
le_8 s h =
    let e : from_le_bytes w64 s ≡ from_little (elements 8 s 0) = omega arith in
    e ∙ ap from_little (sym (spelled 8 0 s (omega arith)))

be_8 : (s : List ℕ) → length s ≡ 8 → from_be_bytes w64 s ≡ from_big s
unfolding from_big
be_8 s h =
    let e : from_be_bytes w64 s ≡ from_big (elements 8 s 0) = omega arith in
    e ∙ ap from_big (sym (spelled 8 0 s (omega arith)))

be_4 : (s : List ℕ) → length s ≡ 4 → from_be_bytes w32 s ≡ from_big s
unfolding from_big
be_4 s h =
    let e : from_be_bytes w32 s ≡ from_big (elements 4 s 0) = omega arith in
    e ∙ ap from_big (sym (spelled 4 0 s (omega arith)))

be_2 : (s : List ℕ) → length s ≡ 2 → from_be_bytes w16 s ≡ from_big s
unfolding from_big
be_2 s h =
    let e : from_be_bytes w16 s ≡ from_big (elements 2 s 0) = omega arith in
    e ∙ ap from_big (sym (spelled 2 0 s (omega arith)))

module _ (at : ℕ) (s : List ℕ) where
  pub le_8_window : from_le_bytes w64 (window 8 at s) ≡ from_little (window 8 at s)
  le_8_window = le_8 (window 8 at s) (window_length 8 at s)

  pub be_8_window : from_be_bytes w64 (window 8 at s) ≡ from_big (window 8 at s)
  be_8_window = be_8 (window 8 at s) (window_length 8 at s)

  pub be_4_window : from_be_bytes w32 (window 4 at s) ≡ from_big (window 4 at s)
  be_4_window = be_4 (window 4 at s) (window_length 4 at s)

  pub be_2_window : from_be_bytes w16 (window 2 at s) ≡ from_big (window 2 at s)
  be_2_window = be_2 (window 2 at s) (window_length 2 at s)
