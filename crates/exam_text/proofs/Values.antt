-- The seeds and the strings of a line, as bytes.
use Prim.Native.Nat.{ℕ, zero, suc, ◌+◌, ◌-◌, ◌*◌, ◌^◌, ◌≤◌, ◌<◌}
use native.Mathlib.Nat.{add-mul, mul_assoc, mul_left_comm, le-mul_of_pos_right, pow-succ'}
use native.Mathlib.Omega.{arith}
use lib.Pow.{pow_pos}
use mathlib.Core.Path.{◌≡◌, refl, sym, ap, ◌∙◌}
use mathlib.Core.Bool.{Bool, true, false, ◌&&◌}
use mathlib.Core.List.{List, [], ◌∷◌, ◌++◌, append-nil}
use lib.ListN.{length, get_or, set, take, drop}
use lib.Seq.{take_all, drop-nil, take-suc-set, append_snoc, drop-drop}
use Rattle.places.specs.Lists.{digit}
use Rattle.bits.specs.Strings.{Bits}
use Rattle.bits.specs.Packing.{packed_length, value, pack_in, pack}
use Rattle.bits.proofs.Packed.{value_nil}
use Rattle.places.proofs.Lists.{and_left, and_right}
use Rattle.exam_text.specs.Reader.{is_hex, hex_value, are_hex, bytes_read}
use Rattle.exam_text.proofs.LineTests.{take_step}

-- ---- pairs of them

module _ (t : List ℕ) (j m : ℕ) (h : 2 ≤ m) (r : j + m ≤ length t) where
  pair_step : take m (drop j t) ≡ get_or t j 0 ∷ get_or t (j + 1) 0 ∷ take (m - 2) (drop (j + 2) t)
  pair_step =
      let a : m - 1 - 1 ≡ m - 2 = omega arith in
      let b : suc (suc j) ≡ j + 2 = omega arith in
      let d : suc j ≡ j + 1 = omega arith in
      take_step t j m (omega arith) r ∙ rw (take_step t (suc j) (m - 1) (omega arith) (omega arith), a, b, d)

  pub bytes_step : bytes_read (take m (drop j t)) ≡ (16 * hex_value (get_or t j 0) + hex_value (get_or t (j + 1) 0)) ∷ bytes_read (take (m - 2) (drop (j + 2) t))
  unfolding bytes_read
  bytes_step = rw pair_step

  module _ (e : are_hex (take m (drop j t)) ≡ true) where
    pair_hex : (is_hex (get_or t j 0) && (is_hex (get_or t (j + 1) 0) && are_hex (take (m - 2) (drop (j + 2) t)))) ≡ true
    unfolding are_hex
    pair_hex = rw pair_step at e

    pub high_hex : is_hex (get_or t j 0) ≡ true
    high_hex = and_left (is_hex (get_or t j 0)) _ pair_hex

    later_hex : (is_hex (get_or t (j + 1) 0) && are_hex (take (m - 2) (drop (j + 2) t))) ≡ true
    later_hex = and_right (is_hex (get_or t j 0)) _ pair_hex

    pub low_hex : is_hex (get_or t (j + 1) 0) ≡ true
    low_hex = and_left (is_hex (get_or t (j + 1) 0)) _ later_hex

    pub rest_hex : are_hex (take (m - 2) (drop (j + 2) t)) ≡ true
    rest_hex = and_right (is_hex (get_or t (j + 1) 0)) _ later_hex

-- one byte more of a seed
pub seed_more : (seed : List ℕ) (i v : ℕ) (x : List ℕ) → i < length seed → take (suc i) (set seed i v) ++ x ≡ take i seed ++ (v ∷ x)
seed_more seed i v x h = rw (take-suc-set seed i v h) (append_snoc (take i seed) v x)

pub seed_whole : (seed : List ℕ) (k m : ℕ) (l w : List ℕ) → length seed ≤ k → m ≤ 0 → take k seed ++ bytes_read (take m l) ≡ w → seed ≡ w
unfolding bytes_read
seed_whole seed k zero l w h z e = sym (append-nil seed) ∙ ap (λ s. s ++ []) (sym (take_all k seed h)) ∙ e
seed_whole seed k (suc m) l w h z e = absurd (omega arith)

-- ---- strings

value_next : (w : ℕ) (s : Bits) (k : ℕ) → value (suc w) (drop k s) ≡ digit (get_or s k false) * 2 ^ w + value w (drop (suc k) s)
unfolding value
value_next w [] k = rw (drop-nil {A = Bool} k) (omega (arith, value_nil w))
value_next w (b ∷ s) zero = refl
value_next w (b ∷ s) (suc k) = value_next w s k

-- one bit more of a byte
pub byte_more : (x d w : ℕ) (s : Bits) (k : ℕ) → 0 < w → d ≡ digit (get_or s k false)
    → (2 * x + d) * 2 ^ (w - 1) + value (w - 1) (drop (suc k) s) ≡ x * 2 ^ w + value w (drop k s)
byte_more x d zero s k h e = absurd (omega arith)
byte_more x d (suc w) s k h e =
    let f : suc w - 1 ≡ w = omega arith in
    rw (f, value_next w s k, ← e)
    (omega (arith, add-mul (2 * x) d (2 ^ w), mul_assoc 2 x (2 ^ w), mul_left_comm x 2 (2 ^ w), ap (λ y. x * y) (pow-succ' 2 w)))

-- what a byte is so far fits
pub byte_fits : (y w v : ℕ) → y * 2 ^ w + v < 256 → y < 256
byte_fits y w v h = omega (arith, le-mul_of_pos_right {m = 2 ^ w} y (pow_pos w))

pub byte_whole : (x w : ℕ) (s : Bits) → w ≤ 0 → x * 2 ^ w + value w s ≡ x
unfolding value
byte_whole x zero s h = omega arith
byte_whole x (suc w) s h = absurd (omega arith)

take_pack_in : (m k : ℕ) (s : Bits) → m ≤ k → take m (pack_in k s) ≡ pack_in m s
unfolding pack_in
take_pack_in zero k s h = refl
take_pack_in (suc m) zero s h = absurd (omega arith)
take_pack_in (suc m) (suc k) s h = ap (λ l. value 8 s ∷ l) (take_pack_in m k (drop 8 s) (omega arith))

-- A string of at most 32 bits stands packed in the first of four bytes.
pub packed_four : (n : ℕ) (s : Bits) → length s ≡ n → n ≤ 32 → take (packed_length n) (pack_in 4 s) ≡ pack s
unfolding pack
packed_four n s l h = take_pack_in (packed_length n) 4 s (omega arith) ∙ rw l

pub four_length : (s : Bits) → length (pack_in 4 s) ≡ 4
unfolding pack_in
four_length s = refl

-- four bytes, one after the other
pub four_bytes_lem : (s : Bits) (b₀ b₁ b₂ b₃ : ℕ) → b₀ ≡ value 8 (drop 0 s) → b₁ ≡ value 8 (drop 8 s) → b₂ ≡ value 8 (drop 16 s) → b₃ ≡ value 8 (drop 24 s)
    → (b₀ ∷ b₁ ∷ b₂ ∷ b₃ ∷ []) ≡ pack_in 4 s
unfolding pack_in
four_bytes_lem s b₀ b₁ b₂ b₃ e₀ e₁ e₂ e₃ = rw (e₀, e₁, e₂, e₃, drop-drop 8 8 s, drop-drop 8 16 s)
