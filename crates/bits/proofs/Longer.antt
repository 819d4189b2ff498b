-- A prefix with one bit more, packed: its whole bytes as they are, and a last byte of the bits that are left and the bit.
use Prim.Native.Nat.{ℕ, zero, suc, ◌+◌, ◌-◌, ◌*◌, ◌/◌, ◌%◌, ◌^◌, ◌≤◌, ◌<◌}
use native.Mathlib.Omega.{arith}
use native.Mathlib.Numerals.{add-one}
use native.Mathlib.Nat.{mod-le, pow-succ', suc-add, zero-add}
use lib.Pow.{pow_pos, pow-add, shl-shr}
use lib.Arith.{mod-mul}
use mathlib.Core.Path.{◌≡◌, refl, sym, ap, ap₂, ◌∙◌}
use mathlib.Core.Bool.{Bool, true, false}
use mathlib.Core.List.{List, [], ◌∷◌, ◌++◌}
use borrow.Author.Tests.{eqb-true, eqb-false}
use lib.ListN.{length, get_or, set, take, length-append}
use lib.Seq.{length-take-le, take_all, take-length, take-suc, take-append-le, take-append-add, set-set}
use lib.Dec.{eqb}
use Rattle.places.specs.Lists.{digit}
use Rattle.bits.specs.Strings.{Bits, ◌▹◌}
use Rattle.bits.specs.Packing.{packed_length, value, pack_in, pack, digits, bits_of, unpack}
use Rattle.places.specs.Places.{put_at}
use Rattle.places.proofs.Places.{put_at_outside, put_at_length, put_at_more}
use Rattle.numbers.proofs.Straight.{stored}
use Rattle.bits.proofs.Packed.{value_nil, digits_length, bits_of_length, pack_length}
use Rattle.bits.proofs.Append.{append_length}

-- as many bytes as its bits take
pub child_length_lem : (p : Bits) (b : Bool) → length (pack (p ▹ b)) ≡ packed_length (length p + 1)
child_length_lem p b = pack_length (p ▹ b) ∙ ap packed_length (append_length p b)

-- ---- the first bits of a number, and others after them

digit_test : (y : ℕ) → digit (eqb (y % 2) 1) ≡ y % 2
digit_test y = go (eqb (y % 2) 1) refl
  where
    go : (b : Bool) → eqb (y % 2) 1 ≡ b → digit b ≡ y % 2
    go true e = sym (eqb-true (y % 2) 1 e)
    go false e = let n : y % 2 ≡ 1 → ⊥ = eqb-false (y % 2) 1 e in omega arith

-- the first r of r + e bits of x are kept, and q takes the place of the others
value_kept : (r e x : ℕ) (q : Bits) → value (r + e) (take r (digits (r + e) x) ++ q) + x % 2 ^ e ≡ x % 2 ^ (r + e) + value e q
unfolding value digits
value_kept zero e x q = rw (zero-add e) (omega arith)
value_kept (suc r) e x q =
    let two : 0 < 2 = omega arith in
    rw (suc-add r e, digit_test (x / 2 ^ (r + e)), pow-succ' 2 (r + e), mod-mul x two (pow_pos (r + e))) (omega (arith, value_kept r e x q))

-- ---- the last byte

module _ (x r : ℕ) (b : Bool) (h : x < 256) (k : r < 8) where
  unit : 256 / 2 ^ r ≡ 2 ^ suc (7 - r)
  unit =
      let f : suc (7 - r) + r ≡ 8 = omega arith in
      ap (λ (n : ℕ). 2 ^ n / 2 ^ r) (sym f) ∙ ap (λ (y : ℕ). y / 2 ^ r) (pow-add 2 (suc (7 - r)) r) ∙ shl-shr (2 ^ suc (7 - r)) r

  last : value 8 (take r (digits 8 x) ▹ b) + x % 2 ^ suc (7 - r) ≡ x % 256 + (digit b * 2 ^ (7 - r) + value (7 - r) [])
  unfolding value
  last =
      let f : r + suc (7 - r) ≡ 8 = omega arith in
      rw f at (value_kept r (suc (7 - r)) x (b ∷ []))

  pub last_clear : b ≡ false → x - x % (256 / 2 ^ r) ≡ value 8 (take r (digits 8 x) ▹ b)
  last_clear e =
      let d : digit b ≡ 0 = ap digit e in
      rw unit (omega (arith, rw d at last, value_nil (7 - r)))

  pub last_set : b ≡ true → x - x % (256 / 2 ^ r) + 256 / 2 ^ r / 2 ≡ value 8 (take r (digits 8 x) ▹ b)
  last_set e =
      let d : digit b ≡ 1 = ap digit e in
      rw unit (omega (arith, rw d at last, value_nil (7 - r), mod-le x (2 ^ suc (7 - r))))

pub unit_pos : (r : ℕ) → r < 8 → 0 < 256 / 2 ^ r
unit_pos r k = rw (unit 0 r false (omega arith) k) (pow_pos (suc (7 - r)))

-- ---- all bytes

pack_in_child : (m r : ℕ) (s : List ℕ) (b : Bool) → ((i : ℕ) → get_or s i 0 < 256) → r < 8 → 8 * m + r ≤ 8 * length s
    → pack_in (suc m) (take (8 * m + r) (bits_of s) ▹ b) ≡ take m s ++ (value 8 (take r (digits 8 (get_or s m 0)) ▹ b) ∷ [])
unfolding pack_in bits_of digits
pack_in_child zero zero [] b byte k h = refl
pack_in_child zero (suc r) [] b byte k h = absurd (omega arith)
pack_in_child zero r (x ∷ s) b byte k h =
    let e : 8 * 0 + r ≡ r = omega arith in
    let g : r ≤ length (digits 8 x) = omega (arith, digits_length 8 x) in
    rw (e, take-append-le r (digits 8 x) (bits_of s) g)
pack_in_child (suc m) r [] b byte k h = absurd (omega arith)
pack_in_child (suc m) r (x ∷ s) b byte k h =
    let e : 8 * suc m + r ≡ 8 + (8 * m + r) = omega arith in
    let x< : x < 256 = byte 0 in
    let v : value 8 (digits 8 x ++ (take (8 * m + r) (bits_of s) ▹ b)) ≡ x = omega (arith, value_kept 8 0 x (take (8 * m + r) (bits_of s) ▹ b)) in
    rw (e, take-append-add (digits 8 x) (bits_of s) (8 * m + r))
    (ap₂ ◌∷◌ v (pack_in_child m r s b (λ i. byte (suc i)) k (omega arith)))

module _ (m r : ℕ) (s : List ℕ) (b : Bool) (byte : (i : ℕ) → get_or s i 0 < 256) (k : r < 8) (h : 8 * m + r ≤ 8 * length s) where
  pub child_bytes : pack (unpack (8 * m + r) s ▹ b) ≡ take m s ++ (value 8 (take r (digits 8 (get_or s m 0)) ▹ b) ∷ [])
  unfolding pack unpack
  child_bytes =
      let l : length (take (8 * m + r) (bits_of s)) ≡ 8 * m + r = length-take-le (8 * m + r) (bits_of s) (omega (arith, bits_of_length s)) in
      let n : packed_length (length (take (8 * m + r) (bits_of s) ▹ b)) ≡ suc m = omega (arith, append_length (take (8 * m + r) (bits_of s)) b) in
      rw n (pack_in_child m r s b byte k h)

-- what has no more bits is taken whole
pub unpack_all : (n : ℕ) (s : List ℕ) → length s ≤ n / 8 → unpack n s ≡ bits_of s
unfolding unpack
unpack_all n s h = take_all n (bits_of s) (omega (arith, bits_of_length s))

-- how many bytes a child takes of all bits, and of fewer
pub all_child_size : (n : ℕ) (s : List ℕ) → length s ≤ n / 8 → length s + 1 ≡ packed_length (length (unpack n s) + 1)
all_child_size n s h = rw (unpack_all n s h, bits_of_length s) (omega arith)

pub child_size : (n : ℕ) (s : List ℕ) → n / 8 < length s → n / 8 + 1 ≡ packed_length (length (unpack n s) + 1)
unfolding unpack
child_size n s h =
    let l : length (take n (bits_of s)) ≡ n = length-take-le n (bits_of s) (omega (arith, bits_of_length s)) in
    rw l (omega arith)

-- ---- where it is written

-- one byte more after those that are put
put_last : (d : List ℕ) (at : ℕ) (vs : List ℕ) (n v : ℕ) → length vs ≡ n → at + (n + 1) ≤ length d
    → set (put_at d at vs) (at + n) v ≡ put_at d at (vs ++ (v ∷ []))
put_last d at vs n v l h =
    let k : length (put_at d at vs) ≡ length d = put_at_length d at vs in
    stored (put_at d at vs) (at + n) v [] (omega arith) ∙ rw (← l) (put_at_more d at vs (v ∷ []) (omega arith))

-- the child of the first 8 * m + r bits of s, from place `at` on
module _ (m r : ℕ) (s : List ℕ) (b : Bool) (byte : (i : ℕ) → get_or s i 0 < 256) (k : r < 8) (h : 8 * m + r ≤ 8 * length s) where
  whole_length : length (take m s) ≡ m
  whole_length = length-take-le m s (omega arith)

  bytes_length : length (pack (unpack (8 * m + r) s ▹ b)) ≡ m + 1
  bytes_length = ap length (child_bytes m r s b byte k h) ∙ length-append (take m s) (_ ∷ []) ∙ ap (λ (n : ℕ). n + 1) whole_length

  module _ (d : List ℕ) (at : ℕ) where
    pub child_outside : length d < at + (m + 1) → d ≡ put_at d at (pack (unpack (8 * m + r) s ▹ b))
    child_outside o = sym (put_at_outside d at (pack (unpack (8 * m + r) s ▹ b)) (omega (arith, bytes_length)))

    module _ (i : at + (m + 1) ≤ length d) (v : ℕ) where
      -- the whole bytes, and the last one after them
      child_last : v ≡ value 8 (take r (digits 8 (get_or s m 0)) ▹ b) → set (put_at d at (take m s)) (at + m) v ≡ put_at d at (pack (unpack (8 * m + r) s ▹ b))
      child_last g = put_last d at (take m s) m v whole_length i ∙ ap (put_at d at) bytes
        where
          bytes : take m s ++ (v ∷ []) ≡ pack (unpack (8 * m + r) s ▹ b)
          bytes = rw g (sym (child_bytes m r s b byte k h))

      -- byte m is copied too, and the last one takes its place
      pub child_inside : m < length s → (out : List ℕ) → out ≡ put_at d at (take (m + 1) s) → v ≡ value 8 (take r (digits 8 (get_or s m 0)) ▹ b)
          → set out (at + m) v ≡ put_at d at (pack (unpack (8 * m + r) s ▹ b))
      child_inside l out e g =
          ap (λ (o : List ℕ). set o (at + m) v) over ∙ set-set (put_at d at (take m s)) (at + m) (get_or s m 0) v ∙ child_last g
        where
          over : out ≡ set (put_at d at (take m s)) (at + m) (get_or s m 0)
          over = e ∙ rw (add-one m, take-suc s m 0 l) (sym (put_last d at (take m s) m (get_or s m 0) whole_length i))

-- the child of all bits of s, from place `at` on
module _ (s : List ℕ) (b : Bool) (byte : (i : ℕ) → get_or s i 0 < 256) (d : List ℕ) (at : ℕ) where
  all : unpack (8 * length s + 0) s ≡ bits_of s
  all = unpack_all (8 * length s + 0) s (omega arith)

  pub all_outside : length d < at + (length s + 1) → d ≡ put_at d at (pack (bits_of s ▹ b))
  all_outside o = rw all at (child_outside (length s) 0 s b byte (omega arith) (omega arith) d at o)

  pub all_inside : at + (length s + 1) ≤ length d → (out : List ℕ) (v : ℕ) → out ≡ put_at d at s → v ≡ value 8 (b ∷ [])
      → set out (at + length s) v ≡ put_at d at (pack (bits_of s ▹ b))
  all_inside i out v e g =
      ap (λ (o : List ℕ). set o (at + length s) v) (e ∙ ap (put_at d at) (sym (take-length s)))
      ∙ child_last (length s) 0 s b byte (omega arith) (omega arith) d at i v g
      ∙ ap (λ (p : Bits). put_at d at (pack (p ▹ b))) all
