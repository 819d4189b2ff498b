-- Reading a public share gives back every correction word, and the tests pass for exactly the bytes that are one.
use mathlib.Core.Path.{◌≡◌, refl, sym, ap, ap₂, ◌∙◌}
use mathlib.Core.Logic.{◌↔◌}
use mathlib.Core.Bool.{true, false, or-true, true≢false}
use mathlib.Core.List.{List, [], ◌∷◌, ◌++◌, append_assoc}
use Prim.Native.Nat.{ℕ, zero, suc, ◌+◌, ◌*◌, ◌/◌, ◌%◌, ◌^◌, ◌<◌, ◌≤◌}
use native.Mathlib.Nat.{div-eq_of_lt}
use native.Mathlib.Omega.{arith}
use native.Mathlib.Decide.{dec_lt}
use lib.ListN.{length, get_or, take, drop, length-append, length-drop, take-append-drop, get_or-append}
use lib.Seq.{take_at, drop_at, drop-append-add, drop-drop, take_all, drop-cons}
use lib.Dec.{eqb, ltb}
use borrow.Author.Tests.{lt-ltb, le-ltb, ltb-true, eq-eqb, ne_eqb, eqb-true, eqb-false}
use Rattle.places.specs.Places.{Bytes, window}
use Rattle.numbers.specs.Numbers.{little, from_little}
use Rattle.numbers.proofs.Endian.{little_length, little_bytes, from_little_little, little_from_little}
use Rattle.places.proofs.Places.{window_inside, window_split, window_bytes}
use Rattle.point.specs.Correction.{Correction}
use Rattle.point.specs.PublicShare.{joined, control_bytes, level_bit, control_byte, level_bytes, public_share, public_share_length, binary_digit, level_start, read_correction, payloads_below, spare_bits_zero, Wellformed}
use Rattle.point.proofs.Joined.{append_byte, joined_byte, joined_length, joined_at, joined_get, joined_pieces, digit_lowest_first, lowest_first_digits, lowest_first_below, nothing_above, something_above, every_true, every_at}

-- ---- reading what was written

left_bit : (n : ℕ) (c : ℕ → Correction ℕ) (k i : ℕ) → k < n → i / 2 ≡ k → i % 2 ≡ 0 → level_bit n c i ≡ (c k).left
unfolding level_bit
left_bit n c k i h d e = rw (d, e, lt-ltb k n h)

right_bit : (n : ℕ) (c : ℕ → Correction ℕ) (k i : ℕ) → k < n → i / 2 ≡ k → i % 2 ≡ 1 → level_bit n c i ≡ (c k).right
unfolding level_bit
right_bit n c k i h d e = rw (d, e, lt-ltb k n h)

spare_bit : (n : ℕ) (c : ℕ → Correction ℕ) (i : ℕ) → n ≤ i / 2 → level_bit n c i ≡ false
unfolding level_bit
spare_bit n c i h = rw (le-ltb (i / 2) n h)

-- Correction words with seeds of 16 bytes.
module _ (n : ℕ) (c : ℕ → Correction ℕ) (seeds : (k : ℕ) → k < n → Bytes 16 (c k).seed) where
  abbrev control : List ℕ
  control = joined (control_bytes n) (λ j. control_byte n c j ∷ [])

  abbrev levels : List ℕ
  levels = joined n (λ k. level_bytes (c k))

  control_length : length control ≡ control_bytes n
  control_length = joined_length 1 (λ j. control_byte n c j ∷ []) (control_bytes n) (λ i h. refl) ∙ omega arith

  level_length_lem : (k : ℕ) → k < n → length (level_bytes (c k)) ≡ 24
  unfolding level_bytes
  level_length_lem k h = length-append (c k).seed (little 8 (c k).payload) ∙ ap₂ ◌+◌ (seeds k h).size (little_length 8 (c k).payload)

  pub public_length : length (public_share n c) ≡ public_share_length n
  unfolding public_share
  public_length = length-append control levels ∙ ap₂ ◌+◌ control_length (joined_length 24 (λ k. level_bytes (c k)) n level_length_lem)

  control_at : (j : ℕ) → j < control_bytes n → get_or (public_share n c) j 0 ≡ control_byte n c j
  unfolding public_share
  control_at j h = get_or-append control levels 0 j (omega (arith, control_length)) ∙ joined_get (control_byte n c) (control_bytes n) j h

  -- level k
  module _ (k : ℕ) (l : k < n) where
    abbrev after : List ℕ
    after = drop 24 (drop (24 * k) levels)

    from_level : drop (level_start n k) (public_share n c) ≡ (c k).seed ++ (little 8 (c k).payload ++ after)
    unfolding public_share level_bytes
    from_level =
        ap (λ (z : ℕ). drop (z + 24 * k) (control ++ levels)) (sym control_length) ∙ drop-append-add control levels (24 * k)
        ∙ sym (take-append-drop 24 (drop (24 * k) levels))
        ∙ ap (λ z. z ++ after) (joined_at 24 (λ k. level_bytes (c k)) n k level_length_lem l) ∙ append_assoc (c k).seed _ _

    read_seed_lem : window 16 (level_start n k) (public_share n c) ≡ (c k).seed
    read_seed_lem =
        window_inside 16 (level_start n k) (public_share n c) (omega (arith, public_length))
        ∙ ap (take 16) from_level ∙ take_at (c k).seed _ 16 (seeds k l).size

    read_number : window 8 (level_start n k + 16) (public_share n c) ≡ little 8 (c k).payload
    read_number =
        window_inside 8 (level_start n k + 16) (public_share n c) (omega (arith, public_length))
        ∙ ap (take 8) (sym (drop-drop 16 (level_start n k) (public_share n c)) ∙ ap (drop 16) from_level ∙ drop_at (c k).seed _ 16 (seeds k l).size)
        ∙ take_at (little 8 (c k).payload) _ 8 (little_length 8 (c k).payload)

    read_bit : (i : ℕ) → i < 8 → binary_digit (get_or (public_share n c) (k / 4) 0) i ≡ level_bit n c (8 * (k / 4) + i)
    unfolding control_byte
    read_bit i h = ap (λ z. binary_digit z i) (control_at (k / 4) (omega arith)) ∙ digit_lowest_first 8 (λ i. level_bit n c (8 * (k / 4) + i)) i h

    pub read_correction_lem : (c k).payload < 2 ^ 64 → read_correction n (public_share n c) k ≡ c k
    unfolding read_correction
    read_correction_lem h = λ i. record {
      seed = read_seed_lem i;
      left = (read_bit (2 * (k % 4)) (omega arith) ∙ left_bit n c k _ l (omega arith) (omega arith)) i;
      right = (read_bit (2 * (k % 4) + 1) (omega arith) ∙ right_bit n c k _ l (omega arith) (omega arith)) i;
      payload = (ap from_little read_number ∙ from_little_little 8 (c k).payload h) i;
    }

-- ---- writing what was read

-- Bytes as many as a public share of n levels has.
module _ (n : ℕ) (bytes : List ℕ) (byte : (i : ℕ) → get_or bytes i 0 < 256) (size : length bytes ≡ public_share_length n) where
  abbrev words : ℕ → Correction ℕ
  words = read_correction n bytes

  write_level_lem : (k : ℕ) → k < n → level_bytes (words k) ≡ take 24 (drop (24 * k) (drop (control_bytes n) bytes))
  unfolding level_bytes read_correction
  write_level_lem k l =
      ap (λ z. window 16 (level_start n k) bytes ++ z) (little_from_little 8 (window 8 (level_start n k + 16) bytes) (window_bytes 8 (level_start n k + 16) bytes byte))
      ∙ sym (window_split 16 (level_start n k) bytes 8 (omega arith)) ∙ window_inside 24 (level_start n k) bytes (omega arith)
      ∙ ap (take 24) (sym (drop-drop (24 * k) (control_bytes n) bytes))

  write_levels_lem : joined n (λ k. level_bytes (words k)) ≡ drop (control_bytes n) bytes
  write_levels_lem =
      joined_pieces 24 (λ k. level_bytes (words k)) n (drop (control_bytes n) bytes) write_level_lem
      ∙ take_all (24 * n) (drop (control_bytes n) bytes) (omega (arith, length-drop (control_bytes n) bytes))

  module _ (spare : spare_bits_zero n bytes ≡ true) where
    -- above the bits of n levels there is nothing
    above : (n % 4 ≡ 0 → ⊥) → get_or bytes (n / 4) 0 / 2 ^ (2 * (n % 4)) ≡ 0
    unfolding spare_bits_zero
    above h = eqb-true _ 0 (rw (ne_eqb (n % 4) 0 h) at spare)

    write_bit : (j i : ℕ) → j < control_bytes n → i < 8 → level_bit n words (8 * j + i) ≡ binary_digit (get_or bytes j 0) i
    unfolding read_correction
    write_bit j i hj hi =
        elim (dec_lt ((8 * j + i) / 2) n) [
          | yes a ↦
              elim (dec_lt ((8 * j + i) % 2) 1) [
                | yes b ↦
                    left_bit n words ((8 * j + i) / 2) (8 * j + i) a refl (omega arith)
                    ∙ ap₂ (λ (x y : ℕ). binary_digit (get_or bytes x 0) y) (omega arith) (omega arith)
                | no b ↦
                    right_bit n words ((8 * j + i) / 2) (8 * j + i) a refl (omega arith)
                    ∙ ap₂ (λ (x y : ℕ). binary_digit (get_or bytes x 0) y) (omega arith) (omega arith)
              ]
          | no a ↦
              let e : j ≡ n / 4 = omega arith in
              spare_bit n words (8 * j + i) (omega arith)
              ∙ sym (rw e (nothing_above (2 * (n % 4)) (get_or bytes (n / 4) 0) i (above (λ z. omega arith)) (omega arith)))
        ]

    write_byte : (j : ℕ) → j < control_bytes n → control_byte n words j ≡ get_or bytes j 0
    unfolding control_byte
    write_byte j h = lowest_first_digits 8 (λ i. level_bit n words (8 * j + i)) (get_or bytes j 0) (byte j) (λ i l. write_bit j i h l)

    write_piece : (j : ℕ) → j < control_bytes n → control_byte n words j ∷ [] ≡ take 1 (drop (1 * j) bytes)
    write_piece j h =
        let e : 1 * j ≡ j = omega arith in
        rw (e, drop-cons bytes j 0 (omega arith)) (ap (λ (x : ℕ). x ∷ []) (write_byte j h))

    pub write_read : public_share n words ≡ bytes
    unfolding public_share
    write_read =
        let e : 1 * control_bytes n ≡ control_bytes n = omega arith in
        ap₂ ◌++◌ (joined_pieces 1 (λ j. control_byte n words j ∷ []) (control_bytes n) bytes write_piece ∙ ap (λ (z : ℕ). take z bytes) e) write_levels_lem
        ∙ take-append-drop (control_bytes n) bytes

-- what is read from any bytes has seeds of 16 bytes
pub read_bytes : (n : ℕ) (bytes : List ℕ) → ((i : ℕ) → get_or bytes i 0 < 256) → (k : ℕ) → Bytes 16 (read_correction n bytes k).seed
unfolding read_correction
read_bytes n bytes byte k = window_bytes 16 (level_start n k) bytes byte

-- ---- the tests

module _ (n : ℕ) (c : ℕ → Correction ℕ) (seeds : (k : ℕ) → k < n → Bytes 16 (c k).seed) where
  control_byte_lem : (j i : ℕ) → get_or (control_byte n c j ∷ []) i 0 < 256
  unfolding control_byte
  control_byte_lem j zero = lowest_first_below 8 (λ i. level_bit n c (8 * j + i)) 8 (λ i l g. absurd (omega arith))
  control_byte_lem j (suc i) = omega arith

  -- a public share is bytes
  pub public_bytes_lem : Bytes (public_share_length n) (public_share n c)
  unfolding public_share level_bytes
  public_bytes_lem = record {
    size = public_length n c seeds;
    byte = append_byte (control n c seeds) (levels n c seeds)
        (joined_byte (control_bytes n) (λ j. control_byte n c j ∷ []) (λ j l. control_byte_lem j))
        (joined_byte n (λ k. level_bytes (c k)) (λ k l. append_byte (c k).seed (little 8 (c k).payload) (seeds k l).byte (little_bytes 8 (c k).payload).byte));
  }

  pub public_spare : spare_bits_zero n (public_share n c) ≡ true
  unfolding spare_bits_zero control_byte
  public_spare = elim (dec_lt 0 (n % 4)) [
    | yes a ↦
        let e : get_or (public_share n c) (n / 4) 0 / 2 ^ (2 * (n % 4)) ≡ 0 =
        rw (control_at n c seeds (n / 4) (omega arith))
        (div-eq_of_lt (lowest_first_below 8 (λ i. level_bit n c (8 * (n / 4) + i)) (2 * (n % 4)) (λ i l g. spare_bit n c (8 * (n / 4) + i) (omega arith)))) in
        rw (eq-eqb _ 0 e) (or-true (eqb (n % 4) 0))
    | no a ↦ rw (eq-eqb (n % 4) 0 (omega arith))
  ]

-- the spare bits are not zero exactly when a bit of the control bytes past those of n levels is set
pub spare_set : (n : ℕ) (bytes : List ℕ) → get_or bytes (n / 4) 0 < 256 →
    (spare_bits_zero n bytes ≡ false)
    ↔ ((j : ℕ) × (2 * n ≤ j) × (j < 8 * control_bytes n) × (binary_digit (get_or bytes (j / 8) 0) (j % 8) ≡ true))
unfolding spare_bits_zero
spare_set n bytes byte = (
  (λ h. elim (dec_lt 0 (n % 4)) [
    | yes a ↦
        let r = something_above 8 (2 * (n % 4)) (get_or bytes (n / 4) 0) byte (eqb-false _ 0 (rw (ne_eqb (n % 4) 0 (λ z. omega arith)) at h)) in
        let d : (8 * (n / 4) + r.0) / 8 ≡ n / 4 = omega (arith, r.2) in
        let m : (8 * (n / 4) + r.0) % 8 ≡ r.0 = omega (arith, r.2) in
        (8 * (n / 4) + r.0, omega (arith, r.1), omega (arith, r.2), rw (d, m) r.3)
    | no a ↦ absurd (true≢false (rw (eq-eqb (n % 4) 0 (omega arith)) at h))
  ]),
  (λ h.
      let d : h.0 / 8 ≡ n / 4 = omega (arith, h.1, h.2) in
      rw (ne_eqb (n % 4) 0 (λ z. omega (arith, h.1, h.2)))
      (ne_eqb _ 0 (λ z.
      let e : binary_digit (get_or bytes (n / 4) 0) (h.0 % 8) ≡ true = rw d at h.3 in
      true≢false (sym e ∙ nothing_above (2 * (n % 4)) (get_or bytes (n / 4) 0) (h.0 % 8) z (omega (arith, h.1, h.2)))))),
)

-- Any modulus that fits 64 bits.
module _ (m : ℕ) (fits : m ≤ 2 ^ 64) (n : ℕ) where
  pub public_payloads : (c : ℕ → Correction ℕ) → Wellformed m n c → payloads_below m n (public_share n c) ≡ true
  unfolding payloads_below
  public_payloads c w = every_true n _ (λ k l.
      let e : read_correction n (public_share n c) k ≡ c k = read_correction_lem n c w.seeds k l (omega (arith, w.payloads k l)) in
      rw e (lt-ltb (c k).payload m (w.payloads k l)))

  pub read_wellformed : (bytes : List ℕ) → ((i : ℕ) → get_or bytes i 0 < 256) → payloads_below m n bytes ≡ true → Wellformed m n (read_correction n bytes)
  unfolding payloads_below
  read_wellformed bytes byte h = record {
    seeds = λ k l. read_bytes n bytes byte k;
    payloads = λ k l. ltb-true _ m (every_at n (λ k. ltb (read_correction n bytes k).payload m) h k l);
  }

  -- bytes are a public share of n levels exactly when their number is right, every payload is below m and the spare bits are zero
  pub public_exactly : (bytes : List ℕ) → ((i : ℕ) → get_or bytes i 0 < 256) →
      ((c : ℕ → Correction ℕ) × Wellformed m n c × (public_share n c ≡ bytes))
      ↔ ((length bytes ≡ public_share_length n) × (payloads_below m n bytes ≡ true) × (spare_bits_zero n bytes ≡ true))
  public_exactly bytes byte = (
    (λ h. rw (← h.2) (public_length n h.0 h.1.seeds, public_payloads h.0 h.1, public_spare n h.0 h.1.seeds)),
    (λ h. (read_correction n bytes, read_wellformed bytes byte h.1, write_read n bytes byte h.0 h.2)),
  )
