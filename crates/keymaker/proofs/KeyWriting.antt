-- A public share written level by level, and the key maker's nodes and words beside it.
use mathlib.Core.Path.{◌≡◌, refl, sym, ap, ap₂, ◌∙◌}
use mathlib.Core.List.{List, [], ◌∷◌, ◌++◌, append_assoc}
use Prim.Native.Nat.{ℕ, suc, ◌+◌, ◌*◌, ◌/◌, ◌%◌, ◌^◌, ◌<◌, ◌≤◌}
use native.Mathlib.Nat.{mod-eq_of_lt}
use native.Mathlib.Omega.{arith}
use native.Mathlib.Decide.{dec_lt}
use lib.ListN.{length, get_or, set, take, drop, length-append, length-drop, length-set, take-append-drop, get_or-append}
use lib.Seq.{drop-cons, drop_at, drop-drop, drop-append-le, drop-set-lt, take-add, length-take-le, get_or-take, get_or-set_same, get_or-set_other}
use Rattle.places.specs.Lists.{digit}
use Rattle.places.specs.Places.{Bytes, put_at, overlay}
use Rattle.numbers.specs.Numbers.{little}
use Rattle.numbers.proofs.Endian.{little_length}
use Rattle.places.proofs.Places.{put_at_inside, put_at_length, put_at_nil, put_at_more, put_at_overlay}
use Rattle.point.specs.Correction.{Correction}
use Rattle.point.specs.PublicShare.{joined, control_bytes, control_byte, level_bytes, level_start, public_share, public_share_length}
use Rattle.point.proofs.Joined.{joined_length, joined_pieces}
use Rattle.point.proofs.PublicShare.{public_length}
use Rattle.keymaker.proofs.KeyControl.{control_full, control_below, control_more}

-- ---- putting past a place

module _ (l : List ℕ) (m x : ℕ) (vs : List ℕ) (h : m + x + length vs ≤ length l) where
  put_drop : drop m (put_at l (m + x) vs) ≡ put_at (drop m l) x vs
  put_drop =
      let a : length (take m l) ≡ m = length-take-le m l (omega arith) in
      let b : length (take (m + x) l ++ vs) ≡ m + x + length vs = length-append (take (m + x) l) vs ∙ ap (λ (z : ℕ). z + length vs) (length-take-le (m + x) l (omega arith)) in
      let d : length (take (m + x) l) ≡ m + x = length-take-le (m + x) l (omega arith) in
      let q : m + x + length vs ≡ m + (x + length vs) = omega arith in
      ap (drop m) (put_at_inside l (m + x) vs h)
      ∙ drop-append-le m (take (m + x) l ++ vs) (drop (m + x + length vs) l) (omega arith)
      ∙ ap₂ ◌++◌
      (drop-append-le m (take (m + x) l) vs (omega arith) ∙ ap (λ (z : List ℕ). z ++ vs) (ap (drop m) (take-add m x l) ∙ drop_at (take m l) (take x (drop m l)) m a))
      (ap (λ (z : ℕ). drop z l) q ∙ sym (drop-drop (x + length vs) m l))
      ∙ sym (put_at_inside (drop m l) x vs (omega (arith, length-drop m l)))

  put_get : (j : ℕ) → j < m + x → get_or (put_at l (m + x) vs) j 0 ≡ get_or l j 0
  put_get j k =
      let d : length (take (m + x) l) ≡ m + x = length-take-le (m + x) l (omega arith) in
      ap (λ (z : List ℕ). get_or z j 0) (put_at_inside l (m + x) vs h)
      ∙ get_or-append (take (m + x) l ++ vs) (drop (m + x + length vs) l) 0 j (omega (arith, length-append (take (m + x) l) vs))
      ∙ get_or-append (take (m + x) l) vs 0 j (omega arith)
      ∙ get_or-take (m + x) l j 0 k

-- ---- a public share, level by level

module _ (n : ℕ) (c : ℕ → Correction ℕ) (d : List ℕ) where
  -- the bytes of the first k levels, without their control bits
  abbrev levels : ℕ → List ℕ
  levels k = joined k (λ i. level_bytes (c i))

  -- out after k levels: their control bytes, then their other bytes after the place for all control bytes; the rest is as it was in d
  pub record Partly (k : ℕ) (out : List ℕ) : Type 0 where
    pub size : length out ≡ length d
    pub control : (j : ℕ) → j < control_bytes k → get_or out j 0 ≡ control_byte k c j
    pub past : drop (control_bytes n) out ≡ put_at (drop (control_bytes n) d) 0 (levels k)

  pub partly_start : Partly 0 d
  unfolding joined
  partly_start = record { size = refl; control = λ j h. absurd (omega arith); past = sym (put_at_nil (drop (control_bytes n) d) 0) }

  module _ (seeds : (k : ℕ) → k < n → Bytes 16 (c k).seed) (room : public_share_length n ≤ length d) where
    level_length_lem : (k : ℕ) → k < n → length (level_bytes (c k)) ≡ 24
    unfolding level_bytes
    level_length_lem k h = length-append (c k).seed (little 8 (c k).payload) ∙ ap₂ ◌+◌ (seeds k h).size (little_length 8 (c k).payload)

    levels_length_lem : (k : ℕ) → k ≤ n → length (levels k) ≡ 24 * k
    levels_length_lem k h = joined_length 24 (λ i. level_bytes (c i)) k (λ i l. level_length_lem i (omega arith))

    -- One level more.
    module _ (k : ℕ) (l : k < n) (out : List ℕ) (p : Partly k out) where
      abbrev byte : ℕ
      byte = get_or out (k / 4) 0 % 2 ^ (2 * (k % 4)) + (digit (c k).left + 2 * digit (c k).right) * 2 ^ (2 * (k % 4))

      low_bits : get_or out (k / 4) 0 % 2 ^ (2 * (k % 4)) ≡ control_byte k c (k / 4)
      low_bits = elim (dec_lt 0 (k % 4)) [
        | yes a ↦ rw (p.control (k / 4) (omega arith)) (mod-eq_of_lt (control_below c k))
        | no a ↦
            let z : 2 * (k % 4) ≡ 0 = omega arith in
            let b : control_byte k c (k / 4) < 2 ^ 0 = rw z at (control_below c k) in
            rw z (omega arith)
      ]

      byte_made : byte ≡ control_byte (suc k) c (k / 4)
      byte_made = ap (λ (x : ℕ). x + (digit (c k).left + 2 * digit (c k).right) * 2 ^ (2 * (k % 4))) low_bits ∙ sym (control_more c k)

      abbrev marked : List ℕ
      marked = set out (k / 4) byte

      abbrev more : List ℕ
      more = put_at marked (level_start n k) (level_bytes (c k))

      fits : level_start n k + length (level_bytes (c k)) ≤ length marked
      fits = omega (arith, level_length_lem k l, length-set out (k / 4) byte, p.size)

      more_control : (j : ℕ) → j < control_bytes (suc k) → get_or more j 0 ≡ control_byte (suc k) c j
      more_control j h =
          put_get marked (control_bytes n) (24 * k) (level_bytes (c k)) fits j (omega arith)
          ∙ elim (dec_lt j (k / 4)) [
            | yes a ↦ get_or-set_other out (k / 4) j byte 0 (λ e. omega arith) ∙ p.control j (omega arith) ∙ sym (control_full c k j a)
            | no a ↦
                let e : j ≡ k / 4 = omega arith in
                rw e (get_or-set_same out (k / 4) byte 0 (omega (arith, p.size)) ∙ byte_made)
          ]

      more_past : drop (control_bytes n) more ≡ put_at (drop (control_bytes n) d) 0 (levels (suc k))
      unfolding joined
      more_past =
          let e : 24 * k ≡ 0 + length (levels k) = omega (arith, levels_length_lem k (omega arith)) in
          put_drop marked (control_bytes n) (24 * k) (level_bytes (c k)) fits
          ∙ ap₂ (λ (z : List ℕ) (y : ℕ). put_at z y (level_bytes (c k))) (drop-set-lt (control_bytes n) out (k / 4) byte (omega arith) ∙ p.past) e
          ∙ put_at_more (drop (control_bytes n) d) 0 (levels k) (level_bytes (c k)) (omega (arith, levels_length_lem k (omega arith), level_length_lem k l, length-drop (control_bytes n) d))

      partly_next : Partly (suc k) more
      partly_next = record { size = put_at_length marked (level_start n k) (level_bytes (c k)) ∙ length-set out (k / 4) byte ∙ p.size; control = more_control; past = more_past }

    -- the same as the code has it: the word is written by two calls
    pub partly_more : (k : ℕ) → k < n → (out : List ℕ) → Partly k out → (w : Correction ℕ) → w ≡ c k → (out₁ out₂ : List ℕ)
        → out₁ ≡ set out (k / 4) (get_or out (k / 4) 0 % 2 ^ (2 * (k % 4)) + (digit w.left + 2 * digit w.right) * 2 ^ (2 * (k % 4)))
        → out₂ ≡ put_at out₁ (level_start n k) (level_bytes w) → Partly (suc k) out₂
    partly_more k l out p w e out₁ out₂ f g = rw (g, f, e) (partly_next k l out p)

    pub partly_end : (out : List ℕ) → Partly n out → out ≡ overlay (public_share n c) d
    unfolding overlay public_share
    partly_end out p =
        let m = control_bytes n in
        let s : length (public_share n c) ≡ public_share_length n = public_length n c seeds in
        let lv : length (levels n) ≡ 24 * n = levels_length_lem n (omega arith) in
        let one : 1 * m ≡ m = omega arith in
        let whole : m + length (levels n) ≡ length (public_share n c) = omega arith in
        let control : joined m (λ j. control_byte n c j ∷ []) ≡ take m out =
        joined_pieces 1 (λ j. control_byte n c j ∷ []) m out (λ j h.
        let q : 1 * j ≡ j = omega arith in
        rw (q, drop-cons out j 0 (omega (arith, p.size))) (ap (λ (x : ℕ). x ∷ []) (sym (p.control j h))))
        ∙ ap (λ (z : ℕ). take z out) one in
        let rest : drop m out ≡ levels n ++ drop (length (levels n)) (drop m d) = p.past ∙ put_at_overlay (drop m d) (levels n) (omega (arith, length-drop m d)) in
        let tail : drop (length (levels n)) (drop m d) ≡ drop (length (public_share n c)) d = drop-drop (length (levels n)) m d ∙ ap (λ (z : ℕ). drop z d) whole in
        sym (take-append-drop m out) ∙ ap₂ ◌++◌ (sym control) (rest ∙ ap (λ (z : List ℕ). levels n ++ z) tail)
        ∙ sym (append_assoc (joined m (λ j. control_byte n c j ∷ [])) (levels n) (drop (length (public_share n c)) d))
