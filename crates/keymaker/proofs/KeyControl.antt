-- The control bytes of one level more, from those of the levels before it.
use mathlib.Core.Path.{◌≡◌, refl, sym, ap, ap₂}
use mathlib.Core.Bool.{Bool, true, false}
use mir.Val.{bool_byte}
use Prim.Native.Nat.{ℕ, zero, suc, ◌+◌, ◌*◌, ◌/◌, ◌%◌, ◌^◌, ◌<◌, ◌≤◌}
use native.Mathlib.Nat.{mod-lt, mul-le-mul_right, pow-succ', mul_left_comm}
use native.Mathlib.Omega.{arith}
use borrow.Author.Tests.{lt-ltb, le-ltb}
use Rattle.places.specs.Lists.{digit}
use Rattle.point.specs.Correction.{Correction}
use Rattle.point.specs.PublicShare.{lowest_first, level_bit, control_byte}
use Rattle.point.proofs.Joined.{lowest_first_below}

-- ---- binary digits, lowest first

lowest_same : (k : ℕ) (f g : ℕ → Bool) → ((i : ℕ) → i < k → f i ≡ g i) → lowest_first k f ≡ lowest_first k g
unfolding lowest_first
lowest_same zero f g h = refl
lowest_same (suc k) f g h =
    ap₂ (λ (b : Bool) (x : ℕ). digit b + 2 * x) (h 0 (omega arith)) (lowest_same k (λ i. f (suc i)) (λ i. g (suc i)) (λ i l. h (suc i) (omega arith)))

lowest_none : (k : ℕ) (f : ℕ → Bool) → ((i : ℕ) → i < k → f i ≡ false) → lowest_first k f ≡ 0
lowest_none k f h = omega (arith, lowest_first_below k f 0 (λ i l g. h i l))

-- two digits more, of the weight 2 ^ a and above
lowest_more : (k a v : ℕ) (f g : ℕ → Bool) → a + 2 ≤ k → ((i : ℕ) → i < a → g i ≡ f i) → ((i : ℕ) → i < k → a ≤ i → f i ≡ false)
    → ((i : ℕ) → i < k → a + 2 ≤ i → g i ≡ false) → v ≡ digit (g a) + 2 * digit (g (suc a)) → lowest_first k g ≡ lowest_first k f + v * 2 ^ a
unfolding lowest_first
lowest_more zero a v f g h same none past e = absurd (omega arith)
lowest_more (suc zero) zero v f g h same none past e = absurd (omega arith)
lowest_more (suc (suc k)) zero v f g h same none past e =
    let f0 : digit (f 0) ≡ 0 = ap digit (none 0 (omega arith) (omega arith)) in
    let f1 : digit (f 1) ≡ 0 = ap digit (none 1 (omega arith) (omega arith)) in
    omega (arith, lowest_none k (λ i. f (suc (suc i))) (λ i l. none (suc (suc i)) (omega arith) (omega arith)), lowest_none k (λ i. g (suc (suc i))) (λ i l. past (suc (suc i)) (omega arith) (omega arith)))
lowest_more (suc k) (suc a) v f g h same none past e =
    let first : digit (g 0) ≡ digit (f 0) = ap digit (same 0 (omega arith)) in
    let twice : v * 2 ^ suc a ≡ 2 * (v * 2 ^ a) = rw (pow-succ' 2 a) (mul_left_comm v 2 (2 ^ a)) in
    let rest : lowest_first k (λ i. g (suc i)) ≡ lowest_first k (λ i. f (suc i)) + v * 2 ^ a =
    lowest_more k a v (λ i. f (suc i)) (λ i. g (suc i)) (omega arith) (λ i l. same (suc i) (omega arith))
    (λ i l m. none (suc i) (omega arith) (omega arith)) (λ i l m. past (suc i) (omega arith) (omega arith)) e in
    omega arith

-- a bit as a number
pub digit_of : (b : Bool) {x : ℕ} → x ≡ bool_byte b → (x ≡ digit b) × (x ≤ 1)
digit_of true e = (e, omega (arith, e))
digit_of false e = (e, omega (arith, e))

-- a byte of weight-w digits: what stands below them is less than w
pub byte_fits : (old w v : ℕ) → 0 < w → w ≤ 64 → v ≤ 3 → old % w + v * w < 256
byte_fits old w v some most few = omega (arith, mod-lt old some, mul-le-mul_right w few)

-- ---- control bytes

module _ (c : ℕ → Correction ℕ) (k : ℕ) where
  level_same : (i : ℕ) → i / 2 < k → level_bit (suc k) c i ≡ level_bit k c i
  unfolding level_bit
  level_same i h =
      let m : i / 2 < suc k = omega arith in
      rw (lt-ltb (i / 2) k h, lt-ltb (i / 2) (suc k) m)

  level_none : (n i : ℕ) → n ≤ i / 2 → level_bit n c i ≡ false
  unfolding level_bit
  level_none n i h = rw (le-ltb (i / 2) n h)

  level_left : (i : ℕ) → i / 2 ≡ k → i % 2 ≡ 0 → level_bit (suc k) c i ≡ (c k).left
  unfolding level_bit
  level_left i d e = rw (d, e, lt-ltb k (suc k) (omega arith))

  level_right : (i : ℕ) → i / 2 ≡ k → i % 2 ≡ 1 → level_bit (suc k) c i ≡ (c k).right
  unfolding level_bit
  level_right i d e = rw (d, e, lt-ltb k (suc k) (omega arith))

  -- bytes that are full stay as they are
  pub control_full : (j : ℕ) → j < k / 4 → control_byte (suc k) c j ≡ control_byte k c j
  unfolding control_byte
  control_full j h = lowest_same 8 (λ i. level_bit (suc k) c (8 * j + i)) (λ i. level_bit k c (8 * j + i)) (λ i l. level_same (8 * j + i) (omega arith))

  -- above the bits of k levels there is nothing
  pub control_below : control_byte k c (k / 4) < 2 ^ (2 * (k % 4))
  unfolding control_byte
  control_below = lowest_first_below 8 (λ i. level_bit k c (8 * (k / 4) + i)) (2 * (k % 4)) (λ i l g. level_none k (8 * (k / 4) + i) (omega arith))

  -- the two bits of level k are added
  pub control_more : control_byte (suc k) c (k / 4) ≡ control_byte k c (k / 4) + (digit (c k).left + 2 * digit (c k).right) * 2 ^ (2 * (k % 4))
  unfolding control_byte
  control_more =
      lowest_more 8 (2 * (k % 4)) (digit (c k).left + 2 * digit (c k).right) (λ i. level_bit k c (8 * (k / 4) + i)) (λ i. level_bit (suc k) c (8 * (k / 4) + i)) (omega arith)
      (λ i l. level_same (8 * (k / 4) + i) (omega arith)) (λ i l m. level_none k (8 * (k / 4) + i) (omega arith)) (λ i l m. level_none (suc k) (8 * (k / 4) + i) (omega arith))
      (ap₂ (λ (x y : Bool). digit x + 2 * digit y)
      (sym (level_left (8 * (k / 4) + 2 * (k % 4)) (omega arith) (omega arith)))
      (sym (level_right (8 * (k / 4) + suc (2 * (k % 4))) (omega arith) (omega arith))))
