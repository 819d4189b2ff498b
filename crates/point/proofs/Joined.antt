-- Laws of the parts of a public share: pieces joined, and binary digits lowest first.
use mathlib.Core.Path.{◌≡◌, refl, sym, ap, ap₂, ◌∙◌}
use mathlib.Core.Bool.{Bool, true, false, ◌&&◌, true≢false}
use mathlib.Core.List.{List, [], ◌∷◌, ◌++◌}
use Prim.Native.Nat.{ℕ, zero, suc, ◌+◌, ◌-◌, ◌*◌, ◌/◌, ◌%◌, ◌^◌, ◌<◌, ◌≤◌}
use native.Mathlib.Nat.{zero-div, div-div-eq-div-mul, pow-succ', mul-zero, mul-suc, mul-le-mul_left}
use native.Mathlib.Omega.{arith}
use native.Mathlib.Decide.{dec_lt}
use lib.ListN.{length, get_or, take, drop, length-append, length-drop}
use lib.Seq.{drop_at, take-append-le, drop-append-le, take_all, take-add, get_or-drop, get_or-take}
use lib.Pow.{pow_pos, pow-add}
use lib.Dec.{eqb}
use borrow.Author.Tests.{eq-eqb, ne_eqb}
use Rattle.places.specs.Lists.{digit}
use Rattle.point.specs.PublicShare.{joined, lowest_first, binary_digit, every}

-- ---- pieces of one length w, joined

module _ (w : ℕ) (f : ℕ → List ℕ) where
  pub joined_length : (n : ℕ) → ((i : ℕ) → i < n → length (f i) ≡ w) → length (joined n f) ≡ w * n
  unfolding joined
  joined_length zero h = sym (mul-zero w)
  joined_length (suc n) h = length-append (joined n f) (f n) ∙ ap₂ ◌+◌ (joined_length n (λ i l. h i (omega arith))) (h n (omega arith)) ∙ sym (mul-suc w n)

  -- piece k
  pub joined_at : (n k : ℕ) → ((i : ℕ) → i < n → length (f i) ≡ w) → k < n → take w (drop (w * k) (joined n f)) ≡ f k
  unfolding joined
  joined_at zero k h l = absurd (omega arith)
  joined_at (suc n) k h l =
      let h' : (i : ℕ) → i < n → length (f i) ≡ w = λ i l. h i (omega arith) in
      elim (dec_lt k n) [
        | yes a ↦
            let e : w * suc k ≤ w * n = mul-le-mul_left w a in
            rw (
              drop-append-le (w * k) (joined n f) (f n) (omega (arith, joined_length n h', mul-suc w k)),
              take-append-le w (drop (w * k) (joined n f)) (f n) (omega (arith, length-drop (w * k) (joined n f), joined_length n h', mul-suc w k)),
            )
            (joined_at n k h' a)
        | no a ↦
            let e : k ≡ n = omega arith in
            rw (e, drop_at (joined n f) (f n) (w * n) (joined_length n h')) (take_all w (f n) (omega (arith, h n (omega arith))))
      ]

  -- the pieces of a list, joined
  pub joined_pieces : (n : ℕ) (l : List ℕ) → ((i : ℕ) → i < n → f i ≡ take w (drop (w * i) l)) → joined n f ≡ take (w * n) l
  unfolding joined
  joined_pieces zero l h = rw (mul-zero w)
  joined_pieces (suc n) l h =
      ap₂ ◌++◌ (joined_pieces n l (λ i k. h i (omega arith))) (h n (omega arith)) ∙ sym (take-add (w * n) w l) ∙ rw (mul-suc w n)

-- bytes joined are bytes
pub append_byte : (xs ys : List ℕ) → ((i : ℕ) → get_or xs i 0 < 256) → ((i : ℕ) → get_or ys i 0 < 256) → (i : ℕ) → get_or (xs ++ ys) i 0 < 256
append_byte [] ys h k i = k i
append_byte (x ∷ xs) ys h k zero = h 0
append_byte (x ∷ xs) ys h k (suc i) = append_byte xs ys (λ j. h (suc j)) k i

pub joined_byte : (n : ℕ) (f : ℕ → List ℕ) → ((k : ℕ) → k < n → (i : ℕ) → get_or (f k) i 0 < 256) → (i : ℕ) → get_or (joined n f) i 0 < 256
unfolding joined
joined_byte zero f h i = omega arith
joined_byte (suc n) f h i = append_byte (joined n f) (f n) (joined_byte n f (λ k l. h k (omega arith))) (h n (omega arith)) i

-- pieces of one number each
pub joined_get : (g : ℕ → ℕ) (m j : ℕ) → j < m → get_or (joined m (λ i. g i ∷ [])) j 0 ≡ g j
joined_get g m j h =
    let l : List ℕ = joined m (λ i. g i ∷ []) in
    let e : get_or (take 1 (drop (1 * j) l)) 0 0 ≡ g j = rw (joined_at 1 (λ i. g i ∷ []) m j (λ i h. refl) h) in
    ap (λ (i : ℕ). get_or l i 0) (omega arith) ∙ sym (get_or-drop (1 * j) l 0 0) ∙ sym (get_or-take 1 (drop (1 * j) l) 0 0 (omega arith)) ∙ e

-- ---- binary digits

pub digit_le : (b : Bool) → digit b ≤ 1
digit_le true = omega arith
digit_le false = omega arith

low : (b : Bool) (y : ℕ) → eqb ((digit b + 2 * y) / 1 % 2) 1 ≡ b
low true y = eq-eqb ((1 + 2 * y) / 1 % 2) 1 (omega arith)
low false y = ne_eqb ((0 + 2 * y) / 1 % 2) 1 (λ e. omega arith)

half : (b : Bool) (y : ℕ) → (digit b + 2 * y) / 2 ≡ y
half true y = omega arith
half false y = omega arith

-- the digits of a number made from digits
pub digit_lowest_first : (k : ℕ) (f : ℕ → Bool) (i : ℕ) → i < k → binary_digit (lowest_first k f) i ≡ f i
unfolding binary_digit lowest_first
digit_lowest_first zero f i h = absurd (omega arith)
digit_lowest_first (suc k) f zero h = low (f 0) _
digit_lowest_first (suc k) f (suc i) h = rw (pow-succ' 2 i, ← div-div-eq-div-mul, half (f 0)) (digit_lowest_first k (λ j. f (suc j)) i (omega arith))

remainder_digit : (x : ℕ) → digit (eqb (x / 1 % 2) 1) ≡ x % 2
remainder_digit x = go (x % 2) (omega arith) (omega arith)
  where
    go : (r : ℕ) → x / 1 % 2 ≡ r → r < 2 → digit (eqb (x / 1 % 2) 1) ≡ r
    go zero e h = rw e
    go (suc zero) e h = rw e
    go (suc (suc r)) e h = absurd (omega arith)

-- the number made from the k digits of a number below 2 ^ k
pub lowest_first_digits : (k : ℕ) (f : ℕ → Bool) (x : ℕ) → x < 2 ^ k → ((i : ℕ) → i < k → f i ≡ binary_digit x i) → lowest_first k f ≡ x
unfolding binary_digit lowest_first
lowest_first_digits zero f x h e = omega arith
lowest_first_digits (suc k) f x h e =
    let half-less : x / 2 < 2 ^ k = omega (arith, pow-succ' 2 k) in
    let rest : lowest_first k (λ i. f (suc i)) ≡ x / 2 =
    lowest_first_digits k (λ i. f (suc i)) (x / 2) half-less
    (λ i l. e (suc i) (omega arith) ∙ rw (pow-succ' 2 i, ← div-div-eq-div-mul x 2 (2 ^ i))) in
    omega (arith, rest, ap digit (e 0 (omega arith)), remainder_digit x)

-- a number of k digits whose digits from place j on are zero
pub lowest_first_below : (k : ℕ) (f : ℕ → Bool) (j : ℕ) → ((i : ℕ) → i < k → j ≤ i → f i ≡ false) → lowest_first k f < 2 ^ j
unfolding lowest_first
lowest_first_below zero f j h = pow_pos j
lowest_first_below (suc k) f zero h =
    rw (h 0 (omega arith) (omega arith)) (omega (arith, lowest_first_below k (λ i. f (suc i)) zero (λ i l g. h (suc i) (omega arith) (omega arith))))
lowest_first_below (suc k) f (suc j) h =
    omega (arith, pow-succ' 2 j, lowest_first_below k (λ i. f (suc i)) j (λ i l g. h (suc i) (omega arith) (omega arith)), digit_le (f 0))

-- where a number has nothing above its k lowest digits, its digits from k on are 0
pub nothing_above : (k x i : ℕ) → x / 2 ^ k ≡ 0 → k ≤ i → binary_digit x i ≡ false
unfolding binary_digit
nothing_above k x i h l =
    let e : i ≡ k + (i - k) = omega arith in
    rw (e, pow-add 2 k (i - k), ← div-div-eq-div-mul x (2 ^ k) (2 ^ (i - k)), h, zero-div (2 ^ (i - k)))
    refl

-- and where it has something, one of them is 1
pub something_above : (w k x : ℕ) → x < 2 ^ w → (x / 2 ^ k ≡ 0 → ⊥) → (i : ℕ) × (k ≤ i) × (i < w) × (binary_digit x i ≡ true)
unfolding binary_digit
something_above zero k x h z = let e : x ≡ 0 = omega arith in absurd (z (rw e (zero-div (2 ^ k))))
something_above (suc w) zero x h z =
    elim (dec_lt (x / 2) 1) [
      | yes a ↦ let n : x ≡ 0 → ⊥ = λ e. z (omega arith) in (0, omega arith, omega arith, eq-eqb (x / 1 % 2) 1 (omega arith))
      | no a ↦
          let r = something_above w zero (x / 2) (omega (arith, pow-succ' 2 w)) (λ e. omega arith) in
          (suc r.0, omega arith, omega (arith, r.2), rw (pow-succ' 2 r.0, ← div-div-eq-div-mul x 2 (2 ^ r.0)) r.3)
    ]
something_above (suc w) (suc k) x h z =
    let r = something_above w k (x / 2) (omega (arith, pow-succ' 2 w)) (λ e. z (rw (pow-succ' 2 k, ← div-div-eq-div-mul x 2 (2 ^ k)) e)) in
    (suc r.0, omega (arith, r.1), omega (arith, r.2), rw (pow-succ' 2 r.0, ← div-div-eq-div-mul x 2 (2 ^ r.0)) r.3)

-- ---- a test at every place below n

pub every_true : (n : ℕ) (f : ℕ → Bool) → ((k : ℕ) → k < n → f k ≡ true) → every n f ≡ true
unfolding every
every_true zero f h = refl
every_true (suc n) f h = ap₂ ◌&&◌ (every_true n f (λ k l. h k (omega arith))) (h n (omega arith))

pub every_false : (n : ℕ) (f : ℕ → Bool) (k : ℕ) → k < n → f k ≡ false → every n f ≡ false
unfolding every
every_false zero f k l e = absurd (omega arith)
every_false (suc n) f k l e = elim (dec_lt k n) [ yes a ↦ rw (every_false n f k a e) | no a ↦ go (every n f) (ap f (omega arith) ∙ e) ]
  where
    go : (b : Bool) → f n ≡ false → (b && f n) ≡ false
    go true h = h
    go false h = refl

-- a test that does not pass at every place fails at one of them
pub every_fails : (n : ℕ) (f : ℕ → Bool) → every n f ≡ false → (k : ℕ) × (k < n) × (f k ≡ false)
unfolding every
every_fails zero f h = absurd (true≢false h)
every_fails (suc n) f h = go (every n f) refl (every_fails n f)
  where
    go : (b : Bool) → every n f ≡ b → (every n f ≡ false → (k : ℕ) × (k < n) × (f k ≡ false)) → (k : ℕ) × (k < suc n) × (f k ≡ false)
    go true e g = (n, omega arith, rw e at h)
    go false e g = let w = g e in (w.0, omega (arith, w.1), w.2)

pub every_at : (n : ℕ) (f : ℕ → Bool) → every n f ≡ true → (k : ℕ) → k < n → f k ≡ true
every_at n f e k l = go (f k) refl
  where
    go : (b : Bool) → f k ≡ b → f k ≡ true
    go true h = h
    go false h = absurd (true≢false (sym e ∙ every_false n f k l h))
