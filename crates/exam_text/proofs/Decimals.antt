-- The digits of a number in decimal: how many there are, what they are, and which number they are.
use Prim.Native.Nat.{ℕ, zero, suc, ◌+◌, ◌-◌, ◌*◌, ◌/◌, ◌%◌, ◌^◌, ◌≤◌, ◌<◌}
use native.Mathlib.Decide.{dec_lt}
use native.Mathlib.Omega.{arith}
use mathlib.Core.Path.{◌≡◌, refl, sym, ap, ◌∙◌}
use mathlib.Core.Bool.{true}
use mathlib.Core.List.{List, [], ◌∷◌, ◌++◌, append-nil, append_assoc}
use borrow.Author.Tests.{leb-true, le-leb, lt-ltb, le-ltb}
use lib.ListN.{length, get_or, length-append, get_or-append, get_or-eq_default}
use lib.Dec.{leb}
use Rattle.places.specs.Lists.{All}
use Rattle.places.proofs.Lists.{and_left, and_right}
use Rattle.exam_text.specs.Characters.{glyph, decimal_in}
use Rattle.exam_text.specs.Reader.{is_decimal, number_after}

-- each character is a decimal digit
abbrev pub Digits : List ℕ → Type 0
Digits ds = All (λ c. is_decimal c ≡ true) ds

pub decimal_low : (c : ℕ) → is_decimal c ≡ true → 48 ≤ c
decimal_low c e = leb-true 48 c (and_left (leb 48 c) (leb c 57) e)

pub decimal_high : (c : ℕ) → is_decimal c ≡ true → c ≤ 57
decimal_high c e = leb-true c 57 (and_right (leb 48 c) (leb c 57) e)

pub in_decimal : (c : ℕ) → 48 ≤ c → c ≤ 57 → is_decimal c ≡ true
in_decimal c a b = rw (le-leb 48 c a, le-leb c 57 b)

-- ---- one digit

pub glyph_low : (d : ℕ) → d < 10 → glyph d ≡ 48 + d
glyph_low d h = rw (lt-ltb d 10 h)

pub glyph_high : (d : ℕ) → 10 ≤ d → glyph d ≡ 87 + d
glyph_high d h = rw (le-ltb d 10 h)

-- ---- the digits of a number

pub decimal_one : (m x : ℕ) → x < 10 → decimal_in (suc m) x ≡ (48 + x) ∷ []
unfolding decimal_in
decimal_one m x h = rw (lt-ltb x 10 h)

pub decimal_more : (m x : ℕ) → 10 ≤ x → decimal_in (suc m) x ≡ decimal_in m (x / 10) ++ ((48 + x % 10) ∷ [])
unfolding decimal_in
decimal_more m x h = let r : x % 10 < 10 = omega arith in rw (le-ltb x 10 h, lt-ltb (x % 10) 10 r)

-- any m with x < 10 ^ m gives the same digits
pub decimal_enough : (m k x : ℕ) → x < 10 ^ suc m → x < 10 ^ suc k → decimal_in (suc m) x ≡ decimal_in (suc k) x
decimal_enough zero k x a b = decimal_one zero x (omega arith) ∙ sym (decimal_one k x (omega arith))
decimal_enough (suc m) zero x a b = decimal_one (suc m) x (omega arith) ∙ sym (decimal_one zero x (omega arith))
decimal_enough (suc m) (suc k) x a b = elim (dec_lt x 10) [
  | yes h ↦ decimal_one (suc m) x h ∙ sym (decimal_one (suc k) x h)
  | no h ↦
      decimal_more (suc m) x (omega arith)
      ∙ ap (λ (ds : List ℕ). ds ++ ((48 + x % 10) ∷ [])) (decimal_enough m k (x / 10) (omega arith) (omega arith))
      ∙ sym (decimal_more (suc k) x (omega arith))
]

all_append : (ds : List ℕ) (d : ℕ) → Digits ds → is_decimal d ≡ true → Digits (ds ++ (d ∷ []))
all_append [] d a e = (e, tt)
all_append (c ∷ ds) d a e = (a.0, all_append ds d a.1 e)

-- the characters are digits
pub decimal_digits : (m x : ℕ) → Digits (decimal_in m x)
unfolding decimal_in
decimal_digits zero x = tt
decimal_digits (suc m) x = elim (dec_lt x 10) [
  | yes h ↦ rw (decimal_one m x h) (in_decimal (48 + x) (omega arith) (omega arith), tt)
  | no h ↦
      let k : 10 ≤ x = omega arith in
      rw (decimal_more m x k) (all_append (decimal_in m (x / 10)) (48 + x % 10) (decimal_digits m (x / 10)) (in_decimal (48 + x % 10) (omega arith) (omega arith)))
]

-- there is one at least, and at most m
pub decimal_some : (m x : ℕ) → 1 ≤ length (decimal_in (suc m) x)
decimal_some m x = elim (dec_lt x 10) [
  | yes h ↦ rw (decimal_one m x h) (omega arith)
  | no h ↦
      let k : 10 ≤ x = omega arith in
      rw (decimal_more m x k) (omega (arith, length-append (decimal_in m (x / 10)) ((48 + x % 10) ∷ [])))
]

pub decimal_few : (m x : ℕ) → length (decimal_in m x) ≤ m
unfolding decimal_in
decimal_few zero x = omega arith
decimal_few (suc m) x = elim (dec_lt x 10) [
  | yes h ↦ rw (decimal_one m x h) (omega arith)
  | no h ↦
      let k : 10 ≤ x = omega arith in
      rw (decimal_more m x k) (omega (arith, length-append (decimal_in m (x / 10)) ((48 + x % 10) ∷ []), decimal_few m (x / 10)))
]

-- the first is no zero, but for the number zero
pub decimal_first : (m x : ℕ) → 1 ≤ x → x < 10 ^ m → 49 ≤ get_or (decimal_in m x) 0 0
decimal_first zero x l h = absurd (omega arith)
decimal_first (suc m) x l h = elim (dec_lt x 10) [
  | yes a ↦ rw (decimal_one m x a) (omega arith)
  | no a ↦
      let k : 10 ≤ x = omega arith in
      rw (decimal_more m x k) (more m (omega arith) (decimal_first m (x / 10) (omega arith) (omega arith)))
]
  where
    more : (m : ℕ) → x / 10 < 10 ^ m → 49 ≤ get_or (decimal_in m (x / 10)) 0 0 → 49 ≤ get_or (decimal_in m (x / 10) ++ ((48 + x % 10) ∷ [])) 0 0
    more m b ih =
        let s : 0 < length (decimal_in m (x / 10)) = elim (dec_lt 0 (length (decimal_in m (x / 10)))) [
          | yes y ↦ y
          | no y ↦ absurd (omega (arith, get_or-eq_default (decimal_in m (x / 10)) 0 {n = 0} (omega arith)))
        ] in
        rw (get_or-append (decimal_in m (x / 10)) ((48 + x % 10) ∷ []) 0 0 s) ih

-- ---- the number of digits

pub number_after_append : (x : ℕ) (ds : List ℕ) (d : ℕ) → number_after x (ds ++ (d ∷ [])) ≡ 10 * number_after x ds + (d - 48)
unfolding number_after
number_after_append x [] d = refl
number_after_append x (c ∷ ds) d = number_after_append (10 * x + (c - 48)) ds d

pub number_decimal : (m x : ℕ) → x < 10 ^ m → number_after 0 (decimal_in m x) ≡ x
unfolding number_after decimal_in
number_decimal zero x h = omega arith
number_decimal (suc m) x h = elim (dec_lt x 10) [
  | yes a ↦ rw (decimal_one m x a) (omega arith)
  | no a ↦
      let k : 10 ≤ x = omega arith in
      ap (number_after 0) (decimal_more m x k)
      ∙ number_after_append 0 (decimal_in m (x / 10)) (48 + x % 10)
      ∙ rw (number_decimal m (x / 10) (omega arith)) (omega arith)
]

-- a number that more digits follow
decimal_next : (m x d : ℕ) → 1 ≤ x → d < 10 → decimal_in (suc m) (10 * x + d) ≡ decimal_in m x ++ ((48 + d) ∷ [])
decimal_next m x d l h =
    let q : (10 * x + d) / 10 ≡ x = omega arith in
    let r : (10 * x + d) % 10 ≡ d = omega arith in
    decimal_more m (10 * x + d) (omega arith) ∙ rw (q, r)

pub decimal_after : (m x : ℕ) (ds : List ℕ) → 1 ≤ x → Digits ds → decimal_in (length ds + m) (number_after x ds) ≡ decimal_in m x ++ ds
unfolding number_after
decimal_after m x [] l a = let z : 0 + m ≡ m = omega arith in rw z (sym (append-nil (decimal_in m x)))
decimal_after m x (c ∷ ds) l a =
    let low : 48 ≤ c = decimal_low c a.0 in
    let high : c ≤ 57 = decimal_high c a.0 in
    let s : suc (length ds) + m ≡ length ds + suc m = omega arith in
    let back : 48 + (c - 48) ≡ c = omega arith in
    rw s
    (decimal_after (suc m) (10 * x + (c - 48)) ds (omega arith) a.1
    ∙ ap (λ (es : List ℕ). es ++ ds) (decimal_next m x (c - 48) l (omega arith))
    ∙ append_assoc (decimal_in m x) ((48 + (c - 48)) ∷ []) ds
    ∙ rw back)
