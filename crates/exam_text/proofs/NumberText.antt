-- Numbers in a text: what is printed is read back, and what is read is printed so.
use Prim.Native.Nat.{ℕ, suc, ◌+◌, ◌-◌, ◌*◌, ◌^◌, ◌≤◌, ◌<◌}
use native.Mathlib.Nat.{pow-le-pow_right}
use native.Mathlib.Decide.{dec_lt}
use native.Mathlib.Omega.{arith}
use mathlib.Core.Path.{◌≡◌, refl, sym, ap, ap₂, ◌∙◌}
use mathlib.Core.Bool.{Bool, true, false, cond, not, ◌&&◌, ◌||◌, or-true}
use mathlib.Core.List.{List, [], ◌∷◌, ◌++◌}
use borrow.Author.Tests.{leb-true, le-leb, eqb-true, eq-eqb, eqb-false, ne_eqb, not-true}
use lib.ListN.{length, get_or, drop, get_or-eq_default}
use lib.Seq.{drop-cons, get_or-append_seam, drop-append-add}
use lib.Dec.{leb, eqb}
use Rattle.places.proofs.Lists.{and_left, and_right}
use Rattle.exam_text.specs.Characters.{decimal_in, decimal}
use Rattle.exam_text.specs.Reader.{is_decimal, leading, number_after, is_number, number_then, first_number, behind}
use Rattle.exam_text.proofs.Decimals.{Digits, decimal_low, decimal_high, decimal_one, decimal_enough, decimal_digits, decimal_some, decimal_few, decimal_first, number_decimal, decimal_after}

-- what the layout as a number says of digits
pub record Laid (ds : List ℕ) : Type 0 where
  pub some : 1 ≤ length ds
  pub few : length ds ≤ 5
  pub no_zero : (length ds ≡ 1 → ⊥) → get_or ds 0 0 ≡ 48 → ⊥

pub laid : (ds : List ℕ) → is_number ds ≡ true → Laid ds
laid ds e =
    let b = and_left (leb 1 (length ds) && leb (length ds) 5) (eqb (length ds) 1 || not (eqb (get_or ds 0 0) 48)) e in
    let z = and_right (leb 1 (length ds) && leb (length ds) 5) (eqb (length ds) 1 || not (eqb (get_or ds 0 0) 48)) e in
    record {
      some = leb-true 1 (length ds) (and_left (leb 1 (length ds)) (leb (length ds) 5) b);
      few = leb-true (length ds) 5 (and_right (leb 1 (length ds)) (leb (length ds) 5) b);
      no_zero = λ more. eqb-false (get_or ds 0 0) 48 (not-true (eqb (get_or ds 0 0) 48) (rw (ne_eqb (length ds) 1 more) at z));
    }

-- digits laid out as a number are those of their number
pub decimal_number : (ds : List ℕ) → Digits ds → is_number ds ≡ true → decimal (number_after 0 ds) ≡ ds
unfolding number_after
decimal_number [] a e = absurd (omega (arith, (laid [] e).some))
decimal_number (c ∷ []) a e =
    let low : 48 ≤ c = decimal_low c a.0 in
    let high : c ≤ 57 = decimal_high c a.0 in
    let back : 48 + (10 * 0 + (c - 48)) ≡ c = omega arith in
    decimal_one 19 (10 * 0 + (c - 48)) (omega arith) ∙ rw back
decimal_number (c ∷ d ∷ ds) a e =
    let low : 48 ≤ c = decimal_low c a.0 in
    let high : c ≤ 57 = decimal_high c a.0 in
    let few : length ds ≤ 3 = omega (arith, (laid (c ∷ d ∷ ds) e).few) in
    let more : length (c ∷ d ∷ ds) ≡ 1 → ⊥ = λ q. omega arith in
    let first : c ≡ 48 → ⊥ = (laid (c ∷ d ∷ ds) e).no_zero more in
    let x : ℕ = 10 * 0 + (c - 48) in
    let back : 48 + x ≡ c = omega arith in
    let fuel : length (d ∷ ds) + suc (18 - length ds) ≡ 20 = omega arith in
    ap (λ (m : ℕ). decimal_in m (number_after x (d ∷ ds))) (sym fuel)
    ∙ decimal_after (suc (18 - length ds)) x (d ∷ ds) (omega arith) a.1
    ∙ ap (λ (es : List ℕ). es ++ (d ∷ ds)) (decimal_one (18 - length ds) x (omega arith))
    ∙ rw back

-- the number of digits is below a power of 10
number_below : (m k x : ℕ) (ds : List ℕ) → Digits ds → x < 10 ^ k → length ds + k ≤ m → number_after x ds < 10 ^ m
unfolding number_after
number_below m k x [] a h l =
    let ten : 0 < 10 = omega arith in
    let r : k ≤ m = omega arith in
    omega (arith, pow-le-pow_right ten r)
number_below m k x (c ∷ ds) a h l = number_below m (suc k) (10 * x + (c - 48)) ds a.1 (omega (arith, decimal_high c a.0)) (omega arith)

-- ---- the digits with which a text begins

pub leading_digits : (cs : List ℕ) → Digits (leading cs)
unfolding leading
leading_digits [] = tt
leading_digits (c ∷ cs) = go (is_decimal c) refl (leading_digits cs)
  where
    go : (b : Bool) → is_decimal c ≡ b → Digits (leading cs) → Digits (cond b (c ∷ leading cs) [])
    go true e a = (e, a)
    go false e a = tt

leading_split : (cs : List ℕ) → leading cs ++ drop (length (leading cs)) cs ≡ cs
unfolding leading
leading_split [] = refl
leading_split (c ∷ cs) = go (is_decimal c) (leading_split cs)
  where
    go : (b : Bool) → leading cs ++ drop (length (leading cs)) cs ≡ cs
        → cond b (c ∷ leading cs) [] ++ drop (length (cond b (c ∷ leading cs) [])) (c ∷ cs) ≡ c ∷ cs
    go true e = ap (λ (r : List ℕ). c ∷ r) e
    go false e = refl

leading_stops : (ds : List ℕ) (c : ℕ) (rest : List ℕ) → Digits ds → is_decimal c ≡ false → leading (ds ++ (c ∷ rest)) ≡ ds
unfolding leading
leading_stops [] c rest a e = rw e
leading_stops (d ∷ ds) c rest a e = rw a.0 (ap (λ (r : List ℕ). d ∷ r) (leading_stops ds c rest a.1 e))

-- ---- a number that is printed is read

is_number_lem : (x : ℕ) → x < 100000 → is_number (decimal_in 5 x) ≡ true
is_number_lem x h = elim (dec_lt x 10) [
  | yes a ↦ rw (decimal_one 4 x a)
  | no a ↦
      let k : 49 ≤ get_or (decimal_in 5 x) 0 0 = decimal_first 5 x (omega arith) h in
      rw (le-leb 1 (length (decimal_in 5 x)) (decimal_some 4 x), le-leb (length (decimal_in 5 x)) 5 (decimal_few 5 x), ne_eqb (get_or (decimal_in 5 x) 0 0) 48 (λ e. omega arith))
      (or-true (eqb (length (decimal_in 5 x)) 1))
]

module _ (x c : ℕ) (rest : List ℕ) (h : x < 100000) (e : is_decimal c ≡ false) where
  printed_leading : leading (decimal x ++ (c ∷ rest)) ≡ decimal x
  printed_leading = leading_stops (decimal x) c rest (decimal_digits 20 x) e

  -- the number is followed by c, and by no other character
  pub printed_then : (d : ℕ) → number_then d (decimal x ++ (c ∷ rest)) ≡ eqb c d
  printed_then d =
      rw (printed_leading, decimal_enough 19 4 x (omega arith) h, is_number_lem x h, get_or-append_seam (decimal_in 5 x) c rest 0)

  -- so it is read with c behind it, as x, and the rest stands behind c
  pub printed_ends : number_then c (decimal x ++ (c ∷ rest)) ≡ true
  printed_ends = printed_then c ∙ eq-eqb c c refl

  pub printed_first : first_number (decimal x ++ (c ∷ rest)) ≡ x
  printed_first = ap (number_after 0) printed_leading ∙ number_decimal 20 x (omega arith)

  pub printed_behind : behind (decimal x ++ (c ∷ rest)) ≡ rest
  printed_behind =
      let one : suc (length (decimal x)) ≡ length (decimal x) + 1 = omega arith in
      rw (printed_leading, one) (drop-append-add (decimal x) (c ∷ rest) 1)

-- ---- a number that is read is printed

module _ (c : ℕ) (cs : List ℕ) (pos : 1 ≤ c) (e : number_then c cs ≡ true) where
  read_number : is_number (leading cs) ≡ true
  read_number = and_left (is_number (leading cs)) (eqb (get_or cs (length (leading cs)) 0) c) e

  pub read_below : first_number cs < 100000
  read_below =
      number_below 5 0 0 (leading cs) (leading_digits cs) (omega arith) (omega (arith, (laid (leading cs) read_number).few))

  pub read_text_lem : cs ≡ decimal (first_number cs) ++ (c ∷ behind cs)
  read_text_lem =
      let k : ℕ = length (leading cs) in
      let at : get_or cs k 0 ≡ c = eqb-true (get_or cs k 0) c (and_right (is_number (leading cs)) (eqb (get_or cs k 0) c) e) in
      let inside : k < length cs = elim (dec_lt k (length cs)) [
        | yes a ↦ a
        | no a ↦ absurd (omega (arith, get_or-eq_default cs 0 {n = k} (omega arith)))
      ] in
      sym (leading_split cs)
      ∙ ap₂ ◌++◌ (sym (decimal_number (leading cs) (leading_digits cs) read_number))
      (drop-cons cs k 0 inside ∙ ap (λ (x : ℕ). x ∷ behind cs) at)
