-- The order of bit strings, and of packed strings of one length.
use Prim.Native.Nat.{ℕ, zero, suc, ◌+◌, ◌-◌, ◌*◌, ◌^◌, ◌≤◌, ◌<◌, min}
use native.Mathlib.Omega.{arith}
use native.Mathlib.Nat.{suc_inj, suc-ne-zero}
use mathlib.Core.Path.{◌≡◌, refl, sym, ap, ◌∙◌}
use mathlib.Core.Bool.{Bool, true, false, ◌&&◌, ◌||◌}
use mathlib.Core.List.{List, [], ◌∷◌}
use borrow.Author.Tests.{lt-ltb, le-ltb, eq-eqb, ne_eqb, ltb-true, ltb-false, eqb-true, eqb-false, leb-true, leb-false}
use lib.ListN.{length, get_or, drop, length-drop, drop_of_length-le}
use lib.Seq.{drop-cons}
use lib.Dec.{ltb, leb, eqb}
use Rattle.bits.specs.Strings.{Bits, is_before, Before}
use Rattle.bits.specs.Packing.{packed_length, value, pack_in, pack, bytes_before}
use Rattle.bits.proofs.Packed.{value_below}

-- ---- bit strings

pub before_transitive : (p q r : Bits) → Before p q → Before q r → Before p r
before_transitive [] q r h k = absurd h
before_transitive (b ∷ p) [] r h k = absurd h
before_transitive (b ∷ p) (c ∷ q) [] h k = absurd k
before_transitive (false ∷ p) (false ∷ q) (false ∷ r) h k = before_transitive p q r h k
before_transitive (false ∷ p) (false ∷ q) (true ∷ r) h k = tt
before_transitive (false ∷ p) (true ∷ q) (true ∷ r) h k = tt
before_transitive (false ∷ p) (true ∷ q) (false ∷ r) h k = absurd k
before_transitive (true ∷ p) (false ∷ q) (c ∷ r) h k = absurd h
before_transitive (true ∷ p) (true ∷ q) (false ∷ r) h k = absurd k
before_transitive (true ∷ p) (true ∷ q) (true ∷ r) h k = before_transitive p q r h k

-- ---- packed strings

ltb_shift : (c x y : ℕ) → ltb (c + x) (c + y) ≡ ltb x y
ltb_shift c x y = go (ltb x y) refl
  where
    go : (d : Bool) → ltb x y ≡ d → ltb (c + x) (c + y) ≡ d
    go true e = lt-ltb (c + x) (c + y) (omega (arith, ltb-true x y e))
    go false e = le-ltb (c + x) (c + y) (omega (arith, ltb-false x y e))

eqb_shift : (c x y : ℕ) → eqb (c + x) (c + y) ≡ eqb x y
eqb_shift c x y = go (eqb x y) refl
  where
    go : (d : Bool) → eqb x y ≡ d → eqb (c + x) (c + y) ≡ d
    go true e = eq-eqb (c + x) (c + y) (ap (λ z. c + z) (eqb-true x y e))
    go false e = ne_eqb (c + x) (c + y) (λ q. eqb-false x y e (omega arith))

-- the first w bits decide, or the rest does, of which r is what the test finds
value_order : (w : ℕ) (p q : Bits) (r : Bool) → length p ≡ length q → is_before (drop w p) (drop w q) ≡ r
    → (ltb (value w p) (value w q) || (eqb (value w p) (value w q) && r)) ≡ is_before p q
unfolding value
value_order zero p q r l e = sym e
value_order (suc w) [] [] r l e = sym e
value_order (suc w) [] (c ∷ q) r l e = absurd (suc-ne-zero _ (sym l))
value_order (suc w) (b ∷ p) [] r l e = absurd (suc-ne-zero _ l)
value_order (suc w) (false ∷ p) (false ∷ q) r l e = rw (ltb_shift, eqb_shift) (value_order w p q r (suc_inj l) e)
value_order (suc w) (true ∷ p) (true ∷ q) r l e = rw (ltb_shift, eqb_shift) (value_order w p q r (suc_inj l) e)
value_order (suc w) (false ∷ p) (true ∷ q) r l e = rw (lt-ltb (0 * 2 ^ w + value w p) (1 * 2 ^ w + value w q) (omega (arith, value_below w p)))
value_order (suc w) (true ∷ p) (false ∷ q) r l e =
    rw (
      le-ltb (1 * 2 ^ w + value w p) (0 * 2 ^ w + value w q) (omega (arith, value_below w q)),
      ne_eqb (1 * 2 ^ w + value w p) (0 * 2 ^ w + value w q) (λ z. omega (arith, value_below w q)),
    )

before_pack_in : (m : ℕ) (p q : Bits) → length p ≡ length q → length p ≤ 8 * m → bytes_before (pack_in m p) (pack_in m q) ≡ is_before p q
unfolding pack_in bytes_before
before_pack_in zero [] q l h = refl
before_pack_in zero (b ∷ p) q l h = absurd (omega arith)
before_pack_in (suc m) p q l h =
    value_order 8 p q _ l (sym (before_pack_in m (drop 8 p) (drop 8 q) (length-drop 8 p ∙ ap (λ n. n - 8) l ∙ sym (length-drop 8 q)) (omega (arith, length-drop 8 p))))

-- packed strings of one length stand in the order of the strings
pub before_pack : (p q : Bits) → length p ≡ length q → bytes_before (pack p) (pack q) ≡ is_before p q
unfolding pack
before_pack p q l = rw (← l) (before_pack_in (packed_length (length p)) p q l (omega arith))

-- ---- byte by byte

before_nil : (s : List ℕ) → bytes_before s [] ≡ false
unfolding bytes_before
before_nil [] = refl
before_nil (x ∷ s) = refl

-- from the end of the shorter of them on there is nothing to find
pub before_end : (s q : List ℕ) (i : ℕ) → min (length s) (length q) ≤ i → bytes_before (drop i s) (drop i q) ≡ false
unfolding bytes_before
before_end s q i h = go (leb (length s) i) refl
  where
    go : (d : Bool) → leb (length s) i ≡ d → bytes_before (drop i s) (drop i q) ≡ false
    go true e =
        let k : length s ≤ i = leb-true (length s) i e in
        rw (drop_of_length-le s k)
    go false e =
        let k : length q ≤ i = omega (arith, leb-false (length s) i e) in
        rw (drop_of_length-le q k) (before_nil (drop i s))

module _ (s q : List ℕ) (i : ℕ) (hs : i < length s) (hq : i < length q) where
  before_step : bytes_before (drop i s) (drop i q)
      ≡ (ltb (get_or s i 0) (get_or q i 0) || (eqb (get_or s i 0) (get_or q i 0) && bytes_before (drop (suc i) s) (drop (suc i) q)))
  unfolding bytes_before
  before_step = rw (drop-cons s i 0 hs, drop-cons q i 0 hq)

  pub before_less : get_or s i 0 < get_or q i 0 → bytes_before (drop i s) (drop i q) ≡ true
  before_less h = before_step ∙ rw (lt-ltb _ _ h)

  pub before_more : get_or q i 0 < get_or s i 0 → bytes_before (drop i s) (drop i q) ≡ false
  before_more h =
      let k : get_or q i 0 ≤ get_or s i 0 = omega arith in
      before_step ∙ rw (le-ltb _ _ k, ne_eqb (get_or s i 0) (get_or q i 0) (λ e. omega arith))

  pub before_same : get_or q i 0 ≤ get_or s i 0 → get_or s i 0 ≤ get_or q i 0
      → bytes_before (drop i s) (drop i q) ≡ bytes_before (drop (suc i) s) (drop (suc i) q)
  before_same h k =
      let e : get_or s i 0 ≡ get_or q i 0 = omega arith in
      before_step ∙ rw (le-ltb _ _ h, eq-eqb _ _ e)
