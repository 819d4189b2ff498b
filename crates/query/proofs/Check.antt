-- The tests of a query, in their order.
use Prim.Native.Nat.{ℕ, ◌+◌, ◌-◌, ◌*◌, ◌/◌, ◌≤◌, ◌<◌}
use native.Mathlib.Omega.{arith}
use native.Mathlib.Nat.{mul-le-mul, mul-div_cancel}
use mathlib.Core.Path.{◌≡◌, ◌∙◌}
use mathlib.Core.Bool.{true, false, ◌&&◌}
use mathlib.Core.List.{List, map}
use borrow.Author.Tests.{le-leb, lt-leb, eq-eqb, ne_eqb}
use lib.ListN.{length, take, drop, length-drop}
use Rattle.std.proofs.lemmas.List.{take_rest}
use lib.Dec.{leb, eqb}
use Rattle.bits.specs.Packing.{packed_length, unpack}
use Rattle.query.specs.Query.{limit, prefix_length, prefix_count, parts, spares_zero, is_ascending, is_query}

-- the bytes of all prefixes are few enough to be counted
pub few_bytes : (m w : ℕ) → m ≤ limit → w ≤ 8192 → m * w ≤ 1073725440
few_bytes m w a b = mul-le-mul a b

-- after the fields stand the prefixes and nothing else
pub whole_parts : (len m w : ℕ) (q : List ℕ) → w ≡ packed_length len → 0 < w → length q ≡ 6 + m * w
    → parts (packed_length len) (length (take (length q - 6) (drop 6 q)) / packed_length len) (take (length q - 6) (drop 6 q)) ≡ parts w m (drop 6 q)
whole_parts len m w q e z l =
    let r : length (drop 6 q) ≡ m * w = length-drop 6 q ∙ omega arith in
    rw (take_rest q 6, ← e, r, mul-div_cancel m z)

-- the tests of length and count have passed, and the others decide
pub record Left (n len m w : ℕ) (q : List ℕ) : Type 0 where
  pub tests : is_query n q
      ≡ (eqb (length q) (6 + m * w) && spares_zero len (parts w m (drop 6 q)) && is_ascending (map (unpack len) (parts w m (drop 6 q))))

module _ (n len m : ℕ) (q : List ℕ) (el : len ≡ prefix_length q) (em : m ≡ prefix_count q) where
  all_tests : is_query n q
      ≡ (leb len n
      && leb 1 m
      && leb m limit
      && eqb (length q) (6 + m * packed_length len)
      && spares_zero len (parts (packed_length len) m (drop 6 q))
      && is_ascending (map (unpack len) (parts (packed_length len) m (drop 6 q))))
  unfolding is_query
  all_tests = rw (el, em)

  pub too_long : n < len → is_query n q ≡ false
  too_long h = all_tests ∙ rw (lt-leb len n h)

  module _ (a : len ≤ n) where
    pub no_prefix : m < 1 → is_query n q ≡ false
    no_prefix h = all_tests ∙ rw (le-leb len n a, lt-leb 1 m h)

    module _ (b : 1 ≤ m) where
      pub too_many : limit < m → is_query n q ≡ false
      too_many h = all_tests ∙ rw (le-leb len n a, le-leb 1 m b, lt-leb m limit h)

      pub counted : m ≤ limit → (w : ℕ) → w ≡ packed_length len → Left n len m w q
      counted c w e = record { tests = all_tests ∙ rw (le-leb len n a, le-leb 1 m b, le-leb m limit c, e) }

module _ {n len m w : ℕ} {q : List ℕ} (t : Left n len m w q) where
  pub other_length : (length q ≡ 6 + m * w → ⊥) → is_query n q ≡ false
  other_length h = t.tests ∙ rw (ne_eqb (length q) (6 + m * w) h)

  module _ (l : length q ≡ 6 + m * w) where
    pub spare_set : spares_zero len (parts w m (drop 6 q)) ≡ false → is_query n q ≡ false
    spare_set z = t.tests ∙ rw (eq-eqb (length q) (6 + m * w) l, z)

    pub order_left : spares_zero len (parts w m (drop 6 q)) ≡ true → is_query n q ≡ is_ascending (map (unpack len) (parts w m (drop 6 q)))
    order_left z = t.tests ∙ rw (eq-eqb (length q) (6 + m * w) l, z)
