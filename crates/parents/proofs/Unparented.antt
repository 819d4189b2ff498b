-- One prefix of the new query after the other: each agrees with one of the last query, or one agrees with none.
use Prim.Native.Nat.{ℕ, suc, ◌+◌, ◌≤◌, ◌<◌}
use native.Mathlib.Omega.{arith}
use mathlib.Core.Path.{◌≡◌, ◌∙◌}
use mathlib.Core.Bool.{Bool, true, false}
use mathlib.Core.List.{List}
use borrow.Author.Tests.{lt-ltb, le-ltb, eq-eqb, ne_eqb}
use lib.Dec.{eqb, ltb}
use Rattle.query.specs.Query.{prefix_length, prefix_count}
use Rattle.query.specs.Prefix.{packed_prefix}
use Rattle.point.proofs.Joined.{every_true, every_false}
use Rattle.parents.specs.Lookup.{last_count, last_length, is_parent, up_from, looked_up, unparented}
use Rattle.parents.proofs.Looking.{looked_some, looked_none}

module _ (last query : List ℕ) where
  -- whether prefix j agrees with one of the last query
  abbrev pub has : ℕ → Bool
  has j = ltb (up_from (is_parent last (packed_prefix query j) (last_length last)) 0 (last_count last)) (last_count last)

  module _ (len k : ℕ) (el : len ≡ prefix_length query) (ek : k ≡ last_length last) where
    pub other_bits : (len ≡ k + 1 → ⊥) → unparented last query ≡ true
    unfolding unparented
    other_bits h =
        let e : eqb (prefix_length query) (suc (last_length last)) ≡ false =
        ne_eqb (prefix_length query) (suc (last_length last)) (λ z. h (omega arith)) in
        rw e

    module _ (h : len ≡ k + 1) where
      bits_fit : eqb (prefix_length query) (suc (last_length last)) ≡ true
      bits_fit = eq-eqb (prefix_length query) (suc (last_length last)) (omega arith)

      pub all_have : ((i : ℕ) → i < prefix_count query → has i ≡ true) → unparented last query ≡ false
      unfolding unparented
      all_have a = rw (bits_fit, every_true (prefix_count query) has a)

      pub one_lacks : (j : ℕ) → j < prefix_count query → has j ≡ false → unparented last query ≡ true
      unfolding unparented
      one_lacks j l e = rw (bits_fit, every_false (prefix_count query) has j l e)

  -- what was found from a hint on decides
  module _ (r k m hint j : ℕ) (child : List ℕ) (ek : k ≡ last_length last) (em : m ≡ last_count last) (ec : child ≡ packed_prefix query j)
      (er : r ≡ looked_up true (is_parent last child k) m hint) where
    looked : r ≡ looked_up true (is_parent last (packed_prefix query j) (last_length last)) (last_count last) hint
    looked = er ∙ rw (ek, em, ec)

    pub found_has : r < m → has j ≡ true
    found_has l =
        lt-ltb _ _ (looked_some (is_parent last (packed_prefix query j) (last_length last)) (last_count last) hint (omega (arith, looked)))

    pub missed_has : m ≤ r → has j ≡ false
    missed_has l =
        le-ltb _ _ (looked_none (is_parent last (packed_prefix query j) (last_length last)) (last_count last) hint (omega (arith, looked)))
