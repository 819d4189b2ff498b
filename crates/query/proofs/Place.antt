-- The place of a prefix in a query: whether it lies within.
use Prim.Native.Nat.{ℕ, suc, ◌+◌, ◌*◌, ◌/◌, ◌≤◌, ◌<◌}
use native.Mathlib.Omega.{arith}
use native.Mathlib.Nat.{suc-mul, le-div_iff_mul-le, div-lt_iff_lt-mul}
use mathlib.Core.Path.{◌≡◌, ◌∙◌}
use mathlib.Core.List.{List, []}
use borrow.Author.Tests.{le-leb, lt-leb}
use lib.ListN.{length, take, drop}
use Rattle.bits.specs.Packing.{packed_length}
use Rattle.query.specs.Query.{prefix_length}
use Rattle.query.specs.Prefix.{part, packed_prefix}

-- where k bytes hold more than i parts, part i ends within them
pub part_ends : (k w i : ℕ) → 0 < w → i < k / w → i * w + w ≤ k
part_ends k w i h l = rw (suc-mul i w) at ((le-div_iff_mul-le {k = w} {x = suc i} {y = k} h).0 l)

-- where they hold no more, it does not
pub part_past : (k w i : ℕ) → 0 < w → k / w ≤ i → k < i * w + w
part_past k w i h l = rw (suc-mul i w) at ((div-lt_iff_lt-mul {k = w} {x = k} {y = suc i} h).0 (omega arith))

module _ (q : List ℕ) (i len w : ℕ) (el : len ≡ prefix_length q) (ew : w ≡ packed_length len) where
  placed : packed_prefix q i ≡ part w (6 + i * w) q
  placed = rw (ew, el)

  pub prefix_inside : 6 + i * w + w ≤ length q → (size : ℕ) → size ≡ w → packed_prefix q i ≡ take size (drop (6 + i * w) q)
  unfolding part
  prefix_inside h size e = placed ∙ rw (le-leb (6 + i * w + w) (length q) h, e)

  pub prefix_outside : length q < 6 + i * w + w → packed_prefix q i ≡ []
  unfolding part
  prefix_outside h = placed ∙ rw (lt-leb (6 + i * w + w) (length q) h)
