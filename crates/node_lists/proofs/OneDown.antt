-- A node and a share at a prefix, one step down from the node at its parent.
use Prim.Native.Nat.{ℕ, zero, suc, ◌-◌, ◌<◌}
use native.Mathlib.Omega.{arith}
use mathlib.Core.Path.{◌≡◌, refl, sym, ap, ◌∙◌}
use mathlib.Core.Bool.{Bool, false}
use mathlib.Core.List.{List}
use lib.ListN.{length, get_or}
use lib.Seq.{get_or-take, length-take-le}
use Rattle.bits.specs.Strings.{Bits}
use Rattle.point.specs.Scheme.{Scheme}
use Rattle.point.specs.Correction.{Correction}
use Rattle.point.specs.Evaluation.{bit_of, descend, share_below, node, share, node_at, share_at}
use Rattle.point.proofs.Local.{node_local}
use Rattle.parents.specs.Parents.{parent, last_bit}

module _ {A : Type 0} (S : Scheme A) (c : ℕ → Correction A) (s : List ℕ) (b : Bool) (q : Bits) where
  -- the node at the parent, by the bits of the prefix itself
  parent_node : node_at S c s b (parent q) ≡ node S c s b (bit_of q) (length q - 1)
  parent_node =
      ap (node S c s b (bit_of (parent q))) (length-take-le (length q - 1) q (omega arith))
      ∙ node_local S s b (length q - 1) (λ i h. refl) (λ i h. get_or-take (length q - 1) q i false h)

  module _ (h : 0 < length q) where
    pub node_down : node_at S c s b q ≡ descend S (c (length q - 1)) (last_bit q) (node_at S c s b (parent q))
    unfolding node
    node_down = go (length q) h ∙ ap (descend S (c (length q - 1)) (last_bit q)) (sym parent_node)
      where
        go : (m : ℕ) → 0 < m → node S c s b (bit_of q) m ≡ descend S (c (m - 1)) (get_or q (m - 1) false) (node S c s b (bit_of q) (m - 1))
        go zero l = absurd (omega arith)
        go (suc m) l = let e : suc m - 1 ≡ m = omega arith in rw e

    pub share_down : share_at S c s b q ≡ share_below S b (c (length q - 1)) (last_bit q) (node_at S c s b (parent q))
    unfolding share
    share_down = go (length q) h ∙ ap (share_below S b (c (length q - 1)) (last_bit q)) (sym parent_node)
      where
        go : (m : ℕ) → 0 < m → share S c s b (bit_of q) m ≡ share_below S b (c (m - 1)) (get_or q (m - 1) false) (node S c s b (bit_of q) (m - 1))
        go zero l = absurd (omega arith)
        go (suc m) l = let e : suc m - 1 ≡ m = omega arith in rw e
