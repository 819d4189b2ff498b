-- A server's node and share at a prefix, from its root seed and the public correction words.
use Rattle.std.specs.Prelude.{ℕ, zero, suc, Bool, false, cond, List, length, get_or}
use Rattle.bits.specs.Strings.{Bits}
use Rattle.point.specs.Scheme.{Scheme}
use Rattle.point.specs.Node.{Node, final, payload_of}
use Rattle.point.specs.Correction.{Correction, corrected_child}

-- bit k of a string
abbrev pub bit_of : Bits → ℕ → Bool
bit_of q k = get_or q k false

module _ {A : Type 0} (S : Scheme A) where
  -- the node one bit x further down
  unfoldable pub descend : Correction A → Bool → Node → Node
  descend c x n = final S (corrected_child S c x n)

  -- W, plus the payload correction v if the control bit is 1
  unfoldable pub corrected_payload : A → Node → A
  corrected_payload v m = cond m.bit (S.group.add (payload_of S m) v) (payload_of S m)

  -- server b's share one bit x further down than the node n: negated for b = 1
  unfoldable pub share_below : Bool → Correction A → Bool → Node → A
  share_below b c x n =
      let v = corrected_payload c.payload (corrected_child S c x n) in
      cond b (S.group.neg v) v

  module _ (c : ℕ → Correction A) (s : List ℕ) (b : Bool) where
    -- server b's node at the first k bits of q: the root seed with control bit b, or one step from that of the prefix one bit shorter
    unfoldable pub node : (ℕ → Bool) → ℕ → Node
    node q zero = record { seed = s; bit = b }
    node q (suc k) = descend (c k) (q k) (node q k)

    -- server b's share at the first k bits of q; there is none at the empty prefix, and zero stands for it
    unfoldable pub share : (ℕ → Bool) → ℕ → A
    share q zero = S.group.zero
    share q (suc k) = share_below b (c k) (q k) (node q k)

    -- the same at a prefix
    abbrev pub node_at : Bits → Node
    node_at q = node (bit_of q) (length q)

    abbrev pub share_at : Bits → A
    share_at q = share (bit_of q) (length q)
