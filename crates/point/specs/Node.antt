-- Nodes of the tree: children, final seed and payload from the blocks of a seed.
use Rattle.std.specs.Prelude.{ℕ, ◌*◌, ◌/◌, ◌%◌, Bool, List, [], ◌∷◌, get_or, eqb}
use Rattle.places.specs.Lists.{digit}
use Rattle.point.specs.Scheme.{Scheme}

-- A seed and a control bit.
pub record Node : Type 0 where
  pub seed : List ℕ
  pub bit : Bool

-- the control bit of a block: the lowest bit of its first byte
unfoldable pub control_bit : List ℕ → Bool
control_bit b = eqb (get_or b 0 0 % 2) 1

-- a block with its control bit cleared: the seed of a child
unfoldable pub cleared : List ℕ → List ℕ
cleared [] = []
cleared (x ∷ xs) = x / 2 * 2 ∷ xs

module _ {A : Type 0} (S : Scheme A) where
  -- the child of a seed before correction: left (false) from block 0, right (true) from block 1
  unfoldable pub child : List ℕ → Bool → Node
  child s x = record { seed = cleared (S.block s (digit x)); bit = control_bit (S.block s (digit x)) }

  -- a corrected seed and bit give a node: its final seed is block 2
  unfoldable pub final : Node → Node
  final m = record { seed = S.block m.seed 2; bit = m.bit }

  -- the payload W of a corrected seed
  unfoldable pub payload_of : Node → A
  payload_of m = S.payload (S.block m.seed)
