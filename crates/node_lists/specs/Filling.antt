-- How a list is written at the roots, one node at a turn.
use Rattle.std.specs.Prelude.{ℕ, zero, suc, ◌*◌, Bool, List, set}
use Rattle.places.specs.Places.{window}
use Rattle.nodes.specs.declared.Node.{Node}

-- the node at root i
unfoldable pub root_node : Bool → List ℕ → ℕ → Node
root_node b seeds i = record { seed = window 16 (16 * i) seeds; bit = b }

-- the nodes when the first s are written
unfoldable pub filled_at : Bool → List ℕ → List Node → ℕ → List Node
filled_at b seeds l zero = l
filled_at b seeds l (suc s) = set (filled_at b seeds l s) s (root_node b seeds s)
