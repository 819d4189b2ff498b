-- The structs of the code as the nodes and correction words of the theory.
use Rattle.std.specs.Prelude.{ℕ}
use Rattle.point.specs.Node as point
use Rattle.point.specs.Correction as words
use Rattle.nodes.specs.declared.Node.{Node}
use Rattle.nodes.specs.declared.Correction.{Correction}

-- a struct's seed and control bit as a node
abbrev pub node_of : Node → point.Node
node_of n = record { seed = n.seed; bit = n.bit }

-- a struct's corrections as the correction word of a level
abbrev pub correction_of : Correction → words.Correction ℕ
correction_of c = record { seed = c.seed; left = c.left; right = c.right; payload = c.payload }
