-- `walk::pairs::ServerKey::second_node` meets its contract. A node depends on the bits above it alone.
use mathlib.Core.Path.{refl, ◌∙◌}
use Rattle.point.specs.Instance.{scheme}
use Rattle.point.proofs.Local.{node_local}
use Rattle.walk.proofs.pairs.ServerKey.second_node.Goals as goal

pub returns-then-same_bits : goal.returns-then-same_bits
returns-then-same_bits c =
    let a = c.args in
    c.requires ∙ node_local (scheme a.self.now.expander) a.self.now.seed a.self.now.server a.k (λ i l. refl) (c.same_bits.ensures.below c.if-same_bits.true)
