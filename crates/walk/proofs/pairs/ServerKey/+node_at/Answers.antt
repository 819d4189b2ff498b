use native.Mathlib.Omega.{arith}
use Rattle.point.specs.PublicShare.{read_correction}
use Rattle.bits.specs.Packing.{bits_of}
use Rattle.point.specs.Evaluation.{bit_of}
use Rattle.walk.proofs.Descent.{node_root, node_level}
use Rattle.walk.proofs.pairs.ServerKey.+node_at.Goals as goal

pub returns-then-k-eq0 : goal.returns-then-k-eq0
returns-then-k-eq0 t c =
    let a = c.args in
    node_root a.self.now.expander (read_correction a.self.now.n a.self.now.public_share.now) a.self.now.seed a.self.now.server (bit_of (bits_of a.prefix.now)) a.k c.if-k-eq0.true

pub returns : goal.returns
returns t c =
    let a = c.args in
    node_level a.self.now.expander (read_correction a.self.now.n a.self.now.public_share.now) a.self.now.seed a.self.now.server (bit_of (bits_of a.prefix.now)) a.k (omega arith) c.read_level.ensures.0 c.bit_at.ensures c.node_at-above.ensures c.descend.ensures
