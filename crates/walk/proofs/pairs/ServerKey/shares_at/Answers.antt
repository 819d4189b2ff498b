-- `walk::pairs::ServerKey::shares_at` meets its contract.
use native.Mathlib.Omega.{arith}
use Rattle.bits.specs.Packing.{bits_of}
use Rattle.point.specs.Evaluation.{bit_of}
use Rattle.point.specs.PublicShare.{read_correction}
use Rattle.walk.proofs.Descent.{share_root, share_level}
use Rattle.walk.proofs.pairs.ServerKey.shares_at.Goals as goal

pub returns-then-k-eq0 : goal.returns-then-k-eq0
returns-then-k-eq0 c =
    let a = c.args in
    let words = read_correction a.self.n a.self.public_share.now in record { first_value = share_root a.self.expander words a.self.seed a.self.server (bit_of (bits_of a.first.now)) a.k c.if-k-eq0.true; second_value = share_root a.self.expander words a.self.seed a.self.server (bit_of (bits_of a.second.now)) a.k c.if-k-eq0.true }

pub returns : goal.returns
returns c =
    let a = c.args in
    let words = read_correction a.self.n a.self.public_share.now in record {
      first_value = share_level a.self.expander words a.self.seed a.self.server (bit_of (bits_of a.first.now)) a.k (omega arith) c.read_level.ensures.0 c.bit_at-x.ensures
          c.node_at-m.ensures c.share_below.ensures;
      second_value = share_level a.self.expander words a.self.seed a.self.server (bit_of (bits_of a.second.now)) a.k (omega arith) c.read_level.ensures.0 c.bit_at-y.ensures
          c.second_node-o.ensures c.share_below-2.ensures;
    }
