-- `walk::pairs::ServerKey::node_at` meets its contract. The measure is the number of bits.
use Rattle.walk.proofs.pairs.ServerKey.+node_at.Given as goal

abbrev pub decreases-node_at : goal.decreases-node_at
decreases-node_at l = l.k
