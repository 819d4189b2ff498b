use Rattle.nodes.specs.NodeLayout.{node_of}
use Rattle.keymaker.proofs.KeyMaker.{Standing}
use Rattle.keymaker.proofs.write_key.Given as goal

abbrev pub invariant-loop-k : goal.invariant-loop-k
invariant-loop-k l = Standing l.e l.n l.weight l.string l.fn.seed0 l.fn.seed1 l.initial.out l.k (node_of l.nodes.0) (node_of l.nodes.1) l.out
