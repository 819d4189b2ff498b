-- `nodes::corrected` meets its contract.
use Rattle.nodes.specs.NodeLayout.{node_of}
use Rattle.nodes.proofs.Nodes.{left_alone, put_right}
use Rattle.nodes.proofs.corrected.Goals as goal

pub returns-then-not-on : goal.returns-then-not-on
returns-then-not-on c =
    let a = c.args in
    left_alone a.on a.seed a.bit (node_of a.m) c.if-not-on.true-raw

pub returns : goal.returns
returns c =
    let a = c.args in
    put_right a.on a.seed a.bit (node_of a.m) c.if-not-on.false-raw c.xor.ensures
