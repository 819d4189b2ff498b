-- `walk::steps::descend` meets its contract.
use Rattle.nodes.specs.NodeLayout.{node_of, correction_of}
use Rattle.walk.proofs.Descent.{descend_block}
use Rattle.walk.proofs.steps.descend.Goals as goal

pub returns : goal.returns
returns c =
    let a = c.args in
    descend_block a.e (correction_of a.c) a.x (node_of a.m) (node_of c.corrected_child-below.result) c.corrected_child-below.ensures c.block.ensures
