-- `walk::steps::share_below` meets its contract.
use Rattle.nodes.specs.NodeLayout.{node_of, correction_of}
use Rattle.walk.proofs.Descent.{below}
use Rattle.walk.proofs.steps.share_below.Goals as goal

pub returns : goal.returns
returns c =
    let a = c.args in
    below a.e (correction_of a.c) a.x (node_of a.m) (node_of c.corrected_child-below.result) c.corrected_child-below.ensures c.corrected_payload-v.ensures a.b c.as_share.ensures
