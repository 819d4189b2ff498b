-- `nodes::child` meets its contract.
use Rattle.std.proofs.Common.{ap, ◌∙◌}
use Rattle.expander.specs.Expander.{block_of}
use Rattle.nodes.proofs.Nodes.{as_digit, child_split}
use Rattle.nodes.proofs.child.Goals as goal

pub returns : goal.returns
returns c =
    let a = c.args in
    child_split a.e a.seed a.x (c.block.ensures ∙ ap (block_of a.e a.seed) (c.from.ensures ∙ as_digit a.x)) c.split.ensures.0 c.split.ensures.1
