-- `keymaker::level::both_children` meets its contract. Each child is split from its block.
use mathlib.Core.Bool.{true, false}
use Rattle.nodes.proofs.Nodes.{child_split}
use Rattle.keymaker.proofs.level.both_children.Goals as goal

pub returns : goal.returns
returns c =
    let b = c.two_blocks in
    let a = c.args in (
      child_split a.e a.seed false b.ensures.0 c.split.ensures.0 c.split.ensures.1,
      child_split a.e a.seed true b.ensures.1 c.split-2.ensures.0 c.split-2.ensures.1,
    )
