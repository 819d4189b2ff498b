-- `nodes::split` meets its contract.
use Rattle.nodes.proofs.Nodes.{cleared_set, control}
use Rattle.nodes.proofs.split.Goals as goal

pub returns : goal.returns
returns c = (cleared_set c.args.block, control c.args.block)
