-- `expander::counter` meets its contract.
use Rattle.std.proofs.Common.{◌∙◌, rules}
use Rattle.expander.proofs.Words.{counted}
use Rattle.expander.proofs.counter.Goals as goal

pub returns : goal.returns
returns c = c.write_be8.ensures ∙ counted c.args.j (search rules)
