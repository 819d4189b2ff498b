-- `levels::whole::write_first` meets its contract.
use mathlib.Core.Path.{◌∙◌}
use Rattle.levels.proofs.Opening.{first_bytes}
use Rattle.levels.proofs.whole.write_first.Goals as goal

pub returns : goal.returns
returns c = c.copy.ensures ∙ rw first_bytes
