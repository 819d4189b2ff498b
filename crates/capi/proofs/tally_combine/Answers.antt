-- `capi::tally_combine` meets its contract: what C is told has the number, the kind and the length that combining's contract gives it.
use Rattle.std.proofs.Common.{◌∙◌, ap}
use Rattle.capi.specs.Combined.{as_numbers}
use Rattle.capi.proofs.tally_combine.Goals as goal

pub returns : goal.returns
returns c = c.from.ensures _ ∙ ap as_numbers c.combine.ensures
