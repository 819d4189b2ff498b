-- `capi::tally_search` meets its contract, which is that of the search.
use Rattle.std.proofs.Common.{◌∙◌}
use Rattle.capi.proofs.tally_search.Goals as goal

pub returns : goal.returns
returns c = c.from.ensures _ _ ∙ c.search.ensures
