-- `capi::tally_share_kept` meets its contract: what C is told has the number and the length of the answer.
use Rattle.std.proofs.Common.{◌∙◌}
use Rattle.node_lists.proofs.Handed.{kept_told}
use Rattle.capi.proofs.tally_share_kept.Goals as goal

pub returns : goal.returns
returns c = kept_told _ _ _ _ (c.from.ensures _) ∙ c.share_kept.ensures
