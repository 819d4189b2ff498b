-- `expander::classroom` meets its contract.
use Rattle.std.proofs.Common.{◌∙◌}
use Rattle.expander.proofs.Words.{classroom_words}
use Rattle.expander.proofs.classroom.Goals as goal

pub returns : goal.returns
returns c =
    c.join.ensures
    ∙ classroom_words c.args.seed c.args.j c.well_formed.0.1.0.1 c.read_le8-a.ensures c.read_le8-b.ensures
    c.wrapping_add_u64.ensures.value c.wrapping_add_u64-first.ensures.value c.wrapping_add_u64-second.ensures.value
