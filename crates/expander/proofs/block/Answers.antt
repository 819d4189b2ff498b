-- `expander::block` meets its contract, expander by expander.
use Rattle.std.proofs.Common.{ap, ◌∙◌}
use Rattle.aes.specs.Fips197.{cipher}
use Rattle.expander.specs.Expander.{aes_block}
use Rattle.expander.proofs.block.Goals as goal

pub returns-in-Aes : goal.returns-in-Aes
unfolding aes_block
returns-in-Aes c = rw c.in-Aes.is (c.encrypt.ensures ∙ ap (cipher c.args.seed) c.counter.ensures)

pub returns-in-Classroom : goal.returns-in-Classroom
returns-in-Classroom c = rw c.in-Classroom.is c.classroom.ensures
