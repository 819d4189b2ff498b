-- `exam_reading::lines::has_line` meets its contract.
use Rattle.std.proofs.Common.{arith}
use Rattle.std.proofs.lemmas.Grind.{common_steps}
use Rattle.exam_text.specs.Reader.{has_line}
use Rattle.exam_reading.proofs.lines.has_line.Goals as goal

pub returns-then-n-gt32 : goal.returns-then-n-gt32
unfolding has_line
returns-then-n-gt32 c = grind (arith, common_steps)

pub returns : goal.returns
unfolding has_line
returns c = grind (arith, common_steps)
