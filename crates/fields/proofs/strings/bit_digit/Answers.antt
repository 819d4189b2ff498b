-- `fields::strings::bit_digit` meets its contract.
use Rattle.fields.proofs.strings.bit_digit.Goals as goal

pub returns-then-bit : goal.returns-then-bit
returns-then-bit c = rw c.if-bit.true

pub returns-else-bit : goal.returns-else-bit
returns-else-bit c = rw c.if-bit.false
