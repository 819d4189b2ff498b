-- `bits::bit_at` meets its contract. A bit of the bytes is a digit of one of them.
use mathlib.Core.Path.{sym}
use Rattle.bits.proofs.Packed.{bit_of_lem}
use Rattle.bits.proofs.bit_at.Goals as goal

pub returns : goal.returns
returns c = rw c.byte_at.ensures (sym (bit_of_lem c.args.s.now c.args.i))
