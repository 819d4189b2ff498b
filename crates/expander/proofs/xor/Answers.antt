-- `expander::xor` meets its contract: byte by byte.
use Rattle.expander.proofs.Sums.{xor_bytes_from}
use Rattle.expander.proofs.xor.Goals as goal

pub returns : goal.returns
returns c = xor_bytes_from 16 c.args.a c.args.b c.well_formed.0.1.0.1 c.well_formed.1.0.1.0.1
