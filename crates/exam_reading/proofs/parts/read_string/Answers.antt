-- `exam_reading::parts::read_string` meets its contract.
use Rattle.exam_text.specs.Reader.{bits_read}
use Rattle.exam_text.proofs.Values.{four_bytes_lem}
use Rattle.exam_reading.proofs.parts.read_string.Goals as goal

pub returns : goal.returns
returns c = four_bytes_lem (bits_read c.args.digits.now) _ _ _ _ c.byte_read.ensures c.byte_read-2.ensures c.byte_read-3.ensures c.byte_read-4.ensures
