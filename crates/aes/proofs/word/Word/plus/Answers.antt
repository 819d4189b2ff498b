-- `aes::word::Word::plus` meets its contract. The sum is taken byte by byte.
use Rattle.aes.proofs.Words.{summed}
use Rattle.aes.proofs.word.Word.plus.Goals as goal

pub returns : goal.returns
returns c = summed c.args.self.bits c.args.other.bits
