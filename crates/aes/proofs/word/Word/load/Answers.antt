-- `aes::word::Word::load` meets its contract. The bytes of a number that is made of bytes are those.
use borrow.Author.Rules.{rules}
use Rattle.std.proofs.lemmas.Nat.{le_bytes_4}
use Rattle.aes.proofs.word.Word.load.Goals as goal

pub returns : goal.returns
returns c = le_bytes_4 c.args.bytes _ (search rules) (search rules) c.from_le_bytes.ensures
