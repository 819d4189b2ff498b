-- `aes::word::Word::rot_word` meets its contract. The lowest byte becomes the highest.
use mathlib.Core.Path.{ap, ◌∙◌}
use Rattle.aes.specs.StateLayout.{four_bytes}
use Rattle.aes.proofs.Words.{rotated}
use borrow.Author.Rules.{rules}
use Rattle.aes.proofs.word.Word.rot_word.Goals as goal

pub returns : goal.returns
returns c = ap four_bytes c.rotate_right.ensures ∙ rotated c.args.self.bits (search rules)
