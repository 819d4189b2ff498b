-- `aes::word::Word::mix_column` meets its contract. Each byte is made of two doublings.
use mathlib.Core.Path.{◌∙◌, ap, ap₂}
use mathlib.Core.List.{List}
use Prim.Native.Nat.{ℕ}
use Rattle.aes.specs.Fips197.{sum_word, rot_word}
use Rattle.aes.specs.StateLayout.{word_of}
use Rattle.aes.proofs.Columns.{mixed_word}
use Rattle.aes.proofs.word.Word.mix_column.Goals as goal

pub returns : goal.returns
returns c =
    let w = word_of c.args.self in
    let twice = c.doubled-twice.ensures in
    let third = c.rot_word-third.ensures ∙ ap rot_word c.rot_word.ensures in
    let fourth = c.rot_word-fourth.ensures ∙ ap rot_word third in
    let next = c.rot_word-next.ensures ∙ ap rot_word (c.plus.ensures ∙ ap (λ (v : List ℕ). sum_word v w) twice) in
    c.plus-4.ensures
    ∙ ap₂ sum_word (c.plus-3.ensures ∙ ap₂ sum_word (c.plus-2.ensures ∙ ap₂ sum_word twice next) third) fourth
    ∙ mixed_word c.args.self.bits
