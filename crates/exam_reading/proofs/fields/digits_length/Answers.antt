-- `exam_reading::fields::digits_length` meets its contract.
use Rattle.std.proofs.Common.{rules, ◌∙◌}
use borrow.Author.Tests.{tests}
use Rattle.std.proofs.lemmas.Iterator.{YieldsList-from_slice}
use Rattle.std.proofs.lemmas.Iterator.Consumers.{count_from_yields_List}
use Rattle.std.proofs.lemmas.Iterator.Search.{YieldsList-from_take_while}
use Rattle.std.proofs.lemmas.List.Folds.{length-prefix_len}
use Rattle.exam_text.specs.Reader.{is_decimal}
use Rattle.exam_text.proofs.Digits.{leading_length}
use Rattle.exam_reading.proofs.fields.digits_length.Goals as goal

pub returns : goal.returns
returns c =
    let t = c.args.text.now in
    count_from_yields_List c.take_while.result _ c.count.ensures.ran (YieldsList-from_take_while _ is_decimal (YieldsList-from_slice t cc) c.take_while.ensures.closure c.take_while.ensures.done (λ x b q k. search (rules, tests)))
    ∙ length-prefix_len is_decimal t
    ∙ leading_length t
