-- `exam_reading::lines::are_bits` meets its contract.
use Rattle.std.proofs.Common.{rules, ◌∙◌, ◌||◌, nat_eq}
use borrow.Author.Tests.{tests}
use Rattle.std.proofs.lemmas.Iterator.{YieldsList-from_slice}
use Rattle.std.proofs.lemmas.Iterator.Search.{all_from_yields_List}
use Rattle.exam_text.proofs.LineTests.{all_bits}
use Rattle.exam_reading.proofs.lines.are_bits.Goals as goal

pub returns : goal.returns
returns c =
    all_from_yields_List (λ x. nat_eq x 48 || nat_eq x 49) _ _ _ c.all.ensures.ran (YieldsList-from_slice c.args.characters.now cc) (λ x b q k. search (rules, tests))
    ∙ all_bits c.args.characters.now
