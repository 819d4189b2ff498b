-- `exam_reading::lines::are_hex` meets its contract.
use Rattle.std.proofs.Common.{rules, ◌∙◌}
use borrow.Author.Tests.{tests}
use Rattle.std.proofs.lemmas.Iterator.{YieldsList-from_slice}
use Rattle.std.proofs.lemmas.Iterator.Search.{all_from_yields_List}
use Rattle.exam_text.specs.Reader.{is_hex}
use Rattle.exam_text.proofs.LineTests.{all_hex}
use Rattle.exam_reading.proofs.lines.are_hex.Goals as goal

pub returns : goal.returns
returns c =
    all_from_yields_List is_hex _ _ _ c.all.ensures.ran (YieldsList-from_slice c.args.characters.now cc) (λ x b q k. search (rules, tests))
    ∙ all_hex c.args.characters.now
