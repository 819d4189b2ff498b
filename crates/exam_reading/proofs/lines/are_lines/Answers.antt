-- `exam_reading::lines::are_lines` meets its contract: the lines are chunks of one length.
use Rattle.std.proofs.Common.{rules, arith, ◌≡◌, ◌∙◌, sym, length, ◌*◌}
use borrow.Author.Tests.{tests}
use Rattle.std.proofs.lemmas.Iterator.Search.{all_from_yields_List}
use Rattle.exam_text.specs.Reader.{line_length, is_line}
use Rattle.exam_text.proofs.LineTests.{other_length}
use Rattle.exam_reading.proofs.Chunks.{parts_yield, lines_parts}
use Rattle.exam_reading.proofs.lines.are_lines.Goals as goal

pub returns-then-text-count : goal.returns-then-text-count
returns-then-text-count c =
    let a = c.args in
    sym (other_length a.n a.count a.text.now (λ e. c.if-text-count.true (e ∙ rw c.line_length.ensures)))

pub returns : goal.returns
returns c =
    let a = c.args in
    let l : length a.text.now ≡ a.count * line_length a.n = c.if-text-count.false ∙ rw c.line_length.ensures in
    all_from_yields_List (is_line a.n) _ _ _ c.all.ensures.ran
    (parts_yield (line_length a.n) a.count a.text.now c.chunks_exact.result (omega arith) (c.chunks_exact.ensures.size ∙ c.line_length-2.ensures) c.chunks_exact.ensures.rest l)
    (λ x b q k. search (rules, tests))
    ∙ lines_parts a.n a.count a.text.now l
