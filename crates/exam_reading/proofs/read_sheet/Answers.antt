-- `exam_reading::read_sheet` meets its contract. Each test that fails is one of the definition's, after those that pass.
use native.Mathlib.Omega.{arith}
use mathlib.Core.Path.{◌≡◌, sym, ◌∙◌}
use mathlib.Core.Bool.{false}
use borrow.Author.Rules.{rules}
use Rattle.std.specs.Prelude.{is_some}
use Rattle.exam_text.proofs.Field.{rest_is}
use Rattle.exam_text.proofs.SheetTests.{too_long, no_first_line_lem, too_wide, too_many, lines_decide, sheet_says}
use Rattle.exam_reading.proofs.read_sheet.Goals as goal

pub returns-then-text-gt4096-clause-sheet : goal.returns-then-text-gt4096-clause-sheet
returns-then-text-gt4096-clause-sheet c = sym (too_long c.args.text.now c.if-text-gt4096.true)

pub returns-in_err-first-clause-sheet : goal.returns-in_err-first-clause-sheet
returns-in_err-first-clause-sheet c =
    let none : is_some c.from_residual.result ≡ false = search rules in
    none ∙ sym (no_first_line_lem c.args.text.now (omega arith) (sym c.in_err-first.ensures.laid))

pub returns-then-first-gt32-clause-sheet : goal.returns-then-first-gt32-clause-sheet
returns-then-first-gt32-clause-sheet c =
    let f = c.in_ok-first in
    sym (too_wide c.args.text.now (omega arith) (sym f.ensures.laid) _ _ _ _ _ f.ensures.says c.if-first-gt32.true)

pub returns-then-first-gt32-2-clause-sheet : goal.returns-then-first-gt32-2-clause-sheet
returns-then-first-gt32-2-clause-sheet c =
    let f = c.in_ok-first in
    sym (too_many c.args.text.now (omega arith) (sym f.ensures.laid) _ _ _ _ _ f.ensures.says c.if-first-gt32.false c.if-first-gt32-2.true)

pub returns-then-not-are_lines-clause-sheet : goal.returns-then-not-are_lines-clause-sheet
returns-then-not-are_lines-clause-sheet c =
    let t = c.args.text.now in
    let f = c.in_ok-first in
    sym (lines_decide t (omega arith) (sym f.ensures.laid) _ _ _ _ _ f.ensures.says c.if-first-gt32.false c.if-first-gt32-2.false
    ∙ sym (rw (rest_is t f.first.lines) at c.are_lines.ensures)
    ∙ c.if-not-are_lines.true)

pub returns-clause-sheet : goal.returns-clause-sheet
returns-clause-sheet c =
    let t = c.args.text.now in
    let f = c.in_ok-first in
    sym (lines_decide t (omega arith) (sym f.ensures.laid) _ _ _ _ _ f.ensures.says c.if-first-gt32.false c.if-first-gt32-2.false
    ∙ sym (rw (rest_is t f.first.lines) at c.are_lines.ensures)
    ∙ c.if-not-are_lines.false)

pub returns-clause-says : goal.returns-clause-says
returns-clause-says c =
    let f = c.in_ok-first in
    sheet_says c.args.text.now (omega arith) (sym f.ensures.laid) _ _ _ _ _ f.ensures.says c.if-first-gt32.false c.if-first-gt32-2.false
