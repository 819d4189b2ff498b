-- `exam_reading::first_line::read_first_line` meets its contract: each `?` stands at a test of the definition.
use mathlib.Core.Path.{◌≡◌, sym, ◌∙◌}
use mathlib.Core.Bool.{false}
use borrow.Author.Rules.{rules}
use Rattle.std.specs.Prelude.{is_some}
use Rattle.exam_text.proofs.FirstLine.{no_first, no_second, line_laid, line_says}
use Rattle.exam_reading.proofs.first_line.read_first_line.Goals as goal

pub returns-in_err-n-clause-laid : goal.returns-in_err-n-clause-laid
returns-in_err-n-clause-laid c =
    let none : is_some c.from_residual.result ≡ false = search rules in
    none ∙ sym (no_first c.args.text.now (sym c.in_err-n.ensures.laid))

pub returns-in_err-t-clause-laid : goal.returns-in_err-t-clause-laid
returns-in_err-t-clause-laid c =
    let none : is_some c.from_residual-in_err-t.result ≡ false = search rules in
    none ∙ sym (no_second c.args.text.now (sym c.in_ok-n.ensures.laid) _ _ c.in_ok-n.ensures.says (sym c.in_err-t.ensures.laid))

pub returns-in_err-end-clause-laid : goal.returns-in_err-end-clause-laid
returns-in_err-end-clause-laid c =
    let none : is_some c.from_residual-in_err-end.result ≡ false = search rules in
    none ∙ c.in_err-end.ensures.laid
    ∙ line_laid c.args.text.now (sym c.in_ok-n.ensures.laid) _ _ c.in_ok-n.ensures.says (sym c.in_ok-t.ensures.laid) _ _ c.in_ok-t.ensures.says

pub returns-clause-laid : goal.returns-clause-laid
returns-clause-laid c =
    c.in_ok-end.ensures.laid
    ∙ line_laid c.args.text.now (sym c.in_ok-n.ensures.laid) _ _ c.in_ok-n.ensures.says (sym c.in_ok-t.ensures.laid) _ _ c.in_ok-t.ensures.says

pub returns-clause-says : goal.returns-clause-says
returns-clause-says c =
    line_says c.args.text.now (sym c.in_ok-n.ensures.laid) _ _ c.in_ok-n.ensures.says (sym c.in_ok-t.ensures.laid) _ _ c.in_ok-t.ensures.says
    _ _ _ c.in_ok-end.ensures.says
