-- `exam_reading::read_key_line` meets its contract. Each test that fails is one of the definition's, after those that pass.
use mathlib.Core.Path.{◌≡◌, sym, ◌∙◌}
use mathlib.Core.Bool.{false}
use borrow.Author.Rules.{rules}
use Rattle.std.specs.Prelude.{is_some}
use Rattle.exam_text.proofs.Field.{rest_is}
use Rattle.exam_text.proofs.KeyTests.{no_n, no_expander, n_too_wide, line_decides, key_says}
use Rattle.exam_reading.proofs.read_key_line.Goals as goal

pub returns-in_err-n-clause-key : goal.returns-in_err-n-clause-key
returns-in_err-n-clause-key c =
    let none : is_some c.from_residual.result ≡ false = search rules in
    none ∙ sym (no_n c.args.text.now (sym c.in_err-n.ensures.laid))

pub returns-in_err-expander-clause-key : goal.returns-in_err-expander-clause-key
returns-in_err-expander-clause-key c =
    let none : is_some c.from_residual-in_err-expander.result ≡ false = search rules in
    none ∙ sym (no_expander c.args.text.now (sym c.in_ok-n.ensures.laid) _ _ c.in_ok-n.ensures.says (sym c.in_err-expander.ensures.laid))

pub returns-then-n-gt32-clause-key : goal.returns-then-n-gt32-clause-key
returns-then-n-gt32-clause-key c =
    let n = c.in_ok-n in
    let e = c.in_ok-expander in
    sym (n_too_wide c.args.text.now (sym n.ensures.laid) _ _ n.ensures.says (sym e.ensures.laid) _ _ e.ensures.says c.if-n-gt32.true)

pub returns-then-not-are_lines-clause-key : goal.returns-then-not-are_lines-clause-key
returns-then-not-are_lines-clause-key c =
    let t = c.args.text.now in
    let n = c.in_ok-n in
    let e = c.in_ok-expander in
    sym (line_decides t (sym n.ensures.laid) _ _ n.ensures.says (sym e.ensures.laid) _ _ e.ensures.says c.if-n-gt32.false
    ∙ sym (rw (rest_is t e.expander.behind) at c.are_lines.ensures)
    ∙ c.if-not-are_lines.true)

pub returns-clause-key : goal.returns-clause-key
returns-clause-key c =
    let t = c.args.text.now in
    let n = c.in_ok-n in
    let e = c.in_ok-expander in
    sym (line_decides t (sym n.ensures.laid) _ _ n.ensures.says (sym e.ensures.laid) _ _ e.ensures.says c.if-n-gt32.false
    ∙ sym (rw (rest_is t e.expander.behind) at c.are_lines.ensures)
    ∙ c.if-not-are_lines.false)

pub returns-clause-says : goal.returns-clause-says
returns-clause-says c =
    let t = c.args.text.now in
    let n = c.in_ok-n in
    let e = c.in_ok-expander in
    key_says t (sym n.ensures.laid) _ _ n.ensures.says (sym e.ensures.laid) _ _ e.ensures.says c.if-n-gt32.false
    (sym (rw (rest_is t e.expander.behind) at c.are_lines.ensures) ∙ c.if-not-are_lines.false)
