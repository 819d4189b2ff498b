-- `exam_answering::respond` meets its contract: the answer, or the line of its refusal.
use mathlib.Core.Path.{refl}
use mathlib.Core.Logic.{◌≢◌}
use borrow.Author.Rules.{rules}
use Rattle.calls.specs.declared.Refusal.TheVariants.{NoSpace}
use Rattle.exam_answering.proofs.Responding.{not_space, answer_replied, space_replied, line_replied}
use Rattle.exam_answering.proofs.respond.Goals as goal

pub returns-in-Ok : goal.returns-in-Ok
returns-in-Ok c = answer_replied c.args.text.now c.args.out.now _ _ c.in-Ok.ensures

pub returns-in-Err-NoSpace : goal.returns-in-Err-NoSpace
returns-in-Err-NoSpace c =
    space_replied c.args.text.now c.args.out.now _ NoSpace (rw c.in-Err-NoSpace.field-0-is at c.in-Err-NoSpace.ensures) refl

pub returns-in-Err : goal.returns-in-Err
returns-in-Err c =
    let h : c.in-Err.refusal ≢ NoSpace = search rules in
    line_replied c.args.text.now c.args.out.now _ c.in-Err.refusal c.in-Err.ensures (not_space c.in-Err.refusal h) _ _ (rw c.number.ensures at c.refused_line.ensures)
