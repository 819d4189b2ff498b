-- `key_answering::respond` meets its contract: the page, or the line of the refusal.
use Prim.Native.Nat.{ℕ}
use mathlib.Core.Path.{ap, ap₂, ◌∙◌}
use lib.ListN.{length}
use Rattle.calls.specs.Outcome.{Outcome, exit}
use Rattle.exam_text.specs.Sheet.{Line}
use Rattle.exam_lines.specs.Lines.{written_in}
use Rattle.key_answering.specs.KeyAnswer.{line_page}
use Rattle.key_answering.proofs.Responding.{refused_responds, page_responds}
use Rattle.key_answering.proofs.respond.Goals as goal

pub print-requires : goal.print-requires
print-requires c =
    let s = c.in-Ok.ensures.said in
    (s.2, s.1.n_most, s.3, s.1.stands)

pub returns-in-Ok : goal.returns-in-Ok
returns-in-Ok c =
    let a = c.args in
    let s = c.in-Ok.ensures.said in
    let told = s.1 in
    c.print.ensures
    ∙ ap₂ (λ (m : ℕ) (k : Line). exit (written_in (line_page m k c.in-Ok.e) (length a.out.now)) a.out.now) told.n_read told.line_read
    ∙ ap (λ (o : Outcome). exit o a.out.now) (page_responds a.text.now (length a.out.now) s.0 (rw told.n_read at s.2) (rw told.n_read at told.n_most) _ (rw told.expander_read at s.3))

pub returns-in-Err : goal.returns-in-Err
returns-in-Err c =
    let a = c.args in
    (rw c.number.ensures at c.refused_line.ensures)
    ∙ ap (λ (o : Outcome). exit o a.out.now) (refused_responds a.text.now (length a.out.now) c.in-Err.refusal c.in-Err.ensures.number)
