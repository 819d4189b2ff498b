-- `exam_lines::answer_lines::write_refused` meets its contract.
use native.Mathlib.Omega.{arith}
use mathlib.Core.Path.{◌∙◌}
use Rattle.places.proofs.Places.{put_at_overlay}
use Rattle.exam_text.specs.Characters.{space, newline, decimal}
use Rattle.fields.proofs.FieldChain.{two_fields}
use Rattle.exam_lines.specs.Lines.{refused_word, refused_text}
use Rattle.exam_lines.proofs.answer_lines.write_refused.Goals as goal

pub returns : goal.returns
returns c =
    let a = c.args in
    let w = c.write_word-here in
    let n = c.write_number in
    (two_fields a.out.now 0 refused_word space (decimal a.number) newline (omega (arith, c.requires)) _ _ (w.ensures.place, w.ensures.space) _ _
    (n.ensures.place, n.ensures.space)).1
    ∙ put_at_overlay a.out.now (refused_text a.number) c.requires
