-- `exam_lines::answer_lines::put_prefix_line` meets its contract.
use mathlib.Core.List.{[], ◌∷◌, ◌++◌}
use Rattle.bits.specs.Packing.{unpack}
use Rattle.exam_text.specs.Characters.{space, newline, binary, decimal}
use Rattle.fields.proofs.FieldChain.{FieldAt, Wrote, two_fields}
use Rattle.fields.proofs.LineRoom.{packed_text}
use Rattle.exam_lines.specs.Lines.{prefix_line}
use Rattle.exam_lines.proofs.answer_lines.put_prefix_line.Goals as goal

pub returns : goal.returns
returns c =
    let a = c.args in
    let b = c.write_string-here in
    let t = c.write_number in
    let field : FieldAt a.out.now a.at (binary (unpack a.k a.packed.now) ++ (space ∷ [])) b.new.out b.result =
    rw (← packed_text (λ q. binary q ++ (space ∷ [])) a.k a.packed.now c.requires.0) (b.ensures.place, b.ensures.space) in
    let both : Wrote a.out.now a.at (prefix_line (unpack a.k a.packed.now) a.total) t.new.out t.result =
    two_fields a.out.now a.at (binary (unpack a.k a.packed.now)) space (decimal a.total) newline c.requires.1 _ _ field _ _ (t.ensures.place, t.ensures.space) in
    record { value = both.0; out_after = both.1 }
