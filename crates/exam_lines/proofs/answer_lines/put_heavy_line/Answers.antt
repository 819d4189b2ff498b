-- `exam_lines::answer_lines::put_heavy_line` meets its contract.
use mathlib.Core.List.{[], ◌∷◌, ◌++◌}
use Rattle.bits.specs.Packing.{unpack}
use Rattle.exam_text.specs.Characters.{space, newline, binary}
use Rattle.fields.proofs.FieldChain.{FieldAt, Wrote, two_fields}
use Rattle.fields.proofs.LineRoom.{packed_text}
use Rattle.exam_lines.specs.Lines.{heavy_word, heavy_line}
use Rattle.exam_lines.proofs.answer_lines.put_heavy_line.Goals as goal

pub returns : goal.returns
returns c =
    let a = c.args in
    let w = c.write_word-here in
    let b = c.write_string in
    let field : FieldAt w.new.out w.result (binary (unpack a.n a.packed.now) ++ (newline ∷ [])) b.new.out b.result =
    rw (← packed_text (λ q. binary q ++ (newline ∷ [])) a.n a.packed.now c.requires.0) (b.ensures.place, b.ensures.space) in
    let both : Wrote a.out.now a.at (heavy_line (unpack a.n a.packed.now)) b.new.out b.result =
    two_fields a.out.now a.at heavy_word space (binary (unpack a.n a.packed.now)) newline c.requires.1 _ _ (w.ensures.place, w.ensures.space) _ _ field in
    record { value = both.0; out_after = both.1 }
