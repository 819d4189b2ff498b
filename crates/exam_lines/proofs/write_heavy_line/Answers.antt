-- `exam_lines::write_heavy_line` meets its contract.
use mathlib.Core.Path.{sym, ◌∙◌}
use borrow.Author.Tests.{not-true, not-false}
use Rattle.exam_lines.specs.Lines.{heavy_line}
use Rattle.exam_lines.proofs.LineSizes.{heavy_size}
use Rattle.fields.proofs.LineRoom.{not_put, has_line_room, put_here}
use Rattle.exam_lines.proofs.write_heavy_line.Goals as goal

pub returns-then-not-has_room : goal.returns-then-not-has_room
returns-then-not-has_room c =
    let a = c.args in
    let both = not_put heavy_line a.out.now a.at a.n a.packed.now 7 (heavy_size a.n a.packed.now) (sym c.has_room.ensures ∙ not-true _ c.if-not-has_room.true-raw) in
    record { place = both.0; space = both.1 }

pub put_heavy_line-requires : goal.put_heavy_line-requires
put_heavy_line-requires c =
    let a = c.args in
    has_line_room heavy_line a.out.now a.at a.n a.packed.now 7 (heavy_size a.n a.packed.now) (sym c.has_room.ensures ∙ not-false _ c.if-not-has_room.false-raw)

pub returns : goal.returns
returns c =
    let a = c.args in
    let room =
    has_line_room heavy_line a.out.now a.at a.n a.packed.now 7 (heavy_size a.n a.packed.now) (sym c.has_room.ensures ∙ not-false _ c.if-not-has_room.false-raw) in
    let both = put_here heavy_line a.out.now a.at a.n a.packed.now room.0 room.1 _ _ (c.put_heavy_line.ensures.value, c.put_heavy_line.ensures.out_after) in
    record { place = both.0; space = both.1 }
