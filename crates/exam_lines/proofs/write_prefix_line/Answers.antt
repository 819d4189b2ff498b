-- `exam_lines::write_prefix_line` meets its contract.
use Prim.Native.Nat.{ℕ, ◌+◌}
use mathlib.Core.Path.{◌≡◌, sym, ◌∙◌}
use mathlib.Core.List.{List}
use borrow.Author.Tests.{not-true, not-false}
use lib.ListN.{length}
use Rattle.bits.specs.Strings.{Bits}
use Rattle.bits.specs.Packing.{packed_length, unpack}
use Rattle.exam_lines.specs.Lines.{prefix_line}
use Rattle.exam_lines.proofs.LineSizes.{prefix_size}
use Rattle.fields.proofs.LineRoom.{not_put, has_line_room, put_here}
use Rattle.exam_lines.proofs.write_prefix_line.Goals as goal
use Rattle.exam_lines.proofs.write_prefix_line.Goals.{After-decimal_length-rest}

abbrev line : After-decimal_length-rest → Bits → List ℕ
line d s = prefix_line s d.args.total

size : (d : After-decimal_length-rest) → let a = d.args in length a.packed.now ≡ packed_length a.k
    → length (line d (unpack a.k a.packed.now)) ≡ a.k + (d.decimal_length-rest.result + 2)
size d sized = let a = d.args in prefix_size a.k a.packed.now a.total _ sized d.decimal_length-rest.ensures.0

pub returns-then-not-has_room : goal.returns-then-not-has_room
returns-then-not-has_room c =
    let a = c.args in
    let both = not_put (line (goal.at.returns-then-not-has_room c).After-decimal_length-rest) a.out.now a.at a.k a.packed.now (c.decimal_length-rest.result + 2) (size (goal.at.returns-then-not-has_room c).After-decimal_length-rest) (sym c.has_room.ensures ∙ not-true _ c.if-not-has_room.true-raw) in
    record { place = both.0; space = both.1 }

pub put_prefix_line-requires : goal.put_prefix_line-requires
put_prefix_line-requires c =
    let a = c.args in
    has_line_room (line (goal.at.put_prefix_line-requires c).After-decimal_length-rest) a.out.now a.at a.k a.packed.now (c.decimal_length-rest.result + 2) (size (goal.at.put_prefix_line-requires c).After-decimal_length-rest) (sym c.has_room.ensures ∙ not-false _ c.if-not-has_room.false-raw)

pub returns : goal.returns
returns c =
    let a = c.args in
    let room =
    has_line_room (line (goal.at.returns c).After-decimal_length-rest) a.out.now a.at a.k a.packed.now (c.decimal_length-rest.result + 2) (size (goal.at.returns c).After-decimal_length-rest) (sym c.has_room.ensures ∙ not-false _ c.if-not-has_room.false-raw) in
    let both = put_here (line (goal.at.returns c).After-decimal_length-rest) a.out.now a.at a.k a.packed.now room.0 room.1 _ _ (c.put_prefix_line.ensures.value, c.put_prefix_line.ensures.out_after) in
    record { place = both.0; space = both.1 }
