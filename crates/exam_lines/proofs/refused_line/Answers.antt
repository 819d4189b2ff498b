-- `exam_lines::refused_line` meets its contract.
use Prim.Native.Nat.{◌+◌}
use native.Mathlib.Omega.{arith}
use mathlib.Core.Path.{◌≡◌}
use mathlib.Core.List.{[], ◌∷◌}
use borrow.Author.Tests.{lt-ltb, le-ltb}
use lib.ListN.{length, length-append}
use Rattle.places.proofs.Places.{overlay_nil}
use Rattle.calls.proofs.Judged.{accepted_with}
use Rattle.exam_text.specs.Characters.{newline, decimal}
use Rattle.exam_lines.specs.Lines.{refused_text, refused_outcome}
use Rattle.exam_lines.proofs.refused_line.Goals as goal
use Rattle.exam_lines.proofs.refused_line.Goals.{After-decimal_length-size}

-- how long the line is
size : (c : After-decimal_length-size) → c.decimal_length-size.result + 9 ≡ length (refused_text c.args.number)
size c = let n = c.args.number in omega (arith, length-append (decimal n) (newline ∷ []), c.decimal_length-size.ensures.0)

pub returns-then-out-size : goal.returns-then-out-size
unfolding refused_outcome
returns-then-out-size c =
    let a = c.args in
    rw (lt-ltb (length a.out.now) (length (refused_text a.number)) (omega (arith, size (goal.at.returns-then-out-size c).After-decimal_length-size, c.if-out-size.true)), overlay_nil a.out.now)

pub write_refused-requires : goal.write_refused-requires
write_refused-requires c = omega (arith, size (goal.at.write_refused-requires c).After-decimal_length-size)

pub returns : goal.returns
unfolding refused_outcome
returns c =
    let a = c.args in
    rw (le-ltb (length a.out.now) (length (refused_text a.number)) (omega (arith, size (goal.at.returns c).After-decimal_length-size)))
    (accepted_with (refused_text a.number) a.out.now (size (goal.at.returns c).After-decimal_length-size) c.write_refused.ensures)
