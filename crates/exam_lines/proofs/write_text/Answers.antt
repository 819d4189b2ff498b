-- `exam_lines::write_text` meets its contract.
use Prim.Native.Nat.{◌≤◌}
use native.Mathlib.Omega.{arith}
use mathlib.Core.Path.{refl, ◌∙◌}
use borrow.Author.Tests.{lt-ltb, le-ltb}
use lib.ListN.{length}
use Rattle.places.proofs.Places.{overlay_nil, put_at_overlay}
use Rattle.calls.proofs.Judged.{accepted_with}
use Rattle.exam_lines.proofs.write_text.Goals as goal

pub returns-then-out-text : goal.returns-then-out-text
returns-then-out-text c =
    let a = c.args in
    rw (lt-ltb (length a.out.now) (length a.text.now) (omega (arith, c.if-out-text.true)), overlay_nil a.out.now)

pub returns : goal.returns
returns c =
    let a = c.args in
    let fits : length a.text.now ≤ length a.out.now = omega (arith, c.if-out-text.false) in
    rw (le-ltb (length a.out.now) (length a.text.now) fits) (accepted_with a.text.now a.out.now refl (c.copy.ensures ∙ put_at_overlay a.out.now a.text.now fits))
