-- `exam_reading::read_line` meets its contract: where a line stands, its parts are read.
use Prim.Native.Nat.{◌+◌, ◌-◌, ◌≤◌}
use native.Mathlib.Omega.{arith}
use mathlib.Core.Path.{◌≡◌, refl, sym, ◌∙◌}
use mathlib.Core.Bool.{true, false}
use lib.ListN.{length, drop, length-drop}
use lib.Seq.{length-take-le}
use Rattle.bits.specs.Packing.{value, pack_in}
use Rattle.exam_text.specs.Reader.{has_line, line_length}
use Rattle.exam_text.proofs.Placed.{none_stands, stands_short, stands_laid, stands_within, stands_is}
use Rattle.exam_reading.proofs.read_line.Goals as goal
use Rattle.exam_reading.proofs.read_line.Goals.{Else-not-has_line}

stands : (e : Else-not-has_line) → has_line e.args.n e.args.at e.args.text.now ≡ true
stands e = rw (← e.from-bits.ensures) (sym e.has_line.ensures ∙ e.if-not-has_line.false)

short : (e : Else-not-has_line) → e.from-bits.result ≤ 32
short e = omega (arith, e.from-bits.ensures, stands_short e.args.n e.args.at e.args.text.now (stands e))

within : (e : Else-not-has_line) → e.args.at + line_length e.from-bits.result ≤ length e.args.text.now
within e = omega (arith, e.from-bits.ensures, stands_within e.args.n e.args.at e.args.text.now (stands e))

pub returns-then-not-has_line : goal.returns-then-not-has_line
unfolding pack_in value
returns-then-not-has_line c =
    let a = c.args in
    let none : has_line a.n a.at a.text.now ≡ false = rw (← c.from-bits.ensures) (sym c.has_line.ensures ∙ c.if-not-has_line.true) in
    rw (none_stands a.n a.at a.text.now none) (record { string = refl; seeds = (refl, refl) })

pub line_length-requires : goal.line_length-requires
line_length-requires c = short c

pub overflow_add-at : goal.overflow_add-at
overflow_add-at c = omega (arith, within (goal.at.overflow_add-at c).Else-not-has_line)

pub slice_bounds-read_parts-end : goal.slice_bounds-read_parts-end
slice_bounds-read_parts-end c = omega (arith, within (goal.at.slice_bounds-read_parts-end c).Else-not-has_line)

pub read_parts-requires : goal.read_parts-requires
read_parts-requires c =
    let a = c.args in
    let s = stands (goal.at.read_parts-requires c).Else-not-has_line in
    let e : a.at + c.line_length.result - a.at ≡ line_length a.n = omega (arith, c.line_length.ensures, c.from-bits.ensures) in
    rw (c.from-bits.ensures, e) (length-take-le (line_length a.n) (drop a.at a.text.now) (omega (arith, length-drop a.at a.text.now, stands_within a.n a.at a.text.now s)), stands_laid a.n a.at a.text.now s)

pub returns : goal.returns
returns c =
    let a = c.args in
    let s = stands (goal.at.returns c).Else-not-has_line in
    let e : a.at + c.line_length.result - a.at ≡ line_length a.n = omega (arith, c.line_length.ensures, c.from-bits.ensures) in
    rw (stands_is a.n a.at a.text.now s) (record {
      string = rw (c.from-bits.ensures, e) at c.read_parts.ensures.string;
      seeds = rw (c.from-bits.ensures, e) at c.read_parts.ensures.seeds;
    })
