-- `exam_reading::fields::number_of` meets its contract. The loop's invariant: the digits that are left, after x, are the number, and x has as many digits as
-- are passed.
use Prim.Native.Nat.{◌-◌, ◌<◌}
use native.Mathlib.Numerals.{add-one}
use native.Mathlib.Omega.{arith}
use mathlib.Core.Path.{◌≡◌, sym, ◌∙◌}
use mathlib.Core.Bool.{true}
use borrow.Author.Rules.{rules}
use lib.ListN.{length, get_or, drop, length-drop}
use Rattle.exam_text.specs.Reader.{is_decimal}
use Rattle.exam_text.proofs.Decimals.{decimal_high}
use Rattle.exam_text.proofs.Digits.{digit_at, digits_more, number_step, number_none}
use Rattle.exam_reading.proofs.fields.number_of.Goals as goal

pub loop-c-preserved : goal.loop-c-preserved
loop-c-preserved c =
    let ds = c.args.digits.now in
    let l = c.loop-c in
    let h : l.c-index < length ds = omega arith in
    let d : is_decimal (get_or ds l.c-index 0) ≡ true = digit_at ds l.c-index c.requires.1 h in
    let v : c.from.result ≡ get_or ds l.c-index 0 - 48 = search rules in
    rw (add-one l.c-index) (
      digits_more l.x c.from.result l.c-index l.invariant.0 (omega (arith, decimal_high (get_or ds l.c-index 0) d)),
      l.invariant.1 ∙ rw v (number_step l.x ds l.c-index h),
    )

pub returns : goal.returns
returns c =
    let ds = c.args.digits.now in
    let l = c.loop-c in
    sym (l.invariant.1 ∙ number_none l.x (drop l.c-index ds) (omega (arith, length-drop l.c-index ds)))
