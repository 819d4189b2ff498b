-- `fields::write_number` meets its contract.
use Prim.Native.Nat.{◌+◌}
use native.Mathlib.Omega.{arith}
use mathlib.Core.Path.{◌≡◌, sym, ◌∙◌}
use mathlib.Core.Bool.{true}
use borrow.Author.Tests.{not-true, not-false}
use lib.ListN.{length}
use lib.Dec.{leb}
use Rattle.exam_text.specs.Characters.{decimal}
use Rattle.fields.proofs.FieldRoom.{field_none, field_room, field_put}
use Rattle.fields.proofs.write_number.Goals as goal
use Rattle.fields.proofs.write_number.Goals.{Else-not-within}

-- there is room
room : (e : Else-not-within) → let a = e.args in leb (a.at + (e.decimal_length.result + 1)) (length a.out.now) ≡ true
room e = sym e.within.ensures ∙ not-false _ e.if-not-within.false-raw

pub returns-then-not-within : goal.returns-then-not-within
returns-then-not-within c =
    let a = c.args in
    let both = field_none a.out.now a.at (decimal a.x) a.then _ c.decimal_length.ensures.0 (sym c.within.ensures ∙ not-true _ c.if-not-within.true-raw) in
    record { place = both.0; space = both.1 }

pub write_decimal-here-requires : goal.write_decimal-here-requires
write_decimal-here-requires c =
    let a = c.args in
    omega (arith, c.decimal_length.ensures.0, field_room a.out.now a.at (decimal a.x) a.then _ c.decimal_length.ensures.0 (room (goal.at.write_decimal-here-requires c).Else-not-within))

pub put-requires : goal.put-requires
put-requires c =
    let a = c.args in
    omega (
      arith,
      c.write_decimal-here.ensures.value,
      c.decimal_length.ensures.0,
      field_room a.out.now a.at (decimal a.x) a.then _ c.decimal_length.ensures.0 (room (goal.at.put-requires c).Else-not-within),
    )

pub returns : goal.returns
returns c =
    let a = c.args in
    let both = field_put a.out.now a.at (decimal a.x) a.then _ c.decimal_length.ensures.0 (room (goal.at.returns c).Else-not-within) _ _ (c.write_decimal-here.ensures.value, c.write_decimal-here.ensures.out_after) _ _ (c.put.ensures.value, c.put.ensures.out_after) in
    record { place = both.0; space = both.1 }
