-- `fields::write_word` meets its contract.
use Prim.Native.Nat.{◌+◌}
use native.Mathlib.Omega.{arith}
use mathlib.Core.Path.{◌≡◌, refl, sym, ◌∙◌}
use mathlib.Core.Bool.{true}
use borrow.Author.Tests.{not-true, not-false}
use lib.ListN.{length}
use lib.Dec.{leb}
use Rattle.fields.proofs.FieldRoom.{field_none, field_room, field_put}
use Rattle.fields.proofs.write_word.Goals as goal
use Rattle.fields.proofs.write_word.Goals.{Else-not-within}

-- there is room
room : (e : Else-not-within) → let a = e.args in leb (a.at + (length a.word.now + 1)) (length a.out.now) ≡ true
room e = sym e.within.ensures ∙ not-false _ e.if-not-within.false-raw

pub returns-then-not-within : goal.returns-then-not-within
returns-then-not-within c =
    let a = c.args in
    let both = field_none a.out.now a.at a.word.now a.then _ refl (sym c.within.ensures ∙ not-true _ c.if-not-within.true-raw) in
    record { place = both.0; space = both.1 }

pub overflow_add-at : goal.overflow_add-at
overflow_add-at c =
    let a = c.args in
    omega (arith, field_room a.out.now a.at a.word.now a.then _ refl (room (goal.at.overflow_add-at c).Else-not-within))

pub put-requires : goal.put-requires
put-requires c =
    let a = c.args in
    omega (arith, field_room a.out.now a.at a.word.now a.then _ refl (room (goal.at.put-requires c).Else-not-within))

pub returns : goal.returns
returns c =
    let a = c.args in
    let both = field_put a.out.now a.at a.word.now a.then _ refl (room (goal.at.returns c).Else-not-within) _ _ (refl, c.copy.ensures) _ _ (c.put.ensures.value, c.put.ensures.out_after) in
    record { place = both.0; space = both.1 }
