-- `query::writing::write_fields` meets its contract. Outside nothing is written; within, the two fields stand one after the other.
use native.Mathlib.Omega.{arith}
use Prim.Native.Nat.{ℕ, ◌+◌, ◌≤◌}
use mathlib.Core.Path.{sym, ap, ◌∙◌}
use mathlib.Core.List.{List, ◌++◌}
use lib.ListN.{length}
use Rattle.numbers.specs.Numbers.{big}
use Rattle.places.specs.Places.{put_at}
use Rattle.places.proofs.Places.{put_at_outside, put_at_more}
use Rattle.places.proofs.Inside.{inside, outside}
use Rattle.query.proofs.writing.write_fields.Goals as goal
use Rattle.query.proofs.writing.write_fields.Goals.{Else-not-within}

-- the places lie within
room : (c : Else-not-within) → c.args.at + 6 ≤ length c.args.out.now
room c = inside _ _ _ _ c.within.ensures c.if-not-within.false-raw

pub returns-then-not-within : goal.returns-then-not-within
unfolding big
returns-then-not-within c =
    let a = c.args in
    sym (put_at_outside a.out.now a.at (big 2 a.k ++ big 4 a.count) (outside _ _ _ _ c.within.ensures c.if-not-within.true-raw))

pub overflow_add-at : goal.overflow_add-at
overflow_add-at c = omega (arith, room (goal.at.overflow_add-at c).Else-not-within)

pub returns : goal.returns
unfolding big
returns c =
    let a = c.args in
    let first = c.write_be2 in
    let h = room (goal.at.returns c).Else-not-within in
    c.write_be4.ensures
    ∙ ap (λ (l : List ℕ). put_at l (a.at + 2) (big 4 a.count)) first.ensures
    ∙ put_at_more a.out.now a.at (big 2 a.k) (big 4 a.count) (omega arith)
