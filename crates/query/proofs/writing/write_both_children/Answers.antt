-- `query::writing::write_both_children` meets its contract. The second child follows the first.
use Prim.Native.Nat.{◌+◌, ◌≤◌, ◌<◌}
use native.Mathlib.Omega.{arith}
use mathlib.Core.Path.{◌≡◌}
use borrow.Author.Tests.{not-true, not-false}
use lib.ListN.{length}
use Rattle.bits.specs.Strings.{Bits}
use Rattle.bits.specs.Packing.{unpack}
use Rattle.places.proofs.Inside.{inside, outside}
use Rattle.query.specs.Written.{both_children}
use Rattle.query.proofs.Pieces.{not_written, all_written, none_written, both_length, both_put}
use Rattle.query.proofs.writing.write_both_children.Goals as goal
use Rattle.query.proofs.writing.write_both_children.Goals.{After-child_length-size, Else-not-within, Else-not-within-2}

-- the prefix, and the bytes of its children
abbrev string : After-child_length-size → Bits
string k = let a = k.args in unpack a.len a.prefix.now

size : (k : After-child_length-size) → length (both_children (string k)) ≡ k.child_length-size.result + k.child_length-size.result
size k = both_length (string k) k.child_length-size.result k.child_length-size.ensures

-- the first child's place lies within, and so does the second's
room : (c : Else-not-within)
    → c.args.at + c.child_length-size.result ≤ length c.args.out.now
room c = inside _ _ _ _ c.within.ensures c.if-not-within.false-raw

both_room : (c : Else-not-within-2)
    → c.args.at + c.child_length-size.result + c.child_length-size.result
    ≤ length c.args.out.now
both_room c = inside _ _ _ _ c.within-2.ensures c.if-not-within-2.false-raw

pub returns-then-not-kept : goal.returns-then-not-kept
returns-then-not-kept c = let a = c.args in rw (not-true a.kept c.if-not-kept.true-raw) (let both = none_written a.out.now a.at in record { out_after = both.0; value = both.1 })

pub returns-then-not-within : goal.returns-then-not-within
returns-then-not-within c =
    let a = c.args in
    let o : length a.out.now < a.at + c.child_length-size.result = outside _ _ _ _ c.within.ensures c.if-not-within.true-raw in
    rw (not-false a.kept c.if-not-kept.false-raw) (let both = not_written a.out.now a.at (both_children (string (goal.at.returns-then-not-within c).After-child_length-size)) (omega (arith, o, size (goal.at.returns-then-not-within c).After-child_length-size)) in record { out_after = both.0; value = both.1 })

pub overflow_add-second : goal.overflow_add-second
overflow_add-second c = omega (arith, room c)

pub returns-then-not-within-2 : goal.returns-then-not-within-2
returns-then-not-within-2 c =
    let a = c.args in
    let o : length a.out.now < a.at + c.child_length-size.result + c.child_length-size.result =
    outside _ _ _ _ c.within-2.ensures c.if-not-within-2.true-raw in
    rw (not-false a.kept c.if-not-kept.false-raw) (let both = not_written a.out.now a.at (both_children (string (goal.at.returns-then-not-within-2 c).After-child_length-size)) (omega (arith, o, size (goal.at.returns-then-not-within-2 c).After-child_length-size)) in record { out_after = both.0; value = both.1 })

pub overflow_add-result : goal.overflow_add-result
overflow_add-result c = omega (arith, both_room (goal.at.overflow_add-result c).Else-not-within-2)

pub returns : goal.returns
returns c =
    let a = c.args in
    let n = c.child_length-size.result in
    rw (not-false a.kept c.if-not-kept.false-raw) (let both = all_written a.out.now a.at (both_children (string (goal.at.returns c).After-child_length-size)) (a.at + n + n) (omega (arith, size (goal.at.returns c).After-child_length-size)) (both_room (goal.at.returns c).Else-not-within-2) _
    (both_put (string (goal.at.returns c).After-child_length-size) n c.child_length-size.ensures a.out.now a.at (both_room (goal.at.returns c).Else-not-within-2) _ _ c.write_child.ensures c.write_child-2.ensures) in record { out_after = both.0; value = both.1 })
