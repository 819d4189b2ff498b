-- `parents::parent_missing` meets its contract. The loop's invariant: each prefix below j agrees with one of the last query.
use native.Mathlib.Omega.{arith}
use mathlib.Core.Path.{sym}
use Rattle.std.proofs.Common.{below_more}
use Rattle.parents.proofs.Unparented.{other_bits, all_have, one_lacks, found_has, missed_has}
use Rattle.parents.proofs.parent_missing.Goals as goal

pub returns-then-prefix_length-k : goal.returns-then-prefix_length-k
returns-then-prefix_length-k c =
    let a = c.args in
    sym (other_bits a.last.now a.query.now c.prefix_length.result c.last_length-k.result c.prefix_length.ensures.0 c.last_length-k.ensures.0
    c.if-prefix_length-k.true)

pub returns-in_default : goal.returns-in_default
returns-in_default c =
    let a = c.args in
    let m = c.last_count-m in
    sym (one_lacks a.last.now a.query.now c.prefix_length.result c.last_length-k.result c.prefix_length.ensures.0 c.last_length-k.ensures.0
    c.if-prefix_length-k.false c.loop-j.j (omega arith)
    (missed_has a.last.now a.query.now m.result c.last_length-k.result m.result c.loop-j.hint c.loop-j.j
    c.prefix_at-child.result.now c.last_length-k.ensures.0 m.ensures.0 c.prefix_at-child.ensures (sym c.in_default.ensures) (omega arith)))

pub loop-j-preserved : goal.loop-j-preserved
loop-j-preserved c =
    let a = c.args in
    below_more _ _ c.loop-j.invariant
    (found_has a.last.now a.query.now c.in-Some.place c.last_length-k.result c.last_count-m.result c.loop-j.hint c.loop-j.j
    c.prefix_at-child.result.now c.last_length-k.ensures.0 c.last_count-m.ensures.0 c.prefix_at-child.ensures c.in-Some.ensures.0 c.in-Some.ensures.1)

pub returns : goal.returns
returns c =
    let a = c.args in
    sym (all_have a.last.now a.query.now c.prefix_length.result c.last_length-k.result c.prefix_length.ensures.0 c.last_length-k.ensures.0
    c.if-prefix_length-k.false (λ i h. c.loop-j.invariant i (omega arith)))
