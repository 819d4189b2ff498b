-- `parents::find_parent` meets its contract. What is found near the hint is below m, or the search is made again from the beginning.
use Rattle.std.proofs.Common.{rules, arith}
use Rattle.parents.specs.Lookup.{is_parent}
use Rattle.parents.proofs.Found.{looked_or_up, looked_or_down}
use Rattle.parents.proofs.find_parent.Goals as goal

pub returns-then-up : goal.returns-then-up
returns-then-up c =
    let a = c.args in
    rw c.if-up.true
    (looked_or_up (is_parent a.last.now a.child.now a.k) a.m a.hint _ c.up_from.result c.or_else.result c.up_from.ensures c.or_else.ensures (λ p. search rules))

pub returns : goal.returns
returns c =
    let a = c.args in
    rw c.if-up.false
    (looked_or_down (is_parent a.last.now a.child.now a.k) a.m a.hint _ c.min-below.result (omega arith) c.down_from.result c.or_else-2.result (c.down_from.ensures a.m) c.or_else-2.ensures (λ p. search rules))
