-- `bits::before` meets its contract. The loop's invariant: what is left decides.
use native.Mathlib.Numerals.{add-one}
use native.Mathlib.Omega.{arith}
use mathlib.Core.Path.{refl, sym, ◌∙◌}
use Rattle.bits.proofs.Order.{before_end, before_less, before_more, before_same}
use Rattle.bits.proofs.before.Goals as goal

pub loop-i-init : goal.loop-i-init
loop-i-init c = refl

pub returns-then-x-y : goal.returns-then-x-y
returns-then-x-y c =
    let a = c.args in
    let l = c.loop-i in
    sym (l.invariant ∙ before_less a.a.now a.b.now l.i (omega arith) (omega arith) (omega arith))

pub returns-then-y-x : goal.returns-then-y-x
returns-then-y-x c =
    let a = c.args in
    let l = c.loop-i in
    sym (l.invariant ∙ before_more a.a.now a.b.now l.i (omega arith) (omega arith) (omega arith))

pub loop-i-preserved : goal.loop-i-preserved
loop-i-preserved c =
    let a = c.args in
    let l = c.loop-i in
    rw (add-one l.i) (l.invariant ∙ before_same a.a.now a.b.now l.i (omega arith) (omega arith) (omega arith) (omega arith))

pub returns : goal.returns
returns c =
    let a = c.args in
    let l = c.loop-i in
    sym (l.invariant ∙ before_end a.a.now a.b.now l.i (omega arith))
