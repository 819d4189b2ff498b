-- `parents::same_bytes` meets its contract. The loop's invariant: the last i of the w bytes agree.
use Prim.Native.Nat.{◌-◌}
use native.Mathlib.Omega.{arith}
use mathlib.Core.Path.{◌≡◌, sym, ap, ◌∙◌}
use native.Mathlib.Decide.{dec_lt}
use borrow.Author.Tests.{eq-eqb, ne_eqb}
use lib.ListN.{get_or}
use lib.Dec.{eqb}
use Rattle.point.proofs.Joined.{every_true, every_false}
use Rattle.parents.proofs.same_bytes.Goals as goal

pub loop-i-init : goal.loop-i-init
loop-i-init c = λ j h k. absurd (omega arith)

pub returns-then-byte_at : goal.returns-then-byte_at
returns-then-byte_at c =
    let a = c.args in
    sym (every_false a.w (λ i. eqb (get_or a.a.now i 0) (get_or a.b.now i 0)) (a.w - 1 - c.loop-i.i) (omega arith)
    (ne_eqb _ _ (λ e. c.if-byte_at.true (c.byte_at.ensures ∙ e ∙ sym c.byte_at-in-loop-i.ensures))))

pub loop-i-preserved : goal.loop-i-preserved
loop-i-preserved c =
    let a = c.args in
    λ j h k.
    elim (dec_lt j (a.w - c.loop-i.i)) [
      | yes u ↦
          let z : j ≡ a.w - 1 - c.loop-i.i = omega arith in
          ap (λ x. get_or a.a.now x 0) z ∙ sym c.byte_at.ensures ∙ c.if-byte_at.false ∙ c.byte_at-in-loop-i.ensures ∙ ap (λ x. get_or a.b.now x 0) (sym z)
      | no u ↦ c.loop-i.invariant j (omega arith) k
    ]

pub returns : goal.returns
returns c =
    let a = c.args in
    sym (every_true a.w (λ i. eqb (get_or a.a.now i 0) (get_or a.b.now i 0)) (λ i h. eq-eqb _ _ (c.loop-i.invariant i (omega arith) h)))
