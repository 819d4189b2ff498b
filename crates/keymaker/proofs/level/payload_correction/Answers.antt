-- `keymaker::level::payload_correction` meets its contract.
use mathlib.Core.Path.{ap, ◌∙◌}
use Prim.Native.Nat.{ℕ}
use Rattle.group.specs.Modular.{field}
use Rattle.keymaker.proofs.level.payload_correction.Goals as goal

pub returns-then-t1 : goal.returns-then-t1
returns-then-t1 c =
    let a = c.args in
    let d = c.add-d.ensures.0 ∙ ap (λ (x : ℕ). field.add x a.w1) (c.add.ensures.0 ∙ ap (λ (x : ℕ). field.add a.weight x) c.negate.ensures.0) in
    rw c.if-t1.true (c.negate-then-t1.ensures.0 ∙ ap (λ (x : ℕ). field.neg x) d)

pub returns-else-t1 : goal.returns-else-t1
returns-else-t1 c =
    let a = c.args in
    let d = c.add-d.ensures.0 ∙ ap (λ (x : ℕ). field.add x a.w1) (c.add.ensures.0 ∙ ap (λ (x : ℕ). field.add a.weight x) c.negate.ensures.0) in
    rw c.if-t1.false d
