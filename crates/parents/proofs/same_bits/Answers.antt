-- `parents::same_bits` meets its contract. The highest bits of the last byte decide first, and then the whole bytes before it.
use native.Mathlib.Omega.{arith}
use mathlib.Core.Path.{sym, ◌∙◌}
use borrow.Author.Tests.{ne_eqb}
use Rattle.parents.proofs.Agreeing.{part_differs, part_same}
use Rattle.parents.proofs.same_bits.Goals as goal

pub returns-else-wide-past : goal.returns-else-wide-past
returns-else-wide-past c =
    let a = c.args in
    ne_eqb _ _ c.if-wide-past.false
    ∙ sym (part_differs a.k a.a.now a.b.now
    (λ i. omega (arith, c.type_inv.a i)) (λ i. omega (arith, c.type_inv.b i))
    c.wide.result c.wide-2.result
    (c.wide.ensures.0 ∙ c.byte_at.ensures) (c.wide-2.ensures.0 ∙ c.byte_at-2.ensures)
    c.if-wide-past.false)

pub returns-then-wide-past : goal.returns-then-wide-past
returns-then-wide-past c =
    let a = c.args in
    c.same_bytes.ensures
    ∙ sym (part_same a.k a.a.now a.b.now
    (λ i. omega (arith, c.type_inv.a i)) (λ i. omega (arith, c.type_inv.b i))
    c.wide.result c.wide-2.result
    (c.wide.ensures.0 ∙ c.byte_at.ensures) (c.wide-2.ensures.0 ∙ c.byte_at-2.ensures)
    c.if-wide-past.true)
