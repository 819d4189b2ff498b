-- `space::list_space` meets its contract.
use Prim.Native.Nat.{◌/◌, ◌≤◌}
use native.Mathlib.Omega.{arith}
use native.Mathlib.Nat.{div-le_self, mul-le-mul}
use mathlib.Core.Path.{◌≡◌, sym, ◌∙◌}
use mathlib.Core.Bool.{false}
use Rattle.tree.specs.Space.{list_space}
use Rattle.space.specs.SearchSpace.{outside_bounds}
use Rattle.space.proofs.Within.{within}
use Rattle.space.proofs.list_space.Goals as goal
use Rattle.space.proofs.list_space.Goals.{Else-outside_bounds}

-- no argument is outside its bounds
clear : (c : Else-outside_bounds) → let a = c.args in outside_bounds a.n a.weighted a.t a.reports ≡ false
clear c = sym c.outside_bounds.ensures ∙ c.if-outside_bounds.false

pub returns-then-outside_bounds : goal.returns-then-outside_bounds
returns-then-outside_bounds c = rw (sym c.outside_bounds.ensures ∙ c.if-outside_bounds.true)

pub fewest_holders-requires : goal.fewest_holders-requires
fewest_holders-requires c =
    let a = c.args in
    let k = within a.n a.weighted a.t a.reports (clear c) in
    (k.2, k.3)

pub nonzero_div-strings : goal.nonzero_div-strings
nonzero_div-strings c = omega (arith, c.fewest_holders.ensures.1)

pub overflow_mul-result : goal.overflow_mul-result
overflow_mul-result c =
    let a = c.args in
    let k = within a.n a.weighted a.t a.reports (clear (goal.at.overflow_mul-result c).Else-outside_bounds) in
    let most = c.fewest_holders.result in
    let strings : a.reports / most ≤ 65535 = omega (arith, div-le_self a.reports most, k) in
    let bytes : c.packed_length.result ≤ 32 = omega (arith, k) in
    omega (arith, mul-le-mul strings bytes)

pub returns : goal.returns
unfolding list_space
returns c = rw (clear (goal.at.returns c).Else-outside_bounds, c.packed_length.ensures, c.fewest_holders.ensures.0)
