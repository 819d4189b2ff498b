-- `space::record_space` meets its contract: it adds up the heading, the first level and those below it.
use native.Mathlib.Omega.{arith}
use native.Mathlib.Nat.{div-le_self}
use mathlib.Core.Path.{◌≡◌, sym, ◌∙◌}
use mathlib.Core.Bool.{false}
use Rattle.space.specs.SearchSpace.{outside_bounds}
use Rattle.space.proofs.Levels.{record_parts}
use Rattle.space.proofs.Within.{within}
use Rattle.space.proofs.record_space.Goals as goal
use Rattle.space.proofs.record_space.Goals.{Else-outside_bounds}

-- no argument is outside its bounds
clear : (c : Else-outside_bounds) → let a = c.args in outside_bounds a.n a.weighted a.t a.reports ≡ false
clear c = sym c.outside_bounds.ensures ∙ c.if-outside_bounds.false

pub returns-then-outside_bounds : goal.returns-then-outside_bounds
returns-then-outside_bounds c = rw (sym c.outside_bounds.ensures ∙ c.if-outside_bounds.true)

pub fewest_holders-requires : goal.fewest_holders-requires
fewest_holders-requires c =
    let a = c.args in
    let k = within a.n a.weighted a.t a.reports (clear c) in
    (k.2, k.3)

pub nonzero_div-most : goal.nonzero_div-most
nonzero_div-most c = omega (arith, c.fewest_holders.ensures.1)

pub levels_length-requires : goal.levels_length-requires
levels_length-requires c =
    let a = c.args in
    let k = within a.n a.weighted a.t a.reports (clear (goal.at.levels_length-requires c).Else-outside_bounds) in
    (k.0, k.1, omega (arith, div-le_self a.reports c.fewest_holders.result, k))

pub returns : goal.returns
returns c =
    let a = c.args in
    let k = within a.n a.weighted a.t a.reports (clear (goal.at.returns c).Else-outside_bounds) in
    rw (clear (goal.at.returns c).Else-outside_bounds, ← c.fewest_holders.ensures.0)
    (omega (arith, record_parts a.n c.fewest_holders.result a.reports k.0, c.level_length-first.ensures.0, c.levels_length.ensures.0))
