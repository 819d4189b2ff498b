-- `walk::steps::corrected_child` meets its contract.
use mathlib.Core.Path.{ap₂, ◌∙◌}
use Rattle.point.specs.Correction.{corrected, corrected_child}
use Rattle.walk.proofs.steps.corrected_child.Goals as goal

pub returns : goal.returns
unfolding corrected_child
returns c =
    let a = c.args in
    c.corrected.ensures ∙ ap₂ (corrected a.m.bit a.c.seed) c.bit_correction.ensures c.child.ensures
