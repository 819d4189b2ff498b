-- `group::add` meets its contract: a sum has the remainder of the sum of the remainders.
use mathlib.Core.Path.{ap₂, sym, ◌∙◌}
use native.Mathlib.Nat.{add-mod}
use Rattle.group.specs.Modular.{p, field}
use Rattle.group.proofs.add.Goals as goal

pub returns : goal.returns
returns c = (
  c.add_below.ensures.0 ∙ ap₂ field.add c.reduce.ensures.0 c.reduce-2.ensures.0 ∙ sym (add-mod _ _ p),
  c.add_below.ensures.1,
)
