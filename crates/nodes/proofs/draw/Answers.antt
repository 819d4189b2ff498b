-- `nodes::draw` meets its contract.
use mathlib.Core.Path.{ap, ◌∙◌}
use Prim.Native.Nat.{ℕ, ◌%◌}
use Rattle.numbers.specs.Numbers.{from_little}
use Rattle.places.proofs.Places.{window_inside}
use Rattle.group.specs.Modular.{p}
use native.Mathlib.Omega.{arith}
use Rattle.nodes.proofs.draw.Goals as goal

pub returns : goal.returns
returns c = (
  c.reduce.ensures.0 ∙ ap (λ (x : ℕ). x % p) (c.read_le8.ensures ∙ ap from_little (window_inside 8 0 c.args.block (omega (arith, c.well_formed.0.1.0.1)))),
  c.reduce.ensures.1,
)
