-- `keymaker::level::finish` meets its contract.
use mathlib.Core.Path.{refl, ap, ◌∙◌}
use mathlib.Core.List.{List}
use lib.ListN.{take}
use Prim.Native.Nat.{ℕ, ◌%◌}
use Rattle.numbers.specs.Numbers.{from_little}
use Rattle.group.specs.Modular.{p}
use Rattle.point.specs.Node.{final, payload_of}
use Rattle.point.specs.Instance.{field_scheme}
use Rattle.nodes.proofs.Nodes.{same_node}
use Rattle.keymaker.proofs.level.finish.Goals as goal

pub returns : goal.returns
unfolding final payload_of field_scheme
returns c =
    let b = c.two_blocks in
    (same_node b.ensures.0 refl, c.draw.ensures.0 ∙ ap (λ (l : List ℕ). from_little (take 8 l) % p) b.ensures.1)
