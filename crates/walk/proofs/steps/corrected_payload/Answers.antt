-- `walk::steps::corrected_payload` meets its contract: what is drawn from block 3 is the node's payload.
use mathlib.Core.Path.{◌≡◌, ap, ◌∙◌}
use mathlib.Core.List.{List}
use Prim.Native.Nat.{ℕ, ◌%◌}
use lib.ListN.{take}
use Rattle.numbers.specs.Numbers.{from_little}
use Rattle.group.specs.Modular.{p}
use Rattle.point.specs.Node.{payload_of}
use Rattle.point.specs.Instance.{field_scheme, scheme}
use Rattle.nodes.specs.NodeLayout.{node_of}
use Rattle.walk.proofs.Descent.{payload_corrected}
use Rattle.walk.proofs.steps.corrected_payload.Goals as goal

pub returns : goal.returns
unfolding payload_of field_scheme
returns c =
    let a = c.args in
    let drawn : c.draw-w.result ≡ payload_of (scheme a.e) (node_of a.m) =
    c.draw-w.ensures.0 ∙ ap (λ (b : List ℕ). from_little (take 8 b) % p) c.block.ensures in
    payload_corrected a.e a.v (node_of a.m) drawn c.with_correction.ensures
