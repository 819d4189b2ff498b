-- `walk::down::step_down` meets its contract.
use mathlib.Core.Path.{◌≡◌, ap, ◌∙◌}
use mathlib.Core.List.{List}
use Prim.Native.Nat.{ℕ, ◌%◌}
use lib.ListN.{take}
use Rattle.numbers.specs.Numbers.{from_little}
use Rattle.group.specs.Modular.{p}
use Rattle.point.specs.Correction.{Correction}
use Rattle.point.specs.Evaluation.{descend, share_below}
use Rattle.point.specs.Node.{payload_of}
use Rattle.point.specs.Instance.{field_scheme, scheme}
use Rattle.nodes.specs.NodeLayout.{node_of, correction_of}
use Rattle.walk.proofs.Descent.{descend_block, below_share}
use Rattle.walk.proofs.down.step_down.Goals as goal

pub returns : goal.returns
unfolding payload_of field_scheme
returns c =
    let a = c.args in
    let word = c.read_correction-word in
    let m = node_of c.corrected_child-child.result in
    let drawn : c.draw.result ≡ payload_of (scheme a.e) m =
    c.draw.ensures.0 ∙ ap (λ (b : List ℕ). from_little (take 8 b) % p) c.two_blocks.ensures.1 in record {
      node_value = descend_block a.e (correction_of word.result) a.x (node_of a.m) m c.corrected_child-child.ensures c.two_blocks.ensures.0
          ∙ ap (λ (w : Correction ℕ). descend (scheme a.e) w a.x (node_of a.m)) word.ensures;
      share_value = below_share a.e (correction_of word.result) a.x (node_of a.m) m a.b c.corrected_child-child.ensures drawn c.with_correction-value.ensures c.as_share.ensures
          ∙ ap (λ (w : Correction ℕ). share_below (scheme a.e) a.b w a.x (node_of a.m)) word.ensures;
    }
