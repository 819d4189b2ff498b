-- `keymaker::level::next_level` meets its contract.
use mathlib.Core.Path.{ap, ◌∙◌}
use Rattle.point.specs.Node as point
use Rattle.point.specs.Node.{final, payload_of}
use Rattle.point.specs.Instance.{scheme}
use Rattle.nodes.specs.NodeLayout.{node_of}
use Rattle.keymaker.proofs.KeyLevel.{word_made}
use Rattle.keymaker.proofs.level.next_level.Goals as goal

pub returns : goal.returns
returns c =
    let a = c.args in
    let S = scheme a.e in
    let d0 = c.finish-payload0.ensures in
    let d1 = c.finish-payload1.ensures in record {
      word = word_made a.e a.weight a.a (node_of a.nodes.0) (node_of a.nodes.1) c.kept_children-left.ensures.words.0 c.kept_children-left.ensures.words.1 c.kept_children-left.ensures.words.2
          (d0.1 ∙ ap (payload_of S) c.kept_children-left.ensures.kept.0) (d1.1 ∙ ap (payload_of S) c.kept_children-left.ensures.kept.1) (ap (λ (m : point.Node). m.bit) c.kept_children-left.ensures.kept.1) c.payload_correction-payload.ensures;
      next = (d0.0 ∙ ap (final S) c.kept_children-left.ensures.kept.0, d1.0 ∙ ap (final S) c.kept_children-left.ensures.kept.1);
    }
