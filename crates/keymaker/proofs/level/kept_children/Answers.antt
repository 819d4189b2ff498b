-- `keymaker::level::kept_children` meets its contract.
use mathlib.Core.Path.{ap₂, ◌∙◌}
use Rattle.expander.specs.Expander.{xor_bytes}
use Rattle.point.specs.Instance.{scheme}
use Rattle.nodes.specs.NodeLayout.{node_of}
use Rattle.keymaker.proofs.KeyLevel.{seed_made, left_made, right_made, kept_made}
use Rattle.keymaker.proofs.level.kept_children.Goals as goal

pub returns : goal.returns
returns c =
    let a = c.args in
    let S = scheme a.e in
    let n0 = node_of a.nodes.0 in
    let n1 = node_of a.nodes.1 in
    let b0 = c.both_children-both0 in
    let b1 = c.both_children-both1 in
    let l0 = node_of b0.result.0 in
    let r0 = node_of b0.result.1 in
    let l1 = node_of b1.result.0 in
    let r1 = node_of b1.result.1 in
    let seed =
    c.xor-seed.ensures ∙ ap₂ xor_bytes c.lose_seed.ensures c.lose_seed-2.ensures
    ∙ seed_made S a.a n0 n1 l0 r0 l1 r1 b0.ensures.0 b0.ensures.1 b1.ensures.0 b1.ensures.1 in
    let left = left_made S a.a n0 n1 l0 r0 l1 r1 b0.ensures.0 b0.ensures.1 b1.ensures.0 b1.ensures.1 in
    let right = right_made S a.a n0 n1 l0 r0 l1 r1 b0.ensures.0 b0.ensures.1 b1.ensures.0 b1.ensures.1 in
    let kept = kept_made S a.a n0 n1 l0 r0 l1 r1 b0.ensures.0 b0.ensures.1 b1.ensures.0 b1.ensures.1 in record {
      words = (seed, left, right);
      kept = (
        c.keep-kept0.ensures ∙ kept n0 l0 r0 _ _ _ seed left right b0.ensures.0 b0.ensures.1,
        c.keep-kept1.ensures ∙ kept n1 l1 r1 _ _ _ seed left right b1.ensures.0 b1.ensures.1,
      );
    }
