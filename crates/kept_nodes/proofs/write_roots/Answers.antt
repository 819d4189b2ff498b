use Rattle.std.proofs.Common.{◌≡◌, ◌∙◌, ◌/◌, ap, sym, set, length, List, map, arith}
use Rattle.std.proofs.Math.Numerals.{add-one}
use Rattle.calls.proofs.Judged.{numbered}
use Rattle.nodes.specs.declared.Node.{Node}
use Rattle.nodes.specs.NodeLayout.{node_of}
use Rattle.node_lists.proofs.Handed.{handed}
use Rattle.node_lists.proofs.AtRoots.{accepted_few, roots_folded, roots_refused}
use Rattle.kept_nodes.proofs.Steps.{filled_more, filled_none}
use Rattle.kept_nodes.proofs.write_roots.Goals as goal

pub returns-in_err-count : goal.returns-in_err-count
returns-in_err-count c =
    let a = c.args in
    let h = c.in_err-count.ensures.number in
    (handed _ _ c.from_residual.ensures.1 ∙ h, roots_refused a.server a.seeds.now a.nodes.now (λ z. numbered _ (h ∙ z)))

pub loop-i-init : goal.loop-i-init
loop-i-init c = filled_none c.args.server c.args.seeds.now c.args.nodes.now

pub bounds-nodes-i : goal.bounds-nodes-i
bounds-nodes-i c =
    let few = accepted_few c.args.server c.args.seeds.now c.args.nodes.now (sym c.in_ok-count.ensures.number) in
    omega (arith, few, c.in_ok-count.ensures.counted)

pub loop-i-preserved : goal.loop-i-preserved
loop-i-preserved c =
    let a = c.args in
    let l = c.loop-i in
    rw add-one
    (ap (λ (ns : List Node). set ns l.i c.root.result) l.invariant
    ∙ filled_more a.server a.seeds.now a.nodes.now l.i c.root.result c.root.ensures)

pub returns : goal.returns
returns c =
    let a = c.args in
    let z = c.in_ok-count.ensures.number in
    let end : c.loop-i.i ≡ length a.seeds.now / 16 = omega (arith, c.in_ok-count.ensures.counted) in
    (z, ap (map node_of) (rw end at c.loop-i.invariant) ∙ roots_folded a.server a.seeds.now a.nodes.now (sym z))
