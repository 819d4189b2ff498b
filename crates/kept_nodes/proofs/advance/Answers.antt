use mathlib.Core.Path.{ap₂}
use Rattle.std.proofs.Common.{◌≡◌, List, [], false, length, ◌<◌, ◌∙◌, ap, set, get_or, arith}
use Rattle.std.proofs.lemmas.List.{get_or_default}
use Rattle.std.proofs.Math.Numerals.{add-one}
use Rattle.nodes.specs.declared.Node.{Node}
use Rattle.turns.specs.declared.Place.{Place}
use Rattle.turns.specs.Turns.{turned_node, turned_sums, next_place, no_struct}
use Rattle.in_place.proofs.Lengths.{nodes_length}
use Rattle.kept_nodes.proofs.Steps.{nodes_more, nodes_none, place_more, place_none, sums_more, sums_none}
use Rattle.kept_nodes.proofs.advance.Goals as goal
use Rattle.kept_nodes.proofs.advance.Goals.{In-loop}

pub loop-init : goal.loop-init
loop-init c =
    let a = c.args in
    record {
      place = place_none a.task a.shares.now a.last.now a.query.now a.at a.nodes.now;
      nodes = nodes_none a.task a.shares.now a.last.now a.query.now a.at a.nodes.now;
      sums = sums_none a.task a.shares.now a.last.now a.query.now a.at a.nodes.now a.out.now;
    }

-- the places of the turn are among the nodes
among : (c : In-loop) → (c.loop.at.source < length c.loop.nodes) × (c.loop.at.target < length c.loop.nodes)
among c =
    let a = c.args in
    let inv = c.loop.invariant in
    rw (inv.place, inv.nodes, nodes_length a.task a.shares.now a.last.now a.query.now a.at a.nodes.now c.loop.counter) (c.requires c.loop.counter c.loop-test.true)

pub slice_copy_out-turn : goal.slice_copy_out-turn
slice_copy_out-turn c = (among c).0

pub bounds-nodes-at : goal.bounds-nodes-at
bounds-nodes-at c = (among (goal.at.bounds-nodes-at c).In-loop).1

pub loop-preserved : goal.loop-preserved
loop-preserved c =
    let a = c.args in
    let l = c.loop in
    let inv = l.invariant in
    let told = c.turn.ensures in
    let done = l.counter in
    let read = get_or_default l.nodes l.at.source (record { seed = []; bit = false }) no_struct (among (goal.at.loop-preserved c).In-loop).0 in
    let node =
    told.0 ∙ ap (turned_node a.task a.shares.now a.query.now l.at) read
    ∙ ap₂ (λ (p : Place) (ns : List Node). turned_node a.task a.shares.now a.query.now p (get_or ns p.source no_struct)) inv.place inv.nodes in
    let sums =
    told.2 ∙ ap (λ (m : Node). turned_sums a.task a.shares.now a.query.now l.at m l.out) read
    ∙ ap₂ (λ (p : Place) (ns : List Node). turned_sums a.task a.shares.now a.query.now p (get_or ns p.source no_struct) l.out) inv.place inv.nodes
    ∙ ap (turned_sums a.task a.shares.now a.query.now _ _) inv.sums in
    rw add-one (record {
      place =
          place_more a.task a.shares.now a.last.now a.query.now a.at a.nodes.now done _
          (told.1 ∙ ap (next_place a.task a.last.now a.query.now) inv.place);
      nodes =
          ap₂ (λ (ns : List Node) (p : Place). set ns p.target c.turn.result.0) inv.nodes inv.place
          ∙ nodes_more a.task a.shares.now a.last.now a.query.now a.at a.nodes.now done c.turn.result.0 node;
      sums = sums_more a.task a.shares.now a.last.now a.query.now a.at a.nodes.now a.out.now done _ sums;
    })

pub returns : goal.returns
returns c =
    let end : c.loop.counter ≡ c.args.at.left = omega arith in
    (rw end at c.loop.invariant.nodes, rw end at c.loop.invariant.sums)
