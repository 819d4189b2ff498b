-- `kept_nodes::advance` meets its contract. The loop's invariant: after so many turns the place, the nodes and the sums are known.
use Rattle.std.proofs.Common.{◌≡◌}
use Rattle.turns.specs.Turns.{place_at, nodes_at, sums_at}
use Rattle.kept_nodes.proofs.advance.Given as goal

abbrev pub invariant-loop : goal.invariant-loop
invariant-loop l = record {
  place : l.at ≡ place_at l.task l.shares l.last l.query l.initial.at l.counter;
  nodes : l.nodes ≡ nodes_at l.task l.shares l.last l.query l.initial.at l.initial.nodes l.counter;
  sums : l.out ≡ sums_at l.task l.shares l.last l.query l.initial.at l.initial.nodes l.initial.out l.counter;
}
