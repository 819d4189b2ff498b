-- `kept_nodes::write_roots` meets its contract. The loop's invariant: so many roots are written.
use Rattle.std.proofs.Common.{◌≡◌}
use Rattle.node_lists.specs.Filling.{filled_at}
use Rattle.kept_nodes.proofs.write_roots.Given as goal

abbrev pub invariant-loop-i : goal.invariant-loop-i
invariant-loop-i l = l.nodes ≡ filled_at l.server l.seeds l.initial.nodes l.i
