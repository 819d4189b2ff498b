use Prim.Native.Nat.{◌+◌, ◌-◌, ◌*◌}
use lib.ListN.{drop}
use Rattle.places.proofs.Places.{Grown}
use Rattle.exam_answering.specs.Printing.{entry_lines}
use Rattle.exam_answering.proofs.printing.write_entries.Given as goal

abbrev pub invariant-loop-i : goal.invariant-loop-i
invariant-loop-i l =
    Grown l.initial.out l.at l.out l.here (entry_lines l.k (l.count - l.i) (drop (6 + l.i * l.w) l.round) (drop (l.totals + l.i * 8) l.round))
    (entry_lines l.k l.count (drop 6 l.round) (drop l.totals l.round))
