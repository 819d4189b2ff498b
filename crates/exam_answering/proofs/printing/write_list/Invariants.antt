use Prim.Native.Nat.{◌/◌}
use mathlib.Core.Path.{◌≡◌}
use lib.ListN.{length}
use Rattle.bits.specs.Packing.{packed_length}
use Rattle.places.proofs.Places.{Grown}
use Rattle.exam_answering.specs.Printing.{list_lines}
use Rattle.exam_answering.proofs.printing.write_list.Given as goal

abbrev pub invariant-loop-string : goal.invariant-loop-string
invariant-loop-string l =
    (l.string-iterator.size ≡ packed_length l.n)
    × Grown l.initial.out l.at l.out l.here (list_lines l.n (length l.string-iterator.rest.now / packed_length l.n) l.string-iterator.rest.now)
    (list_lines l.n (length l.list / packed_length l.n) l.list)
