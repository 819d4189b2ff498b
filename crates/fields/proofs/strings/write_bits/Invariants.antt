use lib.ListN.{drop}
use Rattle.bits.specs.Packing.{unpack}
use Rattle.places.proofs.Places.{Grown}
use Rattle.exam_text.specs.Characters.{binary}
use Rattle.fields.proofs.strings.write_bits.Given as goal

abbrev pub invariant-loop-i : goal.invariant-loop-i
invariant-loop-i l = Grown l.initial.out l.at l.out l.here (binary (drop l.i (unpack l.k l.packed))) (binary (unpack l.k l.packed))
