use lib.ListN.{drop}
use Rattle.places.proofs.Places.{Grown}
use Rattle.exam_text.specs.Characters.{hexadecimal}
use Rattle.fields.proofs.put_hex.Given as goal

abbrev pub invariant-loop-byte : goal.invariant-loop-byte
invariant-loop-byte l = Grown l.initial.out l.at l.out l.here (hexadecimal (drop l.byte-index l.bytes)) (hexadecimal l.bytes)
