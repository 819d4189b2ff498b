use Prim.Native.Nat.{◌-◌}
use Rattle.places.proofs.Places.{Grown}
use Rattle.exam_text.proofs.Records.{Rounds}
use Rattle.exam_answering.specs.Printing.{round_length, rounds_lines}
use Rattle.exam_answering.proofs.printing.write_rounds.Given as goal

abbrev pub invariant-loop : goal.invariant-loop
invariant-loop l =
    Rounds round_length (l.n - l.counter) l.rest × Grown l.initial.out l.at l.out l.here (rounds_lines (l.n - l.counter) l.rest) (rounds_lines l.n l.rounds)
