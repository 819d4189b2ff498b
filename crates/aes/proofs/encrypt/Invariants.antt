use Rattle.aes.specs.StateLayout.{bytes_of}
use Rattle.aes.proofs.Rounds.{Reached}
use Rattle.aes.proofs.encrypt.Given as goal

abbrev pub invariant-loop-i : goal.invariant-loop-i
invariant-loop-i l = Reached (bytes_of l.initial.k) (bytes_of l.initial.s) (bytes_of l.k) (bytes_of l.s) l.i
