use Rattle.aes.specs.StateLayout.{bytes_of}
use Rattle.aes.proofs.Rounds.{Reached}
use Rattle.aes.proofs.encrypt_two.Given as goal

abbrev pub invariant-loop-j : goal.invariant-loop-j
invariant-loop-j l = Reached (bytes_of l.initial.k) (bytes_of l.initial.s) (bytes_of l.k) (bytes_of l.s) l.j × Reached (bytes_of l.initial.k) (bytes_of l.initial.u) (bytes_of l.k) (bytes_of l.u) l.j
