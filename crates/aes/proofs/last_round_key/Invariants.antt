use mathlib.Core.Path.{◌≡◌}
use Rattle.aes.specs.StateLayout.{bytes_of}
use Rattle.aes.specs.Fips197.{round_key}
use Rattle.aes.proofs.last_round_key.Given as goal

abbrev pub invariant-loop-n : goal.invariant-loop-n
invariant-loop-n l = bytes_of l.k ≡ round_key (bytes_of l.initial.k) l.n
