use Prim.Native.Nat.{ℕ}
use mathlib.Core.List.{List}
use Rattle.point.specs.PublicShare.{joined, read_correction}
use Rattle.fields.proofs.FieldChain.{Wrote}
use Rattle.key_answering.specs.KeyPage.{level_line}
use Rattle.key_answering.proofs.key.Key.write_levels.Given as goal

-- the line of a level
abbrev line : List ℕ → ℕ → ℕ → List ℕ
line share n k = level_line k (read_correction n share k)

abbrev pub invariant-loop-k : goal.invariant-loop-k
invariant-loop-k l = Wrote l.initial.out l.at (joined l.k (line l.self.share.now l.self.n)) l.out l.here
