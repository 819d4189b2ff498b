use Rattle.point.specs.PublicShare.{joined}
use Rattle.fields.proofs.FieldChain.{Wrote}
use Rattle.key_answering.specs.KeyParts.{pair_of}
use Rattle.key_answering.proofs.key.Key.write_path.Given as goal

abbrev pub invariant-loop-k : goal.invariant-loop-k
invariant-loop-k l =
    Wrote l.initial.out l.at (joined l.k (pair_of l.self)) l.out l.here
