use Prim.Native.Nat.{◌*◌}
use Rattle.places.proofs.Places.{Grown}
use Rattle.idpf.proofs.ShareSums.{all, left}
use Rattle.idpf.proofs.shares.write_sums.Given as goal

abbrev pub invariant-loop-j : goal.invariant-loop-j
invariant-loop-j l =
    Grown l.initial.out 0 l.out (8 * (2 * l.j)) (left l.lent.expander l.lent.n l.lent.server l.lent.seeds.now l.lent.public_shares.now l.query (2 * l.j)) (all l.lent.expander l.lent.n l.lent.server l.lent.seeds.now l.lent.public_shares.now l.query)
