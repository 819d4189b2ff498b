-- `idpf::shares::write_sums` meets its contract. The loop's invariant: the sums at the prefixes passed are written, and the rest is as it was. The last
-- prefix of an odd count is left to the end.
use mathlib.Core.Path.{◌≡◌}
use Prim.Native.Nat.{◌+◌, ◌-◌, ◌*◌}
use native.Mathlib.Omega.{arith}
use Rattle.query.proofs.Ready.{ready}
use Rattle.idpf.proofs.ShareSums.{sums_start, sums_more, sums_two, sums_end}
use Rattle.idpf.proofs.shares.write_sums.Goals as goal

pub overflow_cast-k : goal.overflow_cast-k
overflow_cast-k c =
    omega (arith, c.prefix_length-k.ensures.0, (ready c.args.lent.n c.args.query.now c.requires.0).not_longer)

pub loop-j-init : goal.loop-j-init
loop-j-init c =
    let s = c.args.lent in
    sums_start s.expander s.n s.server s.seeds.now s.public_shares.now c.args.query.now c.requires.0 c.args.out.now c.requires.1

pub loop-j-preserved : goal.loop-j-preserved
loop-j-preserved c =
    let s = c.args.lent in
    let j = c.loop-j.j in
    let next : 2 * j + 2 ≡ 2 * (j + 1) = omega arith in
    rw next at (sums_two s.expander s.n s.server s.seeds.now s.public_shares.now c.args.query.now c.requires.0 c.args.out.now c.requires.1 c.loop-j.out _
    (2 * j) c.prefix_length-k.result (omega (arith, c.prefix_count-count.ensures.0)) c.prefix_length-k.ensures.0 c.loop-j.invariant c.write_sum_pair.ensures)

pub returns-then-count-eq1 : goal.returns-then-count-eq1
returns-then-count-eq1 c =
    let s = c.args.lent in
    let j = c.loop-j.j in
    let last : c.prefix_count-count.result ≡ 2 * j + 1 = omega arith in
    let place : c.prefix_count-count.result - 1 ≡ 2 * j = omega arith in
    sums_end s.expander s.n s.server s.seeds.now s.public_shares.now c.args.query.now c.requires.0 c.args.out.now c.requires.1 _ (2 * j + 1)
    (omega (arith, c.prefix_count-count.ensures.0))
    (sums_more s.expander s.n s.server s.seeds.now s.public_shares.now c.args.query.now c.requires.0 c.args.out.now c.requires.1 c.loop-j.out _
    (2 * j) c.prefix_length-k.result (omega (arith, c.prefix_count-count.ensures.0)) c.prefix_length-k.ensures.0
    c.loop-j.invariant (rw place at c.write_sum.ensures))

pub returns-else-count-eq1 : goal.returns-else-count-eq1
returns-else-count-eq1 c =
    let s = c.args.lent in
    let j = c.loop-j.j in
    sums_end s.expander s.n s.server s.seeds.now s.public_shares.now c.args.query.now c.requires.0 c.args.out.now c.requires.1 c.loop-j.out (2 * j)
    (omega (arith, c.prefix_count-count.ensures.0)) c.loop-j.invariant
