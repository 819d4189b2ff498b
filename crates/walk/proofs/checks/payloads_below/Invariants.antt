-- `walk::checks::payloads_below` meets its contract. The loop's invariant: the reader holds the lent share, all levels and the next level, and the test of the levels before it is known.
use Rattle.std.proofs.Common.{◌≡◌}
use Rattle.walk.proofs.PublicTests.{below}
use Rattle.walk.proofs.checks.payloads_below.Given as goal

abbrev pub invariant-loop : goal.invariant-loop
invariant-loop l = record {
  share : l.reader.share.now ≡ l.share;
  levels : l.reader.levels ≡ l.n;
  next : l.reader.next ≡ l.counter;
  tested : l.below ≡ below l.n l.share l.counter;
}
