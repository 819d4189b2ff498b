-- `report_sums::reports::Server::sums` meets its contract. The loop's invariant: the sums over the first i reports.
use Rattle.std.proofs.Common.{◌≡◌}
use Rattle.bits.specs.Packing.{bits_of}
use Rattle.group.specs.Modular.{field}
use Rattle.point.specs.Evaluation.{bit_of}
use Rattle.report_sums.specs.Reports.{counts, sum_where, lent_share}
use Rattle.report_sums.proofs.reports.Server.sums.Given as goal

abbrev pub invariant-loop-i : goal.invariant-loop-i
invariant-loop-i l = record {
  first : l.sums.0 ≡ sum_where field (counts l.marks) l.i (lent_share l.self.expander l.self.n l.self.server l.self.seeds.now l.self.public_shares.now (bit_of (bits_of l.first)) l.k);
  second : l.sums.1 ≡ sum_where field (counts l.marks) l.i (lent_share l.self.expander l.self.n l.self.server l.self.seeds.now l.self.public_shares.now (bit_of (bits_of l.second)) l.k);
}
