-- `report_sums::reports::Server::lent_shares` meets its contract. A report that is lent lies within.
use Prim.Native.Nat.{◌+◌, ◌*◌, ◌≤◌}
use native.Mathlib.Omega.{arith}
use lib.ListN.{length}
use Rattle.bits.specs.Packing.{bits_of}
use Rattle.point.specs.Evaluation.{bit_of}
use Rattle.report_sums.proofs.Lent.{share_inside, lent_part}
use Rattle.report_sums.proofs.reports.Server.lent_shares.Goals as goal
use Rattle.report_sums.proofs.reports.Server.lent_shares.Goals.{After-public_share_length-length}

-- the public share of report i lies within
room : (c : After-public_share_length-length) → c.public_share_length-length.result * c.args.i + c.public_share_length-length.result
    ≤ length c.args.self.public_shares.now
room c =
    let a = c.args in
    share_inside a.self.n a.self.seeds.now a.self.public_shares.now a.i c.requires c.public_share_length-length.ensures

pub overflow_mul-start : goal.overflow_mul-start
overflow_mul-start c = omega (arith, room c)

pub overflow_add-end : goal.overflow_add-end
overflow_add-end c = omega (arith, room c)

pub slice_bounds-key-end : goal.slice_bounds-key-end
slice_bounds-key-end c = omega (arith, room (goal.at.slice_bounds-key-end c).After-public_share_length-length)

pub returns : goal.returns
returns c =
    let a = c.args in
    record {
      first_value = lent_part a.self.n a.self.seeds.now a.self.public_shares.now a.i c.requires a.self.expander a.self.server (bit_of (bits_of a.first.now)) a.k
          c.public_share_length-length.ensures c.read16.ensures c.shares_at.ensures.first_value;
      second_value = lent_part a.self.n a.self.seeds.now a.self.public_shares.now a.i c.requires a.self.expander a.self.server (bit_of (bits_of a.second.now)) a.k
          c.public_share_length-length.ensures c.read16.ensures c.shares_at.ensures.second_value;
    }
