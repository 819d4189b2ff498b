-- `shares::add_shares` meets its contract. A refusal leaves the space as it was; else no cause applies, and the sums are written.
use Rattle.std.proofs.Common.{length, sym, ◌∙◌}
use Rattle.calls.proofs.Judged.{refused_with, accepted_with}
use Rattle.shares.specs.Add.{add_causes, add_bytes, add_outcome}
use Rattle.shares.proofs.AddOutcome.{Ready, ready, due_number}
use Rattle.shares.proofs.add_shares.Goals as goal
use Rattle.shares.proofs.add_shares.Goals.{In_ok-check}

-- no cause applies
all_well : (c : In_ok-check) → Ready c.args.share0.now c.args.share1.now (length c.args.out.now)
all_well c =
    let a = c.args in
    ready a.share0.now a.share1.now (length a.out.now)
    (due_number a.share0.now a.share1.now (length a.out.now) ∙ sym c.in_ok-check.ensures)

pub returns-in_err-check : goal.returns-in_err-check
unfolding add_outcome
returns-in_err-check c =
    let a = c.args in
    refused_with (add_causes a.share0.now a.share1.now (length a.out.now)) _ c.in_err-check.ensures _ c.from_residual.ensures.1
    (add_bytes a.share0.now a.share1.now) a.out.now

pub write_sums-requires : goal.write_sums-requires
write_sums-requires c =
    let r = all_well (goal.at.write_sums-requires c).In_ok-check in (r.same, r.fits)

pub returns : goal.returns
returns c =
    let r = all_well (goal.at.returns c).In_ok-check in
    rw r.outcome (accepted_with _ _ (sym r.size) c.write_sums.ensures)
