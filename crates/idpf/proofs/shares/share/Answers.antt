-- `idpf::shares::share` meets its contract: where no cause applies the query passes and the sums fit.
use Prim.Native.Nat.{ℕ, ◌*◌}
use native.Mathlib.Omega.{arith}
use mathlib.Core.Path.{◌≡◌, sym, ap, ◌∙◌}
use mathlib.Core.List.{[]}
use lib.ListN.{length}
use Rattle.calls.specs.Outcome.{judged}
use Rattle.calls.proofs.Judged.{judged_due, refused_with, accepted_with}
use Rattle.idpf.specs.Share.{share_causes, share_outcome}
use Rattle.idpf.proofs.ShareOutcome.{Ready, ready, outcome_accepted, bytes_length}
use Rattle.idpf.proofs.shares.share.Goals as goal
use Rattle.idpf.proofs.shares.share.Goals.{In_ok-e}

-- no cause applies
clear : (c : In_ok-e) → let a = c.args in (judged (share_causes a.n a.expander a.seeds.now a.public_shares.now a.query.now (length a.out.now)) []).number ≡ 0
clear c =
    let a = c.args in
    judged_due (share_causes a.n a.expander a.seeds.now a.public_shares.now a.query.now (length a.out.now)) [] ∙ sym c.in_ok-e.ensures.number

all_well : (c : In_ok-e) → let a = c.args in Ready a.n a.expander a.seeds.now a.public_shares.now a.query.now (length a.out.now)
all_well c = let a = c.args in ready a.n a.expander a.seeds.now a.public_shares.now a.query.now (length a.out.now) (clear c)

pub returns-in_err-e : goal.returns-in_err-e
unfolding share_outcome
returns-in_err-e c =
    let a = c.args in
    refused_with (share_causes a.n a.expander a.seeds.now a.public_shares.now a.query.now (length a.out.now)) _ c.in_err-e.ensures.number _ c.from_residual.ensures.1
    _ a.out.now

pub overflow_cast-lent : goal.overflow_cast-lent
overflow_cast-lent c = omega (arith, (all_well (goal.at.overflow_cast-lent c).In_ok-e).not_longer)

pub write_sums-requires : goal.write_sums-requires
write_sums-requires c =
    let r = all_well (goal.at.write_sums-requires c).In_ok-e in
    (r.a_query_lem, r.fits)

pub returns : goal.returns
returns c =
    let a = c.args in
    let x = c.in_ok-e.e in
    rw (outcome_accepted a.n a.expander a.server a.seeds.now a.public_shares.now a.query.now (length a.out.now) x
    c.in_ok-e.ensures.chosen (clear (goal.at.returns c).In_ok-e))
    (accepted_with _ _
    (ap (λ (m : ℕ). 8 * m) c.prefix_count.ensures.0 ∙ sym (bytes_length a.n a.server a.seeds.now a.public_shares.now a.query.now x))
    c.write_sums.ensures)
