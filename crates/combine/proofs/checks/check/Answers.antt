-- `combine::checks::check` meets its contract. At each return the tests that led there say which cause is the first.
use mathlib.Core.Path.{◌≡◌, sym, ◌∙◌}
use mathlib.Core.Bool.{true, false, ◌&&◌}
use borrow.Author.Tests.{not-true, not-false}
use borrow.Author.Rules.{rules}
use Rattle.calls.specs.Bounds.{most_bits, threshold_most, outside}
use Rattle.shares.specs.ShareNumbers.{numbers, all_below}
use Rattle.combine.specs.Combine.{wrong_shares}
use Rattle.combine.proofs.Outcome.{cause_1, cause_2, cause_4, cause_6, cause_9, no_cause}
use Rattle.combine.proofs.checks.check.Goals as goal
use Rattle.combine.proofs.checks.check.Goals.{Else-length_outside, Else-not-below, Else-threshold_outside, Else-wrong_shares}

bounds : (c : Else-length_outside) → outside most_bits c.args.n ≡ false
bounds c = sym c.length_outside.ensures ∙ c.if-length_outside.false

threshold : (c : Else-threshold_outside) → outside (threshold_most c.args.weighted) c.args.t ≡ false
threshold c = sym c.threshold_outside.ensures ∙ c.if-threshold_outside.false

lengths : (c : Else-wrong_shares) → wrong_shares c.args.n c.args.query.now c.args.share0.now c.args.share1.now ≡ false
lengths c = rw (← c.is_query-a_query.ensures) (sym c.wrong_shares.ensures ∙ c.if-wrong_shares.false)

below : (c : Else-not-below) → (all_below (numbers c.args.share0.now) && all_below (numbers c.args.share1.now)) ≡ true
below c = sym c.both_below-below.ensures ∙ not-false _ c.if-not-below.false-raw

-- ---- the returns
pub returns-then-length_outside : goal.returns-then-length_outside
returns-then-length_outside c =
    let a = c.args in
    cause_1 a.n a.weighted a.t a.query.now a.share0.now a.share1.now (sym c.length_outside.ensures ∙ c.if-length_outside.true)

pub returns-then-threshold_outside : goal.returns-then-threshold_outside
returns-then-threshold_outside c =
    let a = c.args in
    c.threshold_refusal.ensures
    ∙ cause_2 a.n a.weighted a.t a.query.now a.share0.now a.share1.now (bounds (goal.at.returns-then-threshold_outside c).Else-length_outside) (sym c.threshold_outside.ensures ∙ c.if-threshold_outside.true)

pub returns-then-wrong_shares : goal.returns-then-wrong_shares
returns-then-wrong_shares c =
    let a = c.args in
    cause_4 a.n a.weighted a.t a.query.now a.share0.now a.share1.now (bounds (goal.at.returns-then-wrong_shares c).Else-length_outside) (threshold (goal.at.returns-then-wrong_shares c).Else-threshold_outside)
    (rw (← c.is_query-a_query.ensures) (sym c.wrong_shares.ensures ∙ c.if-wrong_shares.true))

pub returns-then-not-below : goal.returns-then-not-below
returns-then-not-below c =
    let a = c.args in
    cause_6 a.n a.weighted a.t a.query.now a.share0.now a.share1.now (bounds (goal.at.returns-then-not-below c).Else-length_outside) (threshold (goal.at.returns-then-not-below c).Else-threshold_outside) (lengths (goal.at.returns-then-not-below c).Else-wrong_shares)
    (sym c.both_below-below.ensures ∙ not-true _ c.if-not-below.true-raw)

pub returns-then-not-a_query : goal.returns-then-not-a_query
returns-then-not-a_query c =
    let a = c.args in
    let fit : c.both_below-below.result ≡ true = search rules in
    cause_9 a.n a.weighted a.t a.query.now a.share0.now a.share1.now (bounds (goal.at.returns-then-not-a_query c).Else-length_outside) (threshold (goal.at.returns-then-not-a_query c).Else-threshold_outside) (lengths (goal.at.returns-then-not-a_query c).Else-wrong_shares) (sym c.both_below-below.ensures ∙ fit)
    (sym c.is_query-a_query.ensures ∙ not-true _ c.if-not-a_query.true-raw)

pub returns : goal.returns
returns c =
    let a = c.args in
    no_cause a.n a.weighted a.t a.query.now a.share0.now a.share1.now (bounds (goal.at.returns c).Else-length_outside) (threshold (goal.at.returns c).Else-threshold_outside) (lengths (goal.at.returns c).Else-wrong_shares) (below (goal.at.returns c).Else-not-below)
    (sym c.is_query-a_query.ensures ∙ not-false _ c.if-not-a_query.false-raw)
