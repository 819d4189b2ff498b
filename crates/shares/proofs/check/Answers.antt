-- `shares::check` meets its contract. At each return the tests that led there say which cause is the first.
use mathlib.Core.Path.{◌≡◌, sym, ◌∙◌}
use mathlib.Core.Bool.{true, false, ◌&&◌}
use borrow.Author.Tests.{not-true, not-false}
use Rattle.shares.specs.ShareNumbers.{numbers, unmatched, all_below}
use Rattle.shares.proofs.AddOutcome.{cause_4, cause_6, cause_11, no_cause}
use Rattle.shares.proofs.check.Goals as goal
use Rattle.shares.proofs.check.Goals.{Else-not-both_below, Else-unmatched}

matches : (c : Else-unmatched) → unmatched c.args.share0.now c.args.share1.now ≡ false
matches c = sym c.unmatched.ensures ∙ c.if-unmatched.false

below : (c : Else-not-both_below) → (all_below (numbers c.args.share0.now) && all_below (numbers c.args.share1.now)) ≡ true
below c = sym c.both_below.ensures ∙ not-false _ c.if-not-both_below.false-raw

-- ---- the returns
pub returns-then-unmatched : goal.returns-then-unmatched
returns-then-unmatched c =
    let a = c.args in
    cause_4 a.share0.now a.share1.now a.room (sym c.unmatched.ensures ∙ c.if-unmatched.true)

pub returns-then-not-both_below : goal.returns-then-not-both_below
returns-then-not-both_below c =
    let a = c.args in
    cause_6 a.share0.now a.share1.now a.room (matches (goal.at.returns-then-not-both_below c).Else-unmatched) (sym c.both_below.ensures ∙ not-true _ c.if-not-both_below.true-raw)

pub returns-then-room-share0 : goal.returns-then-room-share0
returns-then-room-share0 c =
    let a = c.args in
    cause_11 a.share0.now a.share1.now a.room (matches (goal.at.returns-then-room-share0 c).Else-unmatched) (below (goal.at.returns-then-room-share0 c).Else-not-both_below) c.if-room-share0.true

pub returns : goal.returns
returns c =
    let a = c.args in
    no_cause a.share0.now a.share1.now a.room (matches (goal.at.returns c).Else-unmatched) (below (goal.at.returns c).Else-not-both_below) c.if-room-share0.false
