-- `kept_nodes::share_kept` meets its contract: every turn's places lie among the nodes, and what is left is the outcome of the call.
use Rattle.std.proofs.Common.{◌≡◌, ◌∙◌, ℕ, sym, ap, Result, Ok, Err}
use Rattle.std.specs.Prelude.{IsErrAnd}
use Rattle.calls.specs.declared.Refusal.{Refusal}
use Rattle.calls.proofs.Judged.{numbered}
use Rattle.in_place.proofs.Folded.{Folds, folds, refused_exit}
use Rattle.kept_nodes.proofs.share_kept.Goals as goal
use Rattle.kept_nodes.proofs.share_kept.Goals.{In_ok-task}

-- a refusal that is handed on
handed_on : (e : Refusal) (r : Result ℕ Refusal) → IsErrAnd r (λ f. f ≡ e) → r ≡ Err e
handed_on e (Ok x) h = absurd h
handed_on e (Err f) h = ap Err h

-- what the turns of the task leave
folded : (c : In_ok-task) → let a = c.args in
    Folds a.n a.expander a.server a.public_shares.now a.last_query.now a.query.now a.nodes.now a.out.now c.in_ok-task.task
folded c =
    let a = c.args in
    let told = c.in_ok-task.ensures in
    folds a.n a.expander a.server a.public_shares.now a.last_query.now a.query.now a.nodes.now a.out.now (sym told.number) c.in_ok-task.task
    told.begun.0 told.begun.1

pub returns-in_err-task : goal.returns-in_err-task
returns-in_err-task c =
    let a = c.args in
    let told = c.in_err-task.ensures in
    rw (handed_on _ c.from_residual.result c.from_residual.ensures.1, told.begun)
    (refused_exit a.n a.expander a.server a.public_shares.now a.last_query.now a.query.now a.nodes.now a.out.now _ told.number (λ z. numbered _ (told.number ∙ z)))

pub advance-requires : goal.advance-requires
advance-requires c = rw c.first-at.ensures (folded (goal.at.advance-requires c).In_ok-task).within

pub returns : goal.returns
returns c =
    let told = c.in_ok-task.ensures in
    let nodes = rw c.first-at.ensures at c.advance.ensures.0 in
    let sums = rw (c.first-at.ensures, told.begun.2) at c.advance.ensures.1 in
    rw (c.share_length.ensures, nodes, sums) (folded (goal.at.returns c).In_ok-task).folded
