-- `node_lists::check_kept` meets its contract.
use native.Mathlib.Omega.{arith}
use mathlib.Core.Path.{◌≡◌, sym, ap, ◌∙◌}
use mathlib.Core.List.{List}
use Prim.Native.Nat.{ℕ}
use borrow.Author.Tests.{ltb-false}
use Rattle.calls.specs.Bounds.{most_bits, most_reports}
use Rattle.calls.specs.Causes.{Cause, number_due}
use Rattle.calls.proofs.Decisions.{bounds}
use Rattle.calls.proofs.Judged.{numbered, Clear, first_due, second_due, number_clear}
use Rattle.node_lists.specs.NodeList.{share_count}
use Rattle.node_lists.specs.ShareKept.{kept_causes}
use Rattle.node_lists.proofs.Handed.{handed}
use Rattle.node_lists.specs.Judging.{report_causes, query_causes}
use Rattle.node_lists.proofs.check_kept.Goals as goal
use Rattle.node_lists.proofs.check_kept.Goals.{In_ok-e}

-- the two groups of causes
module _ (n expander count room : ℕ) (shares last query : List ℕ) where
  abbrev first : List Cause
  first = report_causes n expander shares

  abbrev reports : ℕ
  reports = share_count n shares

  abbrev second : ℕ → List Cause
  second m = query_causes n m last query count room

-- no cause of the settings and the reports applies
clear : (c : In_ok-e) → Clear (report_causes c.args.n c.args.expander c.args.shares.now)
clear c =
    number_clear (report_causes c.args.n c.args.expander c.args.shares.now) (omega arith, (omega arith, (omega arith, (omega arith, (omega arith, (omega arith, tt))))))
    (sym c.in_ok-e.ensures.number)

-- the number that is due is that of the queries, the nodes and the space
of_queries : (c : In_ok-e) (m : ℕ) → m ≡ share_count c.args.n c.args.shares.now → let a = c.args in
    number_due (second a.n a.expander a.count a.room a.shares.now a.last.now a.query.now m)
    ≡ number_due (kept_causes a.n a.expander a.shares.now a.last.now a.query.now a.count a.room)
of_queries c m e =
    let a = c.args in
    ap (λ (m : ℕ). number_due (second a.n a.expander a.count a.room a.shares.now a.last.now a.query.now m)) e
    ∙ sym (second_due (first a.n a.expander a.count a.room a.shares.now a.last.now a.query.now) (second a.n a.expander a.count a.room a.shares.now a.last.now a.query.now (reports a.n a.expander a.count a.room a.shares.now a.last.now a.query.now)) (clear c))

pub returns-in_err-e-clause-number : goal.returns-in_err-e-clause-number
returns-in_err-e-clause-number c =
    let a = c.args in
    let h = c.in_err-e.ensures.number in
    handed _ _ c.from_residual.ensures.1 ∙ h
    ∙ sym (first_due (first a.n a.expander a.count a.room a.shares.now a.last.now a.query.now) (second a.n a.expander a.count a.room a.shares.now a.last.now a.query.now (reports a.n a.expander a.count a.room a.shares.now a.last.now a.query.now)) (λ z. numbered _ (h ∙ z)))

pub returns-in_err-check_queries-clause-number : goal.returns-in_err-check_queries-clause-number
returns-in_err-check_queries-clause-number c =
    handed _ _ c.from_residual-in_err-check_queries.ensures.1 ∙ c.in_err-check_queries.ensures
    ∙ of_queries (goal.at.returns-in_err-check_queries-clause-number c).In_ok-e _ c.share_count.ensures

pub overflow_cast-n : goal.overflow_cast-n
overflow_cast-n c = omega (arith, (bounds most_bits c.args.n (clear (goal.at.overflow_cast-n c).In_ok-e).0).1)

pub check_queries-requires : goal.check_queries-requires
check_queries-requires c =
    let a = c.args in
    let few = ltb-false most_reports (reports a.n a.expander a.count a.room a.shares.now a.last.now a.query.now) (clear (goal.at.check_queries-requires c).In_ok-e).1.1.1.0 in
    omega (arith, few, c.share_count.ensures)

pub returns-clause-number : goal.returns-clause-number
returns-clause-number c =
    c.in_ok-check_queries.ensures
    ∙ of_queries (goal.at.returns-clause-number c).In_ok-e _ c.share_count.ensures
