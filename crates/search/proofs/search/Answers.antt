-- `search::search` meets its contract: a cause of what is lent refuses it; where none applies the levels decide.
use Prim.Native.Nat.{◌-◌}
use native.Mathlib.Omega.{arith}
use mathlib.Core.Path.{sym}
use Rattle.search.specs.Search.{Lent, lent}
use Rattle.search.proofs.Closing.{refused, within_bounds, settled}
use Rattle.search.proofs.search.Goals as goal
use Rattle.search.proofs.search.Goals.{After-check}

-- what is lent
abbrev lend : After-check → Lent
lend f =
    let a = f.args in
    lent a.n a.weighted a.t a.expander a.seeds0.now a.public_shares0.now a.seeds1.now a.public_shares1.now a.«record».now a.list.now

pub returns-in_err-e : goal.returns-in_err-e
returns-in_err-e c = refused (lend (goal.at.returns-in_err-e c).After-check) _ c.in_err-e.ensures.number _ c.from_residual.ensures.1

pub returns : goal.returns
returns c =
    let n = c.args.n in
    let s = lend (goal.at.returns c).After-check in
    settled s (sym c.in_ok-e.ensures.number) c.in_ok-e.e c.in_ok-e.ensures.chosen (n - 1) _ _ _ _ _
    (omega (arith, (within_bounds s (sym c.in_ok-e.ensures.number)).0)) c.run.ensures
