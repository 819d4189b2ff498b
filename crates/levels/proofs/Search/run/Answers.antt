-- `Search::run` meets its contract.
use Prim.Native.Nat.{◌+◌, ◌/◌}
use mathlib.Core.Path.{sym, ◌∙◌}
use lib.ListN.{length}
use Rattle.kept.specs.Kept.{reaches_by}
use Rattle.levels.specs.Levels.{total_in, ending}
use Rattle.levels.proofs.Closing.{all_closed, all_cleared, is_refused, not_refused}
use Rattle.levels.proofs.Search.run.Goals as goal

pub returns-else-is_err : goal.returns-else-is_err
unfolding ending
returns-else-is_err c =
    let a = c.args in
    let s = a.self in
    all_closed (reaches_by s.rule) (total_in s) (length s.seeds0.now / 16) (s.last + 1) a.area.now a.list.now _ _ _ _ _ c.all_levels-found.ensures
    (not_refused c.all_levels-found.result (sym c.is_err.ensures.value ∙ c.if-is_err.false))

pub returns-then-is_err : goal.returns-then-is_err
unfolding ending
returns-then-is_err c =
    let a = c.args in
    let s = a.self in
    all_cleared (reaches_by s.rule) (total_in s) (length s.seeds0.now / 16) (s.last + 1) a.area.now a.list.now _ _ _ _ _ c.all_levels-found.ensures
    (is_refused c.all_levels-found.result (sym c.is_err.ensures.value ∙ c.if-is_err.true)) _ (c.fill.ensures.after (λ y h. h))
