-- `space::level_length` meets its contract.
use Prim.Native.Nat.{◌+◌, ◌*◌, ◌≤◌}
use native.Mathlib.Omega.{arith}
use mathlib.Core.Path.{sym}
use borrow.Author.Rules.{rules}
use Rattle.space.proofs.Levels.{level_none, level_some, level_most}
use Rattle.space.proofs.level_length.Goals as goal
use Rattle.space.proofs.level_length.Goals.{After-packed_length}

-- what the prefixes take
most : (c : After-packed_length) → c.args.count * (c.packed_length.result + 8) ≤ 5242800
most c = level_most _ _ (omega arith) (omega arith)

pub returns-then-count-lt1 : goal.returns-then-count-lt1
returns-then-count-lt1 c = (sym (level_none _ _ c.if-count-lt1.true), search rules)

pub overflow_mul-result : goal.overflow_mul-result
overflow_mul-result c = omega (arith, most c)

pub overflow_add-result-2 : goal.overflow_add-result-2
overflow_add-result-2 c = omega (arith, most c)

pub returns : goal.returns
returns c =
    (rw c.packed_length.ensures (sym (level_some c.args.k c.args.count (omega arith))), omega (arith, most c))
