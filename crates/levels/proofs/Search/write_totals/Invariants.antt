use Prim.Native.Nat.{◌+◌, ◌-◌, ◌*◌}
use Rattle.kept.specs.Kept.{reaches_by}
use Rattle.tree.specs.SearchRule.{is_kept}
use Rattle.levels.specs.Levels.{total_in}
use Rattle.levels.proofs.LevelTotals.{Standing}
use Rattle.levels.proofs.Search.write_totals.Given as goal

abbrev pub invariant-loop-i : goal.invariant-loop-i
invariant-loop-i l =
    let v = l.level in
    Standing (total_in l.self) (is_kept (reaches_by l.self.rule) (total_in l.self)) v.k l.w l.initial.area v.count v.from v.place
    l.area (v.count - 2 * l.i) (v.from + 2 * l.i * l.w) (v.place + 16 * l.i) l.kept
