use Prim.Native.Nat.{◌+◌, ◌-◌, ◌*◌, ◌≤◌}
use Rattle.places.proofs.Places.{Grown}
use Rattle.query.specs.Query.{packs, children}
use Rattle.kept.specs.Kept.{reaches_by}
use Rattle.tree.proofs.Levels.{reaching_at}
use Rattle.levels.specs.LevelRead.{reaching_in}
use Rattle.levels.proofs.children.write_children.Given as goal

abbrev pub invariant-loop-i : goal.invariant-loop-i
invariant-loop-i l =
    let v = l.level in
    (v.from + l.i * l.w + (v.count - l.i) * l.w ≤ l.at)
    × Grown l.initial.area l.at l.area l.here (packs (children (reaching_at (reaches_by l.rule) v.k l.initial.area (v.count - l.i) (v.from + l.i * l.w) (v.place + 8 * l.i)))) (packs (children (reaching_in l.rule v l.initial.area)))
