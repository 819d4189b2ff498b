use Prim.Native.Nat.{◌+◌, ◌-◌, ◌*◌, ◌≤◌}
use lib.ListN.{length, drop}
use Rattle.bits.specs.Packing.{packed_length}
use Rattle.places.proofs.Places.{Grown}
use Rattle.query.specs.Query.{packs, parts}
use Rattle.kept.specs.Kept.{reaches_by}
use Rattle.tree.proofs.Levels.{reaching_at, Packed}
use Rattle.levels.specs.LevelRead.{reaching_in}
use Rattle.levels.proofs.heavy.write_list.Given as goal

abbrev pub invariant-loop-i : goal.invariant-loop-i
invariant-loop-i l =
    let v = l.level in
    (v.from + l.i * l.w + (v.count - l.i) * l.w ≤ length l.area)
    × Packed v.k (parts (packed_length v.k) (v.count - l.i) (drop (v.from + l.i * l.w) l.area))
    × Grown l.initial.list 0 l.list l.here (packs (reaching_at (reaches_by l.rule) v.k l.area (v.count - l.i) (v.from + l.i * l.w) (v.place + 8 * l.i))) (packs (reaching_in l.rule v l.area))
