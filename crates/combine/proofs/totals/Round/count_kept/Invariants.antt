use Prim.Native.Nat.{◌+◌, ◌-◌, ◌*◌, ◌/◌, ◌≤◌}
use mathlib.Core.Path.{◌≡◌}
use lib.ListN.{length}
use Rattle.places.specs.Lists.{how_many}
use Rattle.kept.specs.Kept.{reaches_by}
use Rattle.shares.proofs.Numbers.{added_from}
use Rattle.combine.specs.Combine.{share_totals}
use Rattle.combine.proofs.totals.Round.count_kept.Given as goal

abbrev pub invariant-loop-i : goal.invariant-loop-i
invariant-loop-i l =
    let s0 = l.self.share0.now in
    let s1 = l.self.share1.now in
    (how_many (reaches_by l.self.rule) (share_totals s0 s1) ≡ l.count + how_many (reaches_by l.self.rule) (added_from s0 s1 (length s0 / 8 - l.i) (8 * l.i)))
    × (l.count ≤ l.i)
