use Prim.Native.Nat.{◌+◌, ◌-◌, ◌*◌, ◌≤◌}
use mathlib.Core.Path.{◌≡◌}
use mathlib.Core.Bool.{true}
use lib.ListN.{length, drop}
use Rattle.places.proofs.Places.{Grown}
use Rattle.kept.specs.Kept.{reaches_by}
use Rattle.query.specs.Query.{packs, parts, spares_zero}
use Rattle.kept.proofs.Onward.{onward}
use Rattle.combine.specs.Combine.{passing}
use Rattle.combine.proofs.Pieces.{kept_from}
use Rattle.combine.proofs.totals.Round.write_kept.Given as goal

abbrev pub invariant-loop-i : goal.invariant-loop-i
invariant-loop-i l =
    let s0 = l.self.share0.now in
    let s1 = l.self.share1.now in
    (6 + l.i * l.w + (l.count - l.i) * l.w ≤ length l.q)
    × (spares_zero l.len (parts l.w (l.count - l.i) (drop (6 + l.i * l.w) l.q)) ≡ true)
    × Grown l.initial.out l.at l.out l.here (packs (onward l.last (kept_from (reaches_by l.self.rule) l.len l.q s0 s1 (l.count - l.i) (6 + l.i * l.w) (8 * l.i)))) (packs (onward l.last (passing (reaches_by l.self.rule) l.q s0 s1)))
