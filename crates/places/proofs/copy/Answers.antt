-- `places::copy` meets its contract. Outside nothing is written. The loop's invariant: the first i bytes are pasted.
use Prim.Native.Nat.{◌+◌, ◌≤◌}
use native.Mathlib.Numerals.{add-one}
use native.Mathlib.Omega.{arith}
use mathlib.Core.Path.{◌≡◌, refl, sym, ◌∙◌}
use lib.ListN.{length, length-set}
use lib.Seq.{paste-zero, paste-suc, take-length}
use Rattle.places.proofs.Places.{put_at_inside}
use Rattle.places.proofs.Inside.{inside}
use Rattle.places.proofs.copy.Goals as goal
use Rattle.places.proofs.copy.Goals.{Else-not-within}

-- the places lie within
room : (c : Else-not-within) → c.args.at + length c.args.src.now ≤ length c.args.out.now
room c = inside _ _ _ _ c.within.ensures c.if-not-within.false-raw

pub loop-i-init : goal.loop-i-init
loop-i-init c =
    let a = c.args in
    (refl, paste-zero a.out.now a.at a.src.now)

pub overflow_add-out : goal.overflow_add-out
overflow_add-out c = omega (arith, room (goal.at.overflow_add-out c).Else-not-within)

pub bounds-out-at : goal.bounds-out-at
bounds-out-at c = omega (arith, room (goal.at.bounds-out-at c).Else-not-within)

pub loop-i-preserved : goal.loop-i-preserved
loop-i-preserved c =
    let a = c.args in
    let l = c.loop-i in (
      simp length-set l.invariant.0,
      rw (l.invariant.1, add-one l.i) (paste-suc a.out.now a.at a.src.now l.i 0 (omega (arith, room (goal.at.loop-i-preserved c).Else-not-within)) (omega arith)),
    )

pub returns : goal.returns
returns c =
    let a = c.args in
    let e : c.loop-i.i ≡ length a.src.now = omega arith in
    c.loop-i.invariant.1
    ∙ rw (e, take-length a.src.now) (sym (put_at_inside a.out.now a.at a.src.now (omega (arith, room (goal.at.returns c).Else-not-within))))
