-- `exam_reading::read_parts` meets its contract.
use Prim.Native.Nat.{◌+◌, ◌-◌}
use native.Mathlib.Omega.{arith}
use mathlib.Core.Path.{◌≡◌}
use lib.ListN.{drop, length-drop}
use lib.Seq.{length-take-le}
use Rattle.exam_text.specs.Reader.{line_of}
use Rattle.exam_text.proofs.LineTests.{seed0_hex, seed1_hex}
use Rattle.exam_reading.proofs.read_parts.Goals as goal

pub read_seed-requires : goal.read_seed-requires
read_seed-requires c =
    let a = c.args in
    let e : a.n + 33 - (a.n + 1) ≡ 32 = omega arith in
    rw e (length-take-le 32 (drop (a.n + 1) a.line.now) (omega (arith, length-drop (a.n + 1) a.line.now)), seed0_hex a.n a.line.now c.requires.1)

pub read_seed-requires-2 : goal.read_seed-requires-2
read_seed-requires-2 c =
    let a = c.args in
    let e : a.n + 66 - (a.n + 34) ≡ 32 = omega arith in
    rw e (length-take-le 32 (drop (a.n + 34) a.line.now) (omega (arith, length-drop (a.n + 34) a.line.now)), seed1_hex a.n a.line.now c.requires.1)

pub returns : goal.returns
unfolding line_of
returns c =
    let a = c.args in
    let e : a.n + 33 - (a.n + 1) ≡ 32 = omega arith in
    let f : a.n + 66 - (a.n + 34) ≡ 32 = omega arith in
    record { string = c.read_string.ensures; seeds = (rw e at c.read_seed.ensures, rw f at c.read_seed-2.ensures) }
