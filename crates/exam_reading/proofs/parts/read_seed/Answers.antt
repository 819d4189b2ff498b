-- `exam_reading::parts::read_seed` meets its contract. The loop's invariant: the bytes read, and those that are left, are the seed.
use Prim.Native.Nat.{ℕ, ◌+◌, ◌-◌, ◌*◌}
use native.Mathlib.Numerals.{add-one}
use native.Mathlib.Omega.{arith}
use mathlib.Core.Path.{◌≡◌, refl, ◌∙◌}
use mathlib.Core.List.{List}
use lib.ListN.{take, drop, length-set}
use lib.Seq.{take_all}
use Rattle.exam_text.specs.Reader.{bytes_read}
use Rattle.exam_text.proofs.Values.{bytes_step, high_hex, low_hex, rest_hex, seed_more, seed_whole}
use Rattle.exam_reading.proofs.parts.read_seed.Goals as goal

pub loop-i-init : goal.loop-i-init
loop-i-init c =
    let e : take 32 c.args.digits.now ≡ c.args.digits.now = take_all 32 c.args.digits.now (omega arith) in
    rw e (refl, c.requires.1, refl)

pub hex_value-requires : goal.hex_value-requires
hex_value-requires c =
    let l = c.loop-i in
    high_hex c.args.digits.now (2 * l.i) (32 - 2 * l.i) (omega arith) (omega arith) l.invariant.1

pub hex_value-requires-in-loop-i : goal.hex_value-requires-in-loop-i
hex_value-requires-in-loop-i c =
    let l = c.loop-i in
    low_hex c.args.digits.now (2 * l.i) (32 - 2 * l.i) (omega arith) (omega arith) l.invariant.1

pub loop-i-preserved : goal.loop-i-preserved
loop-i-preserved c =
    let ds = c.args.digits.now in
    let l = c.loop-i in
    let rest : List ℕ = bytes_read (take (32 - 2 * l.i - 2) (drop (2 * l.i + 2) ds)) in
    let p : 32 - 2 * (l.i + 1) ≡ 32 - 2 * l.i - 2 = omega arith in
    let q : 2 * (l.i + 1) ≡ 2 * l.i + 2 = omega arith in
    rw (p, q) (
      simp length-set l.invariant.0,
      rest_hex ds (2 * l.i) (32 - 2 * l.i) (omega arith) (omega arith) l.invariant.1,
      rw (add-one l.i)
          (seed_more l.seed l.i (16 * c.hex_value.result + c.hex_value-in-loop-i.result) rest (omega arith)
          ∙ rw (c.hex_value.ensures.0, c.hex_value-in-loop-i.ensures.0, ← bytes_step ds (2 * l.i) (32 - 2 * l.i) (omega arith) (omega arith)) l.invariant.2),
    )

pub returns : goal.returns
returns c =
    let l = c.loop-i in
    seed_whole l.seed l.i (32 - 2 * l.i) (drop (2 * l.i) c.args.digits.now) _ (omega arith) (omega arith) l.invariant.2
