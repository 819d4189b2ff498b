-- `exam_reading::parts::byte_read` meets its contract. The loop's invariant: the bits read are the first ones of the byte.
use Prim.Native.Nat.{suc, ◌+◌, ◌-◌, ◌*◌, ◌<◌}
use native.Mathlib.Numerals.{add-one}
use native.Mathlib.Omega.{arith}
use mathlib.Core.Path.{◌≡◌, refl, sym, ◌∙◌}
use mathlib.Core.Bool.{false}
use lib.ListN.{get_or, drop}
use Rattle.places.specs.Lists.{digit}
use Rattle.bits.specs.Strings.{Bits}
use Rattle.bits.specs.Packing.{value}
use Rattle.bits.proofs.Packed.{value_below}
use Rattle.exam_text.specs.Reader.{bits_read}
use Rattle.exam_text.proofs.Values.{byte_more, byte_fits, byte_whole}
use Rattle.exam_reading.proofs.parts.byte_read.Goals as goal
use Rattle.exam_reading.proofs.parts.byte_read.Goals.{In-loop-k}

-- one bit more fits
fits : (c : In-loop-k) → 2 * c.loop-k.x + digit (get_or (bits_read c.args.digits.now) c.loop-k.k false) < 256
fits c =
    let l = c.loop-k in
    let s : Bits = bits_read c.args.digits.now in
    let left = c.args.from + 8 - l.k in
    byte_fits (2 * l.x + digit (get_or s l.k false)) (left - 1) (value (left - 1) (drop (suc l.k) s))
    (omega (arith, byte_more l.x (digit (get_or s l.k false)) left s l.k (omega arith) refl, l.invariant, value_below 8 (drop c.args.from s)))

pub overflow_mul-x : goal.overflow_mul-x
overflow_mul-x c = omega (arith, fits c)

pub overflow_add-x : goal.overflow_add-x
overflow_add-x c = omega (arith, fits (goal.at.overflow_add-x c).In-loop-k, c.bit_read.ensures.0)

pub loop-k-preserved : goal.loop-k-preserved
loop-k-preserved c =
    let l = c.loop-k in
    let s : Bits = bits_read c.args.digits.now in
    let e : c.args.from + 8 - suc l.k ≡ c.args.from + 8 - l.k - 1 = omega arith in
    rw (add-one l.k, e) (byte_more l.x c.bit_read.result (c.args.from + 8 - l.k) s l.k (omega arith) c.bit_read.ensures.0 ∙ l.invariant)

pub returns : goal.returns
returns c =
    let l = c.loop-k in
    sym (byte_whole l.x (c.args.from + 8 - l.k) (drop l.k (bits_read c.args.digits.now)) (omega arith)) ∙ l.invariant
