-- `keymaker::control_byte` meets its contract. What stands below the two bits is less than their place value.
use Prim.Native.Nat.{◌+◌, ◌*◌, ◌%◌, ◌<◌}
use native.Mathlib.Omega.{arith}
use Rattle.keymaker.proofs.KeyControl.{digit_of, byte_fits}
use Rattle.keymaker.proofs.control_byte.Goals as goal
use Rattle.keymaker.proofs.control_byte.Goals.{After-from-2}

-- the byte fits
fits : (c : After-from-2) → c.args.old % c.place_value-w.result + (c.from.result + 2 * c.from-2.result) * c.place_value-w.result < 256
fits c =
    let w = c.place_value-w in
    byte_fits c.args.old w.result (c.from.result + 2 * c.from-2.result) w.ensures.1 w.ensures.2
    (omega (arith, digit_of c.args.left c.from.ensures, digit_of c.args.right c.from-2.ensures))

pub overflow_mul-result : goal.overflow_mul-result
overflow_mul-result c = let f = fits (goal.at.overflow_mul-result c).After-from-2 in omega arith

pub overflow_add-result : goal.overflow_add-result
overflow_add-result c = let f = fits (goal.at.overflow_add-result c).After-from-2 in rw c.from-3.ensures (omega arith)

pub overflow_cast-result : goal.overflow_cast-result
overflow_cast-result c = let f = fits (goal.at.overflow_cast-result c).After-from-2 in rw c.from-3.ensures (omega arith)

pub returns : goal.returns
returns c = rw (c.from-3.ensures, c.place_value-w.ensures.0, (digit_of c.args.left c.from.ensures).0, (digit_of c.args.right c.from-2.ensures).0)
