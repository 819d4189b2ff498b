-- `exam_reports::fit` meets its contract. The tests are one, by cases.
use Prim.Native.Nat.{◌*◌, ◌≤◌}
use native.Mathlib.Nat.{mul-le-mul_left}
use native.Mathlib.Omega.{arith}
use Rattle.exam_reports.proofs.fit.Goals as goal

pub overflow_mul-result : goal.overflow_mul-result
overflow_mul-result c =
    let w = c.public_share_length.result in
    let most : w * c.from.result ≤ w * 32 = mul-le-mul_left w (omega (arith, c.from.ensures, c.requires.1)) in
    omega (arith, most, c.public_share_length.ensures, c.requires.0)
