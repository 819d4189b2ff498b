-- `keymaker::place_value` meets its contract.
use Prim.Native.Nat.{◌*◌, ◌%◌, ◌^◌, ◌≤◌}
use native.Mathlib.Omega.{arith}
use lib.Pow.{pow_pos, pow_mono}
use Rattle.keymaker.proofs.place_value.Goals as goal

pub returns : goal.returns
returns c =
    let place = 2 * (c.args.k % 4) in
    let small : 2 ^ place ≤ 2 ^ 6 = pow_mono {i = place} {j = 6} (omega arith) in
    (omega arith, omega (arith, pow_pos place), omega arith)
