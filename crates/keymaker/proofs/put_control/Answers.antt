-- `keymaker::put_control` meets its contract.
use mathlib.Core.Path.{ap}
use Prim.Native.Nat.{ℕ, ◌/◌}
use lib.ListN.{set}
use Rattle.keymaker.proofs.put_control.Goals as goal

pub returns : goal.returns
returns c = ap (λ (x : ℕ). set c.args.out.now (c.args.k / 4) x) c.control_byte.ensures
