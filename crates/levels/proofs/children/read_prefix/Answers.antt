-- `levels::children::read_prefix` meets its contract.
use Prim.Native.Nat.{◌+◌, ◌-◌}
use native.Mathlib.Omega.{arith}
use mathlib.Core.Path.{◌≡◌, ◌∙◌}
use Rattle.levels.proofs.children.read_prefix.Goals as goal

pub returns : goal.returns
returns c =
    let a = c.args in
    let n : a.from + a.w - a.from ≡ a.w = omega arith in
    c.copy.ensures ∙ rw n
