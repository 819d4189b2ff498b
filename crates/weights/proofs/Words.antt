-- Weights are the signed numbers of 16 bits.
use native.Mathlib.Omega.{arith}
use mathlib.Core.Logic.{◌↔◌}
use lib.Dec.{le→leb, leb→le}
use lib.IntN.{ℤ, pos, negsuc}
use lib.Signed.{le_z_yes}
use mir.Syntax.{w16}
use mir.Val.{SFits}
use Rattle.weights.specs.Weights.{IsWeight}

-- What an argument of type `i16` can be is a weight, and nothing else is.
pub weight_word : (w : ℤ) → IsWeight w ↔ SFits w16 w
weight_word (pos k) = (
  λ h. record { sfits = omega (arith, leb→le k 32767 h.most.le) },
  λ f. record { least = le_z_yes tt; most = le_z_yes (le→leb k 32767 (omega (arith, f.sfits))) },
)
weight_word (negsuc k) = (
  λ h. record { sfits = omega (arith, leb→le k 32767 h.least.le) },
  λ f. record { least = le_z_yes (le→leb k 32767 (omega (arith, f.sfits))); most = le_z_yes tt },
)
