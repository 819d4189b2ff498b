-- A total that reads as itself is kept in a weighted search exactly where it is in one that is not.
use Prim.Native.Nat.{ℕ, ◌-◌, ◌/◌, ◌≤◌}
use native.Mathlib.Omega.{arith}
use mathlib.Core.Path.{◌≡◌, refl, ◌∙◌}
use mathlib.Core.Bool.{Bool, true, false}
use borrow.Author.Tests.{le-leb}
use Rattle.group.specs.Modular.{modulus}
use Rattle.signed.proofs.Embedding.{reads_at_least}
use Rattle.kept.specs.Kept.{reaches, reaches_as}

pub reaches_either : (weighted : Bool) (t x : ℕ) → x ≤ (modulus - 1) / 2 → reaches_as weighted t x ≡ reaches t x
reaches_either false t x h = refl
reaches_either true t x h = reads_at_least modulus x t (omega arith) ∙ rw (le-leb x ((modulus - 1) / 2) h)
