-- Whole numbers as group numbers, and group numbers read as signed ones: document 02, [1].
use Rattle.std.specs.Prelude.{ℕ, suc, ◌-◌, ◌/◌, ◌%◌, cond, ℤ, pos, negsuc, leb}
use Rattle.std.proofs.Math.IntN.{sub_ℕ}
use Rattle.group.specs.Modular.{modular}

-- a whole number modulo m
unfoldable pub embed : ℕ → ℤ → ℕ
embed m (pos k) = k % m
embed m (negsuc k) = (modular m).neg (suc k)

-- a number up to (m − 1) ÷ 2 reads as itself, a larger one as itself minus m
unfoldable pub signed_in : ℕ → ℕ → ℤ
signed_in m x = cond (leb x ((m - 1) / 2)) (pos x) (sub_ℕ x m)
