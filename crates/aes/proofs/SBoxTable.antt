-- The S-box as a table is the affine map at each of the 256 inverses.
use mathlib.Core.Path.{◌≡◌, ap, ◌∙◌}
use mathlib.Core.List.{map}
use Prim.Native.Nat.{ℕ, ◌<◌}
use lib.ListN.{get_or}
use Rattle.gf256.specs.Field.{inverse}
use Rattle.aes.specs.Fips197.{affine, s_box, s_box_table}
use Rattle.gf256.proofs.Inverse.{inverses, inverses_rule}
use Rattle.gf256.proofs.Lists.{get_d_tabulate, map_tabulate}

pub table_rule : map affine inverses ≡ s_box_table
unfolding s_box_table s_box
table_rule = ap (map affine) inverses_rule ∙ map_tabulate affine inverse 256

pub entry : (k : ℕ) → k < 256 → get_or s_box_table k 0 ≡ s_box k
unfolding s_box_table
entry k h = get_d_tabulate s_box 256 k h
