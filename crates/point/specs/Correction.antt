-- Correction words: what is public of one level, and how a server uses it.
use Rattle.std.specs.Prelude.{ℕ, Bool, true, false, cond, List}
use Rattle.std.specs.Bool.{xor}
use Rattle.expander.specs.Expander.{xor_bytes}
use Rattle.point.specs.Scheme.{Scheme}
use Rattle.point.specs.Node.{Node, child}

-- The correction word of a level: seed correction, left and right bit correction, payload correction.
pub record Correction (A : Type 0) : Type 0 where
  pub seed : List ℕ
  pub left : Bool
  pub right : Bool
  pub payload : A

-- a child with the seed correction s and the bit correction t XORed in where its parent's control bit is 1
unfoldable pub corrected : Bool → List ℕ → Bool → Node → Node
corrected false s t m = m
corrected true s t m = record { seed = xor_bytes m.seed s; bit = xor m.bit t }

-- the child of a node on side x, corrected
unfoldable pub corrected_child : {A : Type 0} → Scheme A → Correction A → Bool → Node → Node
corrected_child S c x n = corrected n.bit c.seed (cond x c.right c.left) (child S n.seed x)
