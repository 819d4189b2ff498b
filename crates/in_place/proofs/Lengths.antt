-- What every task's turns keep: how many are left, and how many nodes and bytes there are.
use Prim.Native.Nat.{ℕ, zero, suc, ◌*◌}
use mathlib.Core.Path.{◌≡◌, refl, ◌∙◌}
use mathlib.Core.Bool.{Bool, true, false, cond}
use mathlib.Core.List.{List}
use lib.ListN.{length, length-set}
use lib.Dec.{eqb}
use Rattle.nodes.specs.declared.Node.{Node}
use Rattle.turns.specs.declared.Task.{Task}
use Rattle.turns.specs.declared.Place.{Place}
use Rattle.turns.specs.Turns.{nowhere, place_for, first_place, nodes_at}

-- either way the turns left are the same
either_left : (left : ℕ) (x : Place) → x.left ≡ left → (a b : Bool) → (cond a (nowhere left) (cond b (nowhere left) x)).left ≡ left
either_left left x h true b = refl
either_left left x h false true = refl
either_left left x h false false = h

-- the turns left are those that were asked for
pub placed_left : (t : Task) (last query : List ℕ) (left hint : ℕ) → (place_for t last query left hint).left ≡ left
unfolding place_for
placed_left t last query left hint = either_left left _ refl (eqb left 0) (eqb (t.reports * t.after) 0)

pub first_left : (t : Task) (last query : List ℕ) → (first_place t last query).left ≡ 2 * (t.reports * t.after)
unfolding first_place
first_left t last query = placed_left t last query (2 * (t.reports * t.after)) 0

module _ (t : Task) (shares last query : List ℕ) (p : Place) where
  pub nodes_length : (l : List Node) (s : ℕ) → length (nodes_at t shares last query p l s) ≡ length l
  unfolding nodes_at
  nodes_length l zero = refl
  nodes_length l (suc s) = length-set (nodes_at t shares last query p l s) _ _ ∙ nodes_length l s
