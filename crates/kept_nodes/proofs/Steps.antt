-- The folds over the turns, one turn at a time.
use mathlib.Core.Path.{◌≡◌, refl, ap}
use Prim.Native.Nat.{ℕ, suc}
use mathlib.Core.Bool.{Bool}
use mathlib.Core.List.{List}
use lib.ListN.{get_or, set}
use Rattle.nodes.specs.declared.Node.{Node}
use Rattle.turns.specs.declared.Task.{Task}
use Rattle.turns.specs.declared.Place.{Place}
use Rattle.turns.specs.Turns.{turned_node, turned_sums, next_place, no_struct, place_at, nodes_at, sums_at}
use Rattle.node_lists.specs.Filling.{root_node, filled_at}

-- ---- the turns of a query

module _ (t : Task) (shares last query : List ℕ) (p : Place) (l : List Node) where
  pub nodes_more : (s : ℕ) (v : Node) → v ≡ turned_node t shares query (place_at t shares last query p s) (get_or (nodes_at t shares last query p l s) (place_at t shares last query p s).source no_struct) → set (nodes_at t shares last query p l s) (place_at t shares last query p s).target v ≡ nodes_at t shares last query p l (suc s)
  unfolding nodes_at
  nodes_more s v e = ap (set (nodes_at t shares last query p l s) (place_at t shares last query p s).target) e

  pub nodes_none : l ≡ nodes_at t shares last query p l 0
  unfolding nodes_at
  nodes_none = refl

  pub place_more : (s : ℕ) (r : Place) → r ≡ next_place t last query (place_at t shares last query p s) → r ≡ place_at t shares last query p (suc s)
  unfolding place_at
  place_more s r e = e

  pub place_none : p ≡ place_at t shares last query p 0
  unfolding place_at
  place_none = refl

  pub sums_more : (o : List ℕ) (s : ℕ) (zs : List ℕ) → zs ≡ turned_sums t shares query (place_at t shares last query p s) (get_or (nodes_at t shares last query p l s) (place_at t shares last query p s).source no_struct) (sums_at t shares last query p l o s) → zs ≡ sums_at t shares last query p l o (suc s)
  unfolding sums_at
  sums_more o s zs e = e

  pub sums_none : (o : List ℕ) → o ≡ sums_at t shares last query p l o 0
  unfolding sums_at
  sums_none o = refl

-- ---- the roots

module _ (b : Bool) (seeds : List ℕ) (l : List Node) where
  pub filled_more : (s : ℕ) (v : Node) → v ≡ root_node b seeds s → set (filled_at b seeds l s) s v ≡ filled_at b seeds l (suc s)
  unfolding filled_at
  filled_more s v e = ap (set (filled_at b seeds l s) s) e

  pub filled_none : l ≡ filled_at b seeds l 0
  unfolding filled_at
  filled_none = refl
