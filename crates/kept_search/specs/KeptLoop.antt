-- A search played call by call, where each server keeps its nodes from one query to the next: document 02, [2].
use Rattle.std.specs.Prelude.{ℕ, zero, suc, ◌*◌, Bool, true, false, cond, List, [], length, replicate}
use Rattle.group.specs.Modular.{field}
use Rattle.point.specs.Node.{Node}
use Rattle.query.specs.Query.{prefix_length, prefix_count}
use Rattle.shares.specs.ShareNumbers.{numbers, added}
use Rattle.combine.specs.Answer.{answer_bytes}
use Rattle.combine.specs.Combine.{combine_answer, combine_outcome, combine_kind}
use Rattle.search.specs.Search.{Lent, threshold_of}
use Rattle.node_lists.specs.Roots.{roots_after}
use Rattle.node_lists.specs.ShareKept.{KeptLent, lent, kept_outcome, nodes_after}
use Rattle.honest.specs.Loop.{Played, round, over, follow}

-- What the servers keep between two rounds: the last query, and server b's nodes.
pub record Keeping : Type 0 where
  pub last : List ℕ
  pub nodes : Bool → List Node

module _ (s : Lent) where
  -- both lists begun at the roots
  abbrev pub begun : (Bool → List Node) → Keeping
  begun nodes = record { last = []; nodes = λ b. roots_after b (cond b s.seeds1 s.seeds0) (nodes b) }

  -- server b's call for the query q, with space for 8 bytes a prefix; and its share, which is what it writes
  abbrev pub kept_call : Bool → Keeping → List ℕ → KeptLent
  kept_call b k q = lent s.n s.expander b (cond b s.shares1 s.shares0) k.last q (k.nodes b) (replicate (8 * prefix_count q) 0)

  abbrev pub kept_share_for : Bool → Keeping → List ℕ → List ℕ
  kept_share_for b k q = (kept_outcome (kept_call b k q)).written

  -- what is kept after both calls
  abbrev pub kept_on : Keeping → List ℕ → Keeping
  kept_on k q = record { last = q; nodes = λ b. nodes_after (kept_call b k q) }

  -- the round for the query q with both shares x and y, combined as they are with `share`, and then what `play` leaves
  abbrev pub round_with : List ℕ → List ℕ → List ℕ → (List ℕ → Played) → Played
  round_with q x y play =
      let room = length (answer_bytes (prefix_length q) (combine_answer s.n s.weighted (threshold_of s) q x y)) in
      round q (added field (numbers x) (numbers y))
      (follow play (combine_kind s.n s.weighted (threshold_of s) q x y room) (combine_outcome s.n s.weighted (threshold_of s) q x y room).written)

  -- what at most m rounds leave, the first of them for the query q
  unfoldable pub kept_played : ℕ → Keeping → List ℕ → Played
  kept_played zero k q = over []
  kept_played (suc m) k q = round_with q (kept_share_for false k q) (kept_share_for true k q) (kept_played m (kept_on k q))
