-- The call `share_kept`: document 02, [2], a server's share from kept nodes.
use Rattle.std.specs.Prelude.{ℕ, ◌*◌, ◌%◌, ◌<◌, Bool, cond, not, ◌&&◌, ◌||◌, List, [], ◌∷◌, ◌≢◌, ◌⊎◌, length, eqb, ltb, Result, Ok, Err}
use Rattle.places.specs.Places.{overlay}
use Rattle.calls.specs.Bounds.{length_cause, expander_cause, reports_cause, space_cause}
use Rattle.calls.specs.Causes.{Cause, cause}
use Rattle.calls.specs.Outcome.{Outcome, judged}
use Rattle.calls.specs.Refusals.{number_of}
use Rattle.calls.specs.declared.Refusal.{Refusal}
use Rattle.calls.specs.declared.Reply.{Reply}
use Rattle.expander.specs.Expander.{choice_of, under}
use Rattle.point.specs.Node.{Node}
use Rattle.point.specs.PublicShare.{public_share_length}
use Rattle.query.specs.Query.{IsQuery, is_query, prefix_count, prefixes_of}
use Rattle.report_sums.specs.Checks.{PayloadTooLarge, payload_too_large, SpareBitsSet, spare_bits_set}
use Rattle.parents.specs.Parents.{IsLast, is_last, last_prefixes, ParentMissing, parent_missing}
use Rattle.node_lists.specs.NodeList.{share_count, new_nodes, kept_share}

-- What a server is lent: its nodes and the space for its share as they are at entry.
pub record KeptLent : Type 0 where
  pub n : ℕ
  pub expander : ℕ
  pub server : Bool
  pub shares : List ℕ
  pub last : List ℕ
  pub query : List ℕ
  pub nodes : List Node
  pub area : List ℕ

abbrev pub lent : ℕ → ℕ → Bool → List ℕ → List ℕ → List ℕ → List Node → List ℕ → KeptLent
lent n e b shares last query nodes area =
    record { n = n; expander = e; server = b; shares = shares; last = last; query = query; nodes = nodes; area = area }

-- fewer nodes are lent than reports × prefixes of the last or of the new query
abbrev pub TooFewNodes : ℕ → List ℕ → List ℕ → ℕ → Type 0
TooFewNodes reports last query count = (count < reports * length (last_prefixes last)) ⊎ (count < reports * length (prefixes_of query))

abbrev pub too_few_nodes : ℕ → List ℕ → List ℕ → ℕ → Bool
too_few_nodes reports last query count = ltb count (reports * length (last_prefixes last)) || ltb count (reports * length (prefixes_of query))

-- the causes in their order, where `count` nodes and `room` bytes are lent
abbrev pub kept_causes : ℕ → ℕ → List ℕ → List ℕ → List ℕ → ℕ → ℕ → List Cause
kept_causes n e shares last query count room =
    length_cause n
    ∷ expander_cause e
    ∷ cause 4 (length shares % public_share_length n ≢ 0) (not (eqb (length shares % public_share_length n) 0))
    ∷ reports_cause (share_count n shares)
    ∷ cause 6 (PayloadTooLarge n (share_count n shares) shares) (payload_too_large n (share_count n shares) shares)
    ∷ cause 7 (SpareBitsSet n (share_count n shares) shares) (spare_bits_set n (share_count n shares) shares)
    ∷ cause 9 ((IsLast n last → ⊥) ⊎ (IsQuery n query → ⊥)) (not (is_last n last && is_query n query))
    ∷ cause 13 (TooFewNodes (share_count n shares) last query count) (too_few_nodes (share_count n shares) last query count)
    ∷ cause 14 (ParentMissing last query) (parent_missing last query)
    ∷ space_cause (8 * prefix_count query) room
    ∷ []

module _ (s : KeptLent) where
  -- the causes of this call
  abbrev pub causes_of : List Cause
  causes_of = kept_causes s.n s.expander s.shares s.last s.query (length s.nodes) (length s.area)

  -- the outcome: where no cause applies, the share
  unfoldable pub kept_outcome : Outcome
  kept_outcome = judged causes_of (under (choice_of s.expander) (λ e. kept_share s.n s.shares s.last s.nodes e s.server s.query))

  -- the lent nodes at exit: where no cause applies, the new ones stand in the place of as many, and spare ones are as they were
  unfoldable pub nodes_after : List Node
  nodes_after =
      overlay (cond (eqb kept_outcome.number 0) (under (choice_of s.expander) (λ e. new_nodes s.n s.shares s.last s.nodes e s.query)) []) s.nodes

-- What is returned, and the lent space and nodes at exit.
pub record KeptExit : Type 0 where
  pub number : ℕ
  pub length : ℕ
  pub area : List ℕ
  pub nodes : List Node

abbrev pub kept_exit : KeptLent → KeptExit
kept_exit s = record {
  number = (kept_outcome s).number;
  length = length (kept_outcome s).written;
  area = overlay (kept_outcome s).written s.area;
  nodes = nodes_after s;
}

-- how many bytes were written, or the refusal, and the space and the nodes as they were left
abbrev pub kept_answered : Result ℕ Refusal → List ℕ → List Node → KeptExit
kept_answered (Ok length) area nodes = record { number = 0; length = length; area = area; nodes = nodes }
kept_answered (Err refusal) area nodes = record { number = number_of refusal; length = 0; area = area; nodes = nodes }

-- the same as C is told
abbrev pub kept_left : Reply → List ℕ → List Node → KeptExit
kept_left r area nodes = record { number = r.number; length = r.length; area = area; nodes = nodes }
