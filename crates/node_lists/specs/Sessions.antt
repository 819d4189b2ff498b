-- Document 02, [2]: 'reports, expander and server stay the same throughout'.
use Rattle.std.specs.Prelude.{ℕ, ◌*◌, ◌≡◌, Bool, List, [], length, take}
use Rattle.bits.specs.Strings.{Bits}
use Rattle.calls.specs.Outcome.{Outcome}
use Rattle.expander.specs.declared.Expander.{Expander}
use Rattle.point.specs.Node.{Node}
use Rattle.point.specs.Evaluation.{node_at}
use Rattle.point.specs.PublicShare.{read_correction}
use Rattle.point.specs.Instance.{scheme}
use Rattle.query.specs.Query.{prefixes_of}
use Rattle.report_sums.specs.Reports.{seed_at, public_share_at}
use Rattle.idpf.specs.Share.{share_outcome}
use Rattle.node_lists.specs.NodeList.{share_count}
use Rattle.node_lists.specs.Roots.{roots}
use Rattle.node_lists.specs.ShareKept.{KeptLent, lent, kept_outcome, nodes_after}

-- What stays the same: a server's reports, with as many seeds as public shares, the expander and the server.
pub record Session : Type 0 where
  pub n : ℕ
  pub expander : ℕ
  pub server : Bool
  pub seeds : List ℕ
  pub shares : List ℕ
  pub as_many : length seeds ≡ 16 * share_count n shares

-- a call of the session, with its last query, its new one, the nodes and the space
abbrev pub call : Session → List ℕ → List ℕ → List Node → List ℕ → KeptLent
call s last query nodes area = lent s.n s.expander s.server s.shares last query nodes area

-- what `share` answers to a query in `room` bytes of space, by the walk from the root
abbrev pub walked : Session → List ℕ → ℕ → Outcome
walked s query room = share_outcome s.n s.expander s.server s.seeds s.shares query room

-- the node of report i at the prefix p, by the walk from the root
abbrev pub walked_node : Session → Expander → ℕ → Bits → Node
walked_node s e i p = node_at (scheme e) (read_correction s.n (public_share_at s.n s.shares i)) (seed_at s.seeds i) s.server p

-- The nodes that a call may be given, with its last query: 'the list began at the roots, and each later call gets it as the accepted call before left
-- it, with that call's new query as its last'. Spare nodes are any, and may be more or fewer from call to call.
pub data Reached (s : Session) : List ℕ → List Node → Type 0 where
  -- at the roots: the first nodes, one for each report, are the root seeds with the server's bit
  at_roots : (nodes : List Node) → take (share_count s.n s.shares) nodes ≡ roots s.server s.seeds → Reached s [] nodes
  -- after an accepted call: as many nodes as reports × prefixes of its query are as it left them
  after : (last query : List ℕ) (nodes left : List Node) (area : List ℕ) → Reached s last nodes → (kept_outcome (call s last query nodes area)).number ≡ 0
      → take (share_count s.n s.shares * length (prefixes_of query)) left
      ≡ take (share_count s.n s.shares * length (prefixes_of query)) (nodes_after (call s last query nodes area))
      → Reached s query left
