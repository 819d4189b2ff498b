-- The turns by which a list of nodes goes one level down in its own place: upwards over the new nodes, those that are read from further up; then
-- downwards, the others.
use Rattle.std.specs.Prelude.{ℕ, zero, suc, ◌+◌, ◌-◌, ◌*◌, ◌/◌, ◌%◌, Bool, false, cond, List, get_or, set, replicate, eqb, ltb}
use Rattle.std.specs.Bool.{beq}
use Rattle.places.specs.Places.{window, put_at, overlay}
use Rattle.numbers.specs.Numbers.{little, from_little}
use Rattle.bits.specs.Packing.{bits_of}
use Rattle.group.specs.Modular.{field}
use Rattle.expander.specs.declared.Expander.{Expander}
use Rattle.point.specs.Node as point
use Rattle.point.specs.Correction.{Correction}
use Rattle.point.specs.Evaluation.{descend, share_below}
use Rattle.point.specs.PublicShare.{read_correction}
use Rattle.point.specs.Instance.{scheme}
use Rattle.query.specs.Query.{prefix_length, prefix_count}
use Rattle.query.specs.Prefix.{packed_prefix}
use Rattle.nodes.specs.declared.Node.{Node}
use Rattle.nodes.specs.NodeLayout.{node_of}
use Rattle.report_sums.specs.Reports.{public_share_at}
use Rattle.parents.specs.Lookup.{last_count, is_parent, looked_up}
use Rattle.node_lists.specs.NodeList.{share_count}
use Rattle.turns.specs.declared.Task.{Task}
use Rattle.turns.specs.declared.Place.{Place}

-- a node as the code's struct
abbrev pub struct_of : point.Node → Node
struct_of m = record { seed = m.seed; bit = m.bit }

-- ---- the task

-- that of a call in which no cause applies, with the expander that was chosen
abbrev pub task_under : Expander → ℕ → Bool → List ℕ → List ℕ → List ℕ → Task
task_under e n b shares last query = record {
  expander = e;
  levels = n;
  server = b;
  level = prefix_length query - 1;
  reports = share_count n shares;
  before = last_count last;
  after = prefix_count query;
}

-- the space when the task is made: the sums are zero
unfoldable pub cleared : Task → List ℕ → List ℕ
cleared t area = overlay (replicate (8 * t.after) 0) area

-- ---- a turn

-- nothing to do, with so many turns left
abbrev pub nowhere : ℕ → Place
nowhere left = record { left = left; report = 0; prefix = 0; parent = 0; due = false; source = 0; target = 0 }

-- the place with `left` turns left, the parent looked for from `hint` on; there are twice as many turns as new nodes
unfoldable pub place_for : Task → List ℕ → List ℕ → ℕ → ℕ → Place
place_for t last query left hint =
    let N = t.reports * t.after in
    let up = ltb N left in
    let target = cond up (N + N - left) (left - 1) in
    let report = target / t.after in
    let prefix = target % t.after in
    let parent = looked_up up (is_parent last (packed_prefix query prefix) t.level) t.before hint in
    let from = report * t.before + parent in
    let due = beq up (ltb target from) in
    let place : Place = record { left = left; report = report; prefix = prefix; parent = parent; due = due; source = cond due from target; target = target } in
    cond (eqb left 0) (nowhere left) (cond (eqb N 0) (nowhere left) place)

-- the first place
unfoldable pub first_place : Task → List ℕ → List ℕ → Place
first_place t last query = place_for t last query (2 * (t.reports * t.after)) 0

-- the next one
unfoldable pub next_place : Task → List ℕ → List ℕ → Place → Place
next_place t last query at = place_for t last query (at.left - 1) at.parent

-- the correction word, and the last bit, of a turn
abbrev pub turn_word : Task → List ℕ → Place → Correction ℕ
turn_word t shares at = read_correction t.levels (public_share_at t.levels shares at.report) t.level

abbrev pub turn_bit : Task → List ℕ → Place → Bool
turn_bit t query at = get_or (bits_of (packed_prefix query at.prefix)) t.level false

-- what a turn makes of the node at its source: where it is due, the node one step down
unfoldable pub turned_node : Task → List ℕ → List ℕ → Place → Node → Node
turned_node t shares query at m =
    cond at.due (struct_of (descend (scheme t.expander) (turn_word t shares at) (turn_bit t query at) (node_of m))) m

-- the sum at place j of the bytes with v added
unfoldable pub added_at : ℕ → ℕ → List ℕ → List ℕ
added_at j v area = put_at area (8 * j) (little 8 (field.add (from_little (window 8 (8 * j) area)) v))

-- what a turn makes of the sums: where it is due, the server's share is added to that of its prefix
unfoldable pub turned_sums : Task → List ℕ → List ℕ → Place → Node → List ℕ → List ℕ
turned_sums t shares query at m area =
    cond at.due (added_at at.prefix (share_below (scheme t.expander) t.server (turn_word t shares at) (turn_bit t query at) (node_of m)) area) area

-- ---- all turns

-- what stands for a node that is not there
abbrev pub no_struct : Node
no_struct = record { seed = replicate 16 0; bit = false }

module _ (t : Task) (shares last query : List ℕ) (p : Place) where
  -- the place after s turns
  unfoldable pub place_at : ℕ → Place
  place_at zero = p
  place_at (suc s) = next_place t last query (place_at s)

  -- the nodes after s turns
  unfoldable pub nodes_at : List Node → ℕ → List Node
  nodes_at l zero = l
  nodes_at l (suc s) = let at = place_at s in set (nodes_at l s) at.target (turned_node t shares query at (get_or (nodes_at l s) at.source no_struct))

  -- the sums after s turns
  unfoldable pub sums_at : List Node → List ℕ → ℕ → List ℕ
  sums_at l o zero = o
  sums_at l o (suc s) = let at = place_at s in turned_sums t shares query at (get_or (nodes_at l s) at.source no_struct) (sums_at l o s)
