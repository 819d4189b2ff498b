-- Document 02, [2]: a list of nodes, and the nodes and shares one level down from it.
use Rattle.std.specs.Prelude.{ℕ, zero, suc, ◌+◌, ◌-◌, ◌*◌, ◌/◌, Bool, false, List, [], ◌++◌, map, length, get_or}
use Rattle.bits.specs.Strings.{Bits}
use Rattle.group.specs.Modular.{field}
use Rattle.expander.specs.declared.Expander.{Expander}
use Rattle.point.specs.Node.{Node}
use Rattle.point.specs.Correction.{Correction}
use Rattle.point.specs.Evaluation.{descend, share_below}
use Rattle.point.specs.PublicShare.{public_share_length, read_correction}
use Rattle.point.specs.Instance.{scheme}
use Rattle.query.specs.Query.{prefixes_of}
use Rattle.tree.specs.SearchRule.{totals}
use Rattle.report_sums.specs.Reports.{public_share_at, all_count, sum_where}
use Rattle.parents.specs.Parents.{last_prefixes, parent, last_bit, place_in}

-- how many reports the public shares are of; 0 where n = 0, as a number divided by 0 is 0
abbrev pub share_count : ℕ → List ℕ → ℕ
share_count n shares = length shares / public_share_length n

-- 'Nodes stand report by report, prefixes in query order': f i q for each report i below m, and for each prefix q
unfoldable pub report_by_report : ℕ → (ℕ → Bits → Node) → List Bits → List Node
report_by_report zero f qs = []
report_by_report (suc m) f qs = report_by_report m f qs ++ map (f m) qs

-- what stands for a node that is not there
abbrev pub no_node : Node
no_node = record { seed = []; bit = false }

-- the node of report i at a prefix p of the last query, of those that are kept there
unfoldable pub kept_node : List ℕ → List Node → ℕ → Bits → Node
kept_node last nodes i p = get_or nodes (i * length (last_prefixes last) + place_in p (last_prefixes last)) no_node

-- Reports of n bits with these public shares.
module _ (n : ℕ) (shares : List ℕ) where
  -- the correction word of report i for the last bit of q
  unfoldable pub word_for : ℕ → Bits → Correction ℕ
  word_for i q = read_correction n (public_share_at n shares i) (length q - 1)

  -- The nodes that are kept at the last query.
  module _ (last : List ℕ) (nodes : List Node) (e : Expander) where
    -- the node of report i at the prefix q: one step down from the kept one at its parent
    unfoldable pub node_below : ℕ → Bits → Node
    node_below i q = descend (scheme e) (word_for i q) (last_bit q) (kept_node last nodes i (parent q))

    -- server b's share of report i there
    unfoldable pub share_from : Bool → ℕ → Bits → ℕ
    share_from b i q = share_below (scheme e) b (word_for i q) (last_bit q) (kept_node last nodes i (parent q))

    -- the nodes at the prefixes of the new query
    unfoldable pub new_nodes : List ℕ → List Node
    new_nodes query = report_by_report (share_count n shares) node_below (prefixes_of query)

    -- server b's share for it: for each prefix in order the sum over all reports, 8 bytes each
    unfoldable pub kept_share : Bool → List ℕ → List ℕ
    kept_share b query = totals (λ (q : Bits). sum_where field all_count (share_count n shares) (λ (i : ℕ). share_from b i q)) (prefixes_of query)
