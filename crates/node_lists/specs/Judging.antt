-- The causes of `share_kept` in the two groups in which the code judges them.
use Rattle.std.specs.Prelude.{ℕ, ◌*◌, ◌%◌, not, ◌&&◌, List, [], ◌∷◌, ◌≢◌, ◌⊎◌, length, eqb}
use Rattle.calls.specs.Bounds.{length_cause, expander_cause, reports_cause, space_cause}
use Rattle.calls.specs.Causes.{Cause, cause}
use Rattle.point.specs.PublicShare.{public_share_length}
use Rattle.query.specs.Query.{IsQuery, is_query, prefix_count}
use Rattle.report_sums.specs.Checks.{PayloadTooLarge, payload_too_large, SpareBitsSet, spare_bits_set}
use Rattle.parents.specs.Parents.{IsLast, is_last, ParentMissing, parent_missing}
use Rattle.node_lists.specs.NodeList.{share_count}
use Rattle.node_lists.specs.ShareKept.{TooFewNodes, too_few_nodes}

-- the causes of the settings and the reports
abbrev pub report_causes : ℕ → ℕ → List ℕ → List Cause
report_causes n e shares =
    length_cause n
    ∷ expander_cause e
    ∷ cause 4 (length shares % public_share_length n ≢ 0) (not (eqb (length shares % public_share_length n) 0))
    ∷ reports_cause (share_count n shares)
    ∷ cause 6 (PayloadTooLarge n (share_count n shares) shares) (payload_too_large n (share_count n shares) shares)
    ∷ cause 7 (SpareBitsSet n (share_count n shares) shares) (spare_bits_set n (share_count n shares) shares)
    ∷ []

-- those of the queries, the nodes and the space
abbrev pub query_causes : ℕ → ℕ → List ℕ → List ℕ → ℕ → ℕ → List Cause
query_causes n reports last query count room =
    cause 9 ((IsLast n last → ⊥) ⊎ (IsQuery n query → ⊥)) (not (is_last n last && is_query n query))
    ∷ cause 13 (TooFewNodes reports last query count) (too_few_nodes reports last query count)
    ∷ cause 14 (ParentMissing last query) (parent_missing last query)
    ∷ space_cause (8 * prefix_count query) room
    ∷ []
