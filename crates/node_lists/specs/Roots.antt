-- The call `write_roots`: document 02, [2], a list at the roots.
use Rattle.std.specs.Prelude.{ℕ, ◌/◌, ◌%◌, ◌<◌, Bool, cond, not, List, [], ◌∷◌, ◌≢◌, length, eqb, ltb}
use Rattle.places.specs.Places.{overlay}
use Rattle.calls.specs.Bounds.{reports_cause}
use Rattle.calls.specs.Causes.{Cause, cause, number_due}
use Rattle.point.specs.Node.{Node}
use Rattle.tree.specs.SearchRule.{start}
use Rattle.report_sums.specs.Reports.{seed_at}
use Rattle.node_lists.specs.NodeList.{report_by_report}

-- 'A list at the roots holds each report's root seed and the server's bit b'
unfoldable pub roots : Bool → List ℕ → List Node
roots b seeds = report_by_report (length seeds / 16) (λ i q. record { seed = seed_at seeds i; bit = b }) start

-- the causes, where `count` nodes are lent
abbrev pub roots_causes : List ℕ → ℕ → List Cause
roots_causes seeds count =
    cause 4 (length seeds % 16 ≢ 0) (not (eqb (length seeds % 16) 0))
    ∷ reports_cause (length seeds / 16)
    ∷ cause 13 (count < length seeds / 16) (ltb count (length seeds / 16))
    ∷ []

-- the number that is returned
abbrev pub roots_number : List ℕ → ℕ → ℕ
roots_number seeds count = number_due (roots_causes seeds count)

-- the lent nodes at exit
unfoldable pub roots_after : Bool → List ℕ → List Node → List Node
roots_after b seeds nodes = overlay (cond (eqb (roots_number seeds (length nodes)) 0) (roots b seeds) []) nodes
