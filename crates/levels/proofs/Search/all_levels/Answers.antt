-- `Search::all_levels` meets its contract.
use Prim.Native.Nat.{ℕ, ◌+◌, ◌/◌}
use native.Mathlib.Omega.{arith}
use mathlib.Core.Path.{◌≡◌, ap₂, ◌∙◌}
use mathlib.Core.List.{List}
use lib.ListN.{length}
use Rattle.kept.specs.Kept.{reaches_by}
use Rattle.places.specs.Places.{put_at}
use Rattle.query.specs.Query.{query, children}
use Rattle.tree.specs.SearchRule as rule
use Rattle.levels.specs.Levels.{total_in}
use Rattle.levels.proofs.Opening.{first_refused, first_asked, first_answered}
use Rattle.levels.proofs.Search.all_levels.Goals as goal
use Rattle.levels.proofs.Search.all_levels.Goals.{After-write_first}

-- the area has the number of reports, and behind it the first query
begun : (w : After-write_first) → let a = w.args in
    w.write_first.new.area ≡ put_at (put_at a.area.now 0 (rule.heading (length a.self.now.seeds0.now / 16))) rule.heading_length (query 0 (children rule.start))
begun w =
    w.write_first.ensures ∙ ap₂ (λ (o : List ℕ) (i : ℕ). put_at o i (query 0 (children rule.start))) w.write_heading-at.ensures.area_after w.write_heading-at.ensures.value

pub returns-then-area : goal.returns-then-area
returns-then-area c =
    let a = c.args in
    let s = a.self.now in
    first_refused (reaches_by s.rule) (total_in s) (length s.seeds0.now / 16) (s.last + 1) (omega arith) a.area.now a.list.now (omega (arith, c.if-area.true))

pub descend-requires : goal.descend-requires
descend-requires c =
    let a = c.args in
    let s = a.self.now in
    let both = first_asked (reaches_by s.rule) (total_in s) (length s.seeds0.now / 16) (s.last + 1) (omega arith) a.area.now a.list.now c.if-area.false _
    (begun (goal.at.descend-requires c).After-write_first) in
    rw c.write_heading-at.ensures.value (record { k_le_n = both.0; packed = both.1 })

pub returns : goal.returns
returns c =
    let a = c.args in
    let s = a.self.now in
    first_answered (reaches_by s.rule) (total_in s) (length s.seeds0.now / 16) (s.last + 1) (omega arith) a.area.now a.list.now c.if-area.false _
    (begun (goal.at.returns c).After-write_first) _ _ _ _ _ (rw c.write_heading-at.ensures.value at c.descend.ensures)
