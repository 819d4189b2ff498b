-- The outcome of `write_roots`: a refusal changes nothing, and what is written begins a session.
use Prim.Native.Nat.{ℕ, ◌/◌, ◌%◌, ◌≤◌}
use native.Mathlib.Omega.{arith}
use mathlib.Core.Path.{◌≡◌, refl, sym, ap, ◌∙◌, subst}
use mathlib.Core.Bool.{Bool, true, false}
use mathlib.Core.List.{List, []}
use mathlib.Core.Logic.{◌≢◌}
use borrow.Author.Tests.{eqb-true, eqb-false, eq-eqb, ne_eqb, le-ltb, ltb-false, not-false}
use lib.ListN.{length, take, drop}
use lib.Dec.{eqb}
use Rattle.places.specs.Places.{overlay}
use Rattle.places.proofs.Places.{overlay_nil, overlay_length}
use Rattle.calls.specs.Bounds.{most_reports}
use Rattle.calls.proofs.Judged.{number_clear}
use Rattle.point.specs.Node.{Node}
use Rattle.tree.specs.SearchRule.{start}
use Rattle.node_lists.specs.NodeList.{share_count}
use Rattle.node_lists.specs.Roots.{roots, roots_causes, roots_number, roots_after}
use Rattle.node_lists.specs.Sessions.{Session, Reached, at_roots}
use Rattle.node_lists.proofs.Overlaid.{overlay_first, overlay_spare}
use Rattle.node_lists.proofs.ByReport.{by_report_length}

-- The seeds are whole and not too many, and the nodes are enough.
pub record Whole (seeds : List ℕ) (count : ℕ) : Type 0 where
  pub no_rest : length seeds % 16 ≡ 0
  pub few : length seeds / 16 ≤ most_reports
  pub enough : length seeds / 16 ≤ count

module _ (seeds : List ℕ) (count : ℕ) where
  pub roots_whole : roots_number seeds count ≡ 0 → Whole seeds count
  roots_whole h =
      let t = number_clear (roots_causes seeds count) (omega arith, (omega arith, (omega arith, tt))) h in
      record {
        no_rest = eqb-true _ 0 (not-false _ t.0);
        few = ltb-false most_reports (length seeds / 16) t.1.0;
        enough = ltb-false count (length seeds / 16) t.1.1.0;
      }

  pub whole_roots : Whole seeds count → roots_number seeds count ≡ 0
  whole_roots w = rw (eq-eqb (length seeds % 16) 0 w.no_rest, le-ltb most_reports (length seeds / 16) w.few, le-ltb count (length seeds / 16) w.enough)

module _ (b : Bool) (seeds : List ℕ) where
  -- one node for each seed
  pub roots_one_each : length (roots b seeds) ≡ length seeds / 16
  unfolding roots
  roots_one_each = by_report_length _ start (length seeds / 16) ∙ omega arith

  module _ (nodes : List Node) where
    pub roots_refused : roots_number seeds (length nodes) ≢ 0 → roots_after b seeds nodes ≡ nodes
    unfolding roots_after
    roots_refused h = rw (ne_eqb (roots_number seeds (length nodes)) 0 h) (overlay_nil nodes)

    pub roots_accepted : roots_number seeds (length nodes) ≡ 0 → roots_after b seeds nodes ≡ overlay (roots b seeds) nodes
    unfolding roots_after
    roots_accepted h = rw (eq-eqb (roots_number seeds (length nodes)) 0 h)

    -- as many nodes at exit as at entry
    pub roots_as_many : length (roots_after b seeds nodes) ≡ length nodes
    roots_as_many = go (eqb (roots_number seeds (length nodes)) 0) refl
      where
        go : (r : Bool) → eqb (roots_number seeds (length nodes)) 0 ≡ r → length (roots_after b seeds nodes) ≡ length nodes
        go true e =
            let h : roots_number seeds (length nodes) ≡ 0 = eqb-true _ 0 e in
            ap length (roots_accepted h) ∙ overlay_length (roots b seeds) nodes (omega (arith, roots_one_each, (roots_whole seeds (length nodes) h).enough))
        go false e = ap length (roots_refused (eqb-false _ 0 e))

    -- those past one for each seed are never changed
    pub spare_roots : drop (length seeds / 16) (roots_after b seeds nodes) ≡ drop (length seeds / 16) nodes
    spare_roots = go (eqb (roots_number seeds (length nodes)) 0) refl
      where
        go : (r : Bool) → eqb (roots_number seeds (length nodes)) 0 ≡ r → drop (length seeds / 16) (roots_after b seeds nodes) ≡ drop (length seeds / 16) nodes
        go true e = ap (drop (length seeds / 16)) (roots_accepted (eqb-true _ 0 e)) ∙ overlay_spare (roots b seeds) nodes (length seeds / 16) roots_one_each
        go false e = ap (drop (length seeds / 16)) (roots_refused (eqb-false _ 0 e))

-- a list that the call has begun may be given to the first call of a session
pub roots_reached : (s : Session) (nodes : List Node) → roots_number s.seeds (length nodes) ≡ 0 → Reached s [] (roots_after s.server s.seeds nodes)
roots_reached s nodes h =
    at_roots (roots_after s.server s.seeds nodes)
    (ap (take (share_count s.n s.shares)) (roots_accepted s.server s.seeds nodes h)
    ∙ overlay_first (roots s.server s.seeds) nodes (share_count s.n s.shares) (omega (arith, s.as_many, roots_one_each s.server s.seeds)))

-- a refused beginning of any list leaves it as it may be given to the next call
pub begun_between : (s : Session) (last : List ℕ) (b : Bool) (seeds : List ℕ) (nodes : List Node) → Reached s last nodes
    → roots_number seeds (length nodes) ≢ 0 → Reached s last (roots_after b seeds nodes)
begun_between s last b seeds nodes r h = subst (Reached s last) (sym (roots_refused b seeds nodes h)) r
