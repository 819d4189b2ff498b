-- The turns that write a list at the roots, and the list after all of them.
use Prim.Native.Nat.{ℕ, zero, suc, ◌+◌, ◌*◌, ◌/◌, ◌≤◌, ◌<◌}
use native.Mathlib.Omega.{arith}
use native.Mathlib.Decide.{ℕ_discrete}
use native.Mathlib.Nat.{mul-one}
use mathlib.Core.Path.{◌≡◌, refl, sym, ap, ◌∙◌}
use mathlib.Core.Bool.{Bool, false, cond}
use mathlib.Core.List.{List, [], map}
use borrow.Author.Tests.{eq-eqb, ne_eqb, ltb-false}
use lib.ListN.{length, get_or, set, length-set, length-map, get_or-map}
use lib.Seq.{get_or-set_same, get_or-set_other}
use Rattle.places.specs.Places.{window, overlay}
use Rattle.places.proofs.Places.{window_inside, overlay_nil}
use Rattle.calls.proofs.Judged.{number_clear}
use Rattle.tree.specs.SearchRule.{start}
use Rattle.nodes.specs.declared.Node.{Node}
use Rattle.nodes.specs.NodeLayout.{node_of}
use Rattle.report_sums.specs.Reports.{seed_at}
use Rattle.node_lists.specs.NodeList.{no_node}
use Rattle.node_lists.specs.Roots.{roots, roots_causes, roots_number, roots_after}
use Rattle.node_lists.specs.Filling.{root_node, filled_at}
use Rattle.node_lists.proofs.Overlaid.{overlaid}
use Rattle.node_lists.proofs.ByReport.{by_report_length, by_report_at}

-- ---- any turns

module _ (b : Bool) (seeds : List ℕ) where
  pub filled_length : (l : List Node) (s : ℕ) → length (filled_at b seeds l s) ≡ length l
  unfolding filled_at
  filled_length l zero = refl
  filled_length l (suc s) = length-set (filled_at b seeds l s) _ _ ∙ filled_length l s

  -- the first s places are written, the others are as they were
  pub record Written (old : List Node) (s : ℕ) (l : List Node) : Type 0 where
    pub written : (x : ℕ) → x < s → (d : Node) → get_or l x d ≡ record { seed = window 16 (16 * x) seeds; bit = b }
    pub spare : (x : ℕ) → s ≤ x → (d : Node) → get_or l x d ≡ get_or old x d

  pub filled_written : (l : List Node) (s : ℕ) → s ≤ length l → Written l s (filled_at b seeds l s)
  unfolding filled_at root_node
  filled_written l zero k = record { written = λ x a d. absurd (omega arith); spare = λ x a d. refl }
  filled_written l (suc s) k =
      let g : Written l s (filled_at b seeds l s) = filled_written l s (omega arith) in
      let v : Node = record { seed = window 16 (16 * s) seeds; bit = b } in
      let m : List Node = filled_at b seeds l s in
      let size : length m ≡ length l = filled_length l s in
      record {
        written = λ x a d. elim (ℕ_discrete x s) [
          | yes q ↦
              ap (λ (y : ℕ). get_or (set m s v) y d) q ∙ get_or-set_same m s v d (omega arith)
              ∙ ap (λ (y : ℕ). record { seed = window 16 (16 * y) seeds; bit = b }) (sym q)
          | no q ↦ get_or-set_other m s x v d q ∙ g.written x (omega arith) d
        ];
        spare = λ x a d. get_or-set_other m s x v d (λ q. omega arith) ∙ g.spare x (omega arith) d;
      }

-- ---- from the first turn

module _ (b : Bool) (seeds : List ℕ) (l : List Node) where
  -- no cause applies: there is room
  pub accepted_few : roots_number seeds (length l) ≡ 0 → length seeds / 16 ≤ length l
  accepted_few h =
      let c = number_clear (roots_causes seeds (length l)) (omega arith, (omega arith, (omega arith, tt))) h in
      ltb-false (length l) (length seeds / 16) c.1.1.0

  roots_length : length (roots b seeds) ≡ length seeds / 16
  unfolding roots
  roots_length = by_report_length _ start (length seeds / 16) ∙ mul-one (length seeds / 16)

  root_at : (i : ℕ) → i < length seeds / 16 → get_or (roots b seeds) i no_node ≡ record { seed = window 16 (16 * i) seeds; bit = b }
  unfolding roots
  root_at i h =
      let e : i ≡ i * 1 + 0 = omega arith in
      ap (λ (k : ℕ). get_or (roots b seeds) k no_node) e
      ∙ by_report_at (λ i q. record { seed = seed_at seeds i; bit = b }) start (length seeds / 16) i 0 h (omega arith)
      ∙ ap (λ (s : List ℕ). record { seed = s; bit = b }) (sym (window_inside 16 (16 * i) seeds (omega arith)))

  accepted_roots : roots_number seeds (length l) ≡ 0 → map node_of (filled_at b seeds l (length seeds / 16)) ≡ overlay (roots b seeds) (map node_of l)
  accepted_roots z =
      let few = accepted_few z in
      let R : ℕ = length seeds / 16 in
      let g : Written b seeds l R (filled_at b seeds l R) = filled_written b seeds l R few in
      let m : List Node = filled_at b seeds l R in
      let size : length m ≡ length l = filled_length b seeds l R in
      let none : Node = record { seed = []; bit = false } in
      let root-count : length (roots b seeds) ≡ R = roots_length in
      overlaid (roots b seeds) (map node_of l) no_node (map node_of m)
      (length-map m node_of ∙ size ∙ sym (length-map l node_of))
      (omega (arith, few, length-map l node_of))
      (λ i h. get_or-map node_of m i none ∙ ap node_of (g.written i (omega arith) none) ∙ sym (root_at i (omega arith)))
      (λ i h. get_or-map node_of m i none ∙ ap node_of (g.spare i (omega arith) none) ∙ sym (get_or-map node_of l i none))

  -- the list after all turns is the one at the roots
  pub roots_folded : roots_number seeds (length l) ≡ 0 → map node_of (filled_at b seeds l (length seeds / 16)) ≡ roots_after b seeds (map node_of l)
  unfolding roots_after
  roots_folded z =
      let k : roots_number seeds (length (map node_of l)) ≡ 0 = ap (roots_number seeds) (length-map l node_of) ∙ z in
      accepted_roots z ∙ sym (ap (λ (c : Bool). overlay (cond c (roots b seeds) []) (map node_of l)) (eq-eqb _ 0 k))

  -- a refusal leaves the list as it was
  pub roots_refused : (roots_number seeds (length l) ≡ 0 → ⊥) → map node_of l ≡ roots_after b seeds (map node_of l)
  unfolding roots_after
  roots_refused z =
      let k : roots_number seeds (length (map node_of l)) ≡ 0 → ⊥ = λ q. z (sym (ap (roots_number seeds) (length-map l node_of)) ∙ q) in
      sym (ap (λ (c : Bool). overlay (cond c (roots b seeds) []) (map node_of l)) (ne_eqb _ 0 k) ∙ overlay_nil (map node_of l))
