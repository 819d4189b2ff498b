-- All turns of a call's task leave what the call is to leave.
use Prim.Native.Nat.{ℕ, ◌+◌, ◌*◌, ◌<◌}
use native.Mathlib.Omega.{arith}
use mathlib.Core.Path.{◌≡◌, sym, ap, subst, ◌∙◌}
use mathlib.Core.Bool.{Bool}
use mathlib.Core.List.{List, [], map}
use Rattle.std.specs.Prelude.{Result, Ok, Err, Some, IfOk}
use lib.ListN.{length, replicate, length-map, length-replicate}
use Rattle.places.specs.Places.{overlay}
use Rattle.places.proofs.Places.{overlay_nil, overlay_length}
use Rattle.calls.specs.Causes.{number_due}
use Rattle.calls.specs.Outcome.{Outcome}
use Rattle.calls.specs.Refusals.{number_of, number_in}
use Rattle.calls.specs.declared.Refusal.{Refusal}
use Rattle.calls.proofs.Judged.{number_clear, numbered}
use Rattle.expander.specs.Expander.{choice_of}
use Rattle.expander.specs.declared.Expander.{Expander}
use Rattle.query.specs.Query.{prefix_count, prefixes_of}
use Rattle.point.specs.Node as point
use Rattle.nodes.specs.declared.Node.{Node}
use Rattle.nodes.specs.NodeLayout.{node_of}
use Rattle.tree.proofs.Lengths.{totals_length}
use Rattle.parents.proofs.Last.{prefixes_length}
use Rattle.node_lists.specs.NodeList.{kept_share}
use Rattle.node_lists.specs.ShareKept.{KeptLent, lent, kept_causes, kept_outcome, KeptExit, kept_exit, kept_answered}
use Rattle.node_lists.proofs.KeptOutcome.{kept_number, Ready, clear_ready, kept_number_lem, kept_refused, nodes_refused, kept_accepted, nodes_accepted}
use Rattle.turns.specs.declared.Task.{Task}
use Rattle.turns.specs.Turns.{task_under, cleared, first_place, place_at, nodes_at, sums_at}
use Rattle.in_place.proofs.Lengths.{first_left}
use Rattle.in_place.proofs.Level.{new_count}
use Rattle.in_place.proofs.Found.{task, turns_within, nodes_end, sums_end}

-- what is returned and left, part by part
exit_parts : {size : ℕ} {area : List ℕ} {nodes : List point.Node} (x : KeptExit) → 0 ≡ x.number → size ≡ x.length → area ≡ x.area
    → nodes ≡ x.nodes → kept_answered (Ok size) area nodes ≡ x
exit_parts x a b c d = rw (a, b, c, d)

module _ (n e : ℕ) (b : Bool) (shares last query : List ℕ) (l : List Node) (area : List ℕ) where
  -- the call
  abbrev call : KeptLent
  call = lent n e b shares last query (map node_of l) area

  -- the number that is due
  abbrev number : ℕ
  number = number_due (kept_causes n e shares last query (length l) (length area))

  same_number : kept_number call ≡ number
  same_number = ap (λ (count : ℕ). number_due (kept_causes n e shares last query count (length area))) (length-map l node_of)

  -- What the task's turns keep to, and what they leave.
  pub record Folds (t : Task) : Type 0 where
    pub as_long : length (cleared t area) ≡ length area
    pub within : (s : ℕ) → s < (first_place t last query).left
        → ((place_at t shares last query (first_place t last query) s).source < length l) × ((place_at t shares last query (first_place t last query) s).target < length l)
    pub folded : kept_answered (Ok (8 * t.after)) (sums_at t shares last query (first_place t last query) l (cleared t area) (first_place t last query).left)
        (map node_of (nodes_at t shares last query (first_place t last query) l (first_place t last query).left)) ≡ kept_exit call

  -- ---- a refusal

  pub refused_exit : (refusal : Refusal) → number_of refusal ≡ number → (number ≡ 0 → ⊥) → kept_answered (Err refusal) area (map node_of l) ≡ kept_exit call
  refused_exit refusal found h =
      let k : kept_number call ≡ 0 → ⊥ = λ z. h (sym same_number ∙ z) in
      let written : (kept_outcome call).written ≡ [] = kept_refused call k in
      rw (found, sym same_number ∙ sym (kept_number_lem call), written, nodes_refused call k, overlay_nil area)

  -- ---- where no cause applies

  module _ (h : number ≡ 0) where
    call_ready : Ready n e shares last query (length l) (length area)
    call_ready =
        clear_ready n e shares last query (length l) (length area)
        (number_clear (kept_causes n e shares last query (length l) (length area))
        (omega arith, (omega arith, (omega arith, (omega arith, (omega arith, (omega arith, (omega arith, (omega arith, (omega arith, (omega arith, tt)))))))))) h)

    share_size : length (kept_share n shares last (map node_of l) call_ready.expander b query) ≡ 8 * prefix_count query
    unfolding kept_share
    share_size = totals_length _ (prefixes_of query) ∙ ap (λ (k : ℕ). 8 * k) (prefixes_length query)

    task_folds : Folds (task n e b shares last query l area call_ready)
    unfolding cleared
    task_folds =
        let r : Ready n e shares last query (length l) (length area) = call_ready in
        let t : Task = task n e b shares last query l area r in
        let all : (first_place t last query).left ≡ new_count t + new_count t = first_left t last query ∙ omega arith in
        let zero-due : (kept_outcome call).number ≡ 0 = kept_number_lem call ∙ same_number ∙ h in
        let outcome = kept_accepted call r.expander r.chosen zero-due in
        let bytes : List ℕ = kept_share n shares last (map node_of l) r.expander b query in
        let written : (kept_outcome call).written ≡ bytes = ap (λ (o : Outcome). o.written) outcome in
        record {
          as_long = overlay_length (replicate (8 * prefix_count query) 0) area (omega (arith, length-replicate {A = ℕ} (8 * prefix_count query) 0, r.fits));
          within = λ s i. turns_within n e b shares last query l area r s (omega arith);
          folded = exit_parts (kept_exit call)
              (sym zero-due)
              (sym (ap length written ∙ share_size))
              (ap (sums_at t shares last query (first_place t last query) l (cleared t area)) all ∙ sums_end n e b shares last query l area r
              ∙ sym (ap (λ (w : List ℕ). overlay w area) written))
              (ap (λ (s : ℕ). map node_of (nodes_at t shares last query (first_place t last query) l s)) all ∙ nodes_end n e b shares last query l area r
              ∙ sym (nodes_accepted call r.expander r.chosen zero-due));
        }

    -- the task that the call begins with is that one
    pub folds : (t : Task) → choice_of e ≡ Some t.expander → t ≡ task_under t.expander n b shares last query → Folds t
    folds t chosen made =
        let named : Some call_ready.expander ≡ Some t.expander = sym call_ready.chosen ∙ chosen in
        let same : call_ready.expander ≡ t.expander = cc in
        subst Folds (ap (λ (x : Expander). task_under x n b shares last query) same ∙ sym made) task_folds

  -- ---- either way

  -- what all turns leave of what a call begins with, its task or a refusal
  abbrev pub AllTurns : Result Task Refusal → Type 0
  AllTurns (Ok t) = kept_answered (Ok (8 * t.after)) (sums_at t shares last query (first_place t last query) l (cleared t area) (first_place t last query).left)
      (map node_of (nodes_at t shares last query (first_place t last query) l (first_place t last query).left)) ≡ kept_exit call
  AllTurns (Err refusal) = kept_answered (Err refusal) area (map node_of l) ≡ kept_exit call

  pub share_folded : (begun : Result Task Refusal) → number_in begun ≡ number
      → IfOk begun (λ t. (choice_of e ≡ Some t.expander) × (t ≡ task_under t.expander n b shares last query)) → AllTurns begun
  share_folded (Ok t) found made = (folds (sym found) t made.0 made.1).folded
  share_folded (Err refusal) found made = refused_exit refusal found (λ z. numbered refusal (found ∙ z))
