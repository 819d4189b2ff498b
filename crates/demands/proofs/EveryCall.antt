-- Demand 1 holds of every call.
use Rattle.expander.specs.declared.Expander.{Expander}
use Rattle.std.specs.Prelude.{Option as Maybe, Some, None}
use Prim.Native.Nat.{ℕ, ◌≤◌, ◌<◌}
use native.Mathlib.Omega.{arith}
use mathlib.Core.Path.{◌≡◌, refl, ap, ◌∙◌}
use mathlib.Core.Bool.{Bool, true, false, cond}
use mathlib.Core.List.{List, [], ◌++◌}
use mathlib.Core.Logic.{◌≢◌}
use mathlib.Core.Option.{Option, none}
use borrow.Author.Tests.{eqb-true, eqb-false, ltb-false}
use lib.ListN.{length, drop, replicate}
use lib.Seq.{drop-append_seam}
use lib.Dec.{eqb}
use Rattle.places.specs.Lists.{All}
use Rattle.places.specs.Places.{overlay}
use Rattle.places.proofs.Places.{overlay_nil, overlay_length}
use Rattle.calls.specs.Bounds.{threshold_number}
use Rattle.calls.specs.Causes.{Cause, Due}
use Rattle.calls.specs.Outcome.{Outcome, judged}
use Rattle.calls.proofs.Judged.{due_unique, judged_refused, judged_accepted, judged_clear, ◌&◌}
use Rattle.expander.specs.Expander.{block_of, choice_of, under}
use Rattle.expander.proofs.Sized.{block_length}
use Rattle.combine.specs.Answer.{Kind}
use Rattle.search.specs.Search.{Lent, record_bytes, list_bytes, search_number, record_length, list_length, record_after, list_after}
use Rattle.node_lists.specs.ShareKept.{causes_of, kept_outcome}
use Rattle.node_lists.proofs.KeptOutcome.{kept_number_lem, kept_refused, nodes_refused, kept_ready, nodes_as_many, kept_room, spare_nodes}
use Rattle.node_lists.proofs.KeptDue.{kept_due, roots_due}
use Rattle.node_lists.proofs.RootsOutcome.{roots_whole, roots_refused, roots_as_many, spare_roots}
use Rattle.honest.proofs.Demand1 as call
use Rattle.exam_answering.proofs.ExamTheorems as exam
use Rattle.exam_answering.proofs.Outputs as outputs
use Rattle.capi.specs.Block.{block_causes, block_outcome}
use Rattle.capi.proofs.Block.{block_due}
use Rattle.demands.specs.Calls.{BlockLent, SearchLent, KeptShareLent, RootsLent, make_key, server_share, kept_share, list_roots, add_shares, combining, whole_search, exam_answer, refused_line, exam_output, one_block, Result, into, causes, rank, InOrder, result}
use Rattle.demands.specs.Demands.{AfterRefusal, AfterSuccess, SpareUnchanged, Demand1}

-- what demand 1 says of a call with the causes cs
abbrev Kept : List Cause → Result → Type 0
Kept cs l =
    InOrder cs × Due cs l.number × ((k : ℕ) → Due cs k → k ≡ l.number)
    × (l.number ≢ 0 → All (AfterRefusal l.number) l.areas)
    × (l.number ≢ 0 → l.kind ≡ none)
    × (l.number ≡ 0 → All AfterSuccess l.areas)
    × (l.number ≢ 0 → All (λ m. m.exit ≡ m.entry) l.lists)
    × All SpareUnchanged l.lists
    × (l.number ≡ 0 → All (λ m. m.used ≤ length m.entry) l.lists)

-- a call that writes into one area
one : (cs : List Cause) → InOrder cs → (out : List ℕ) (kind : Option Kind) (o : Outcome) → Due cs o.number × ((k : ℕ) → Due cs k → k ≡ o.number)
    → (o.number ≢ 0 → (o.written ≡ []) × (overlay o.written out ≡ out)) → (o.number ≢ 0 → kind ≡ none)
    → (o.number ≡ 0 → length o.written ≤ length out) → Kept cs (into out kind o)
unfolding overlay
one cs order out kind o d refused unnamed fits = (
  order,
  d.0,
  d.1,
  λ h. let r = refused h in ((ap length r.0, r.1), tt),
  unnamed,
  λ h. ((fits h, overlay_length o.written out (fits h), drop-append_seam o.written (drop (length o.written) out)), tt),
  λ h. tt,
  tt,
  λ h. tt,
)

-- where nothing is written, a space is as it was
untouched : (out : List ℕ) {bytes : List ℕ} → bytes ≡ [] → (bytes ≡ []) × (overlay bytes out ≡ out)
untouched out h = (h, ap (λ (bytes : List ℕ). overlay bytes out) h ∙ overlay_nil out)

-- ---- one block

-- whatever expander is named, at most 16 bytes are written
at_most : (e : ℕ) (seed : List ℕ) (j : ℕ) → length (under (choice_of e) (λ x. block_of x seed j)) ≤ 16
at_most e seed j = go (choice_of e)
  where
    go : (c : Maybe Expander) → length (under c (λ x. block_of x seed j)) ≤ 16
    go (Some x) = omega (arith, block_length x seed j)
    go None = omega arith

block_kept : (l : BlockLent) → Kept (causes (one_block l)) (result (one_block l))
unfolding block_outcome
block_kept l =
    let d = block_due l.expander l.seed l.j (length l.out) in
    let own = block_causes l.expander l.seed (length l.out) in
    let bytes = under (choice_of l.expander) (λ x. block_of x l.seed l.j) in
    one (causes (one_block l)) (omega arith & omega arith & tt) l.out none (judged own bytes)
    (d, λ k h. due_unique (causes (one_block l)) h d)
    (λ h. untouched l.out (judged_refused own bytes h))
    (λ h. refl)
    (λ h.
    let clear = judged_clear own bytes (omega arith & omega arith & omega arith & tt) h in
    let room = ltb-false (length l.out) 16 clear.1.1.0 in
    let written : (judged own bytes).written ≡ bytes = ap (λ (o : Outcome). o.written) (judged_accepted own bytes clear) in
    omega (arith, room, ap length written, at_most l.expander l.seed l.j))

-- ---- the threshold's number

-- it stands after 1, and before 3 and all that follow
after_1 : (weighted : Bool) → rank 1 < rank (threshold_number weighted)
after_1 false = omega arith
after_1 true = omega arith

not_after : (weighted : Bool) (k : ℕ) → 3 < rank k → rank (threshold_number weighted) < rank k
not_after false k h = omega (arith, h)
not_after true k h = omega (arith, h)

-- ---- the whole search

-- what a refusal leaves of the record area
record_left_lem : (s : Lent) → search_number s ≢ 0
    → record_after s ≡ cond (eqb (search_number s) 11) (replicate (length s.record_area) 0) s.record_area
record_left_lem s h = go (eqb (search_number s) 11) refl
  where
    go : (b : Bool) → eqb (search_number s) 11 ≡ b → record_after s ≡ cond b (replicate (length s.record_area) 0) s.record_area
    go true e = call.record_zeroed s (eqb-true (search_number s) 11 e)
    go false e = call.record_refused s h (eqb-false (search_number s) 11 e)

search_kept : (l : SearchLent) → Kept (causes (whole_search l)) (result (whole_search l))
search_kept l =
    let s = l.lent in
    let d = call.search_number_lem s l.bytes.1.0 l.bytes.1.1.1.0 in
    let sizes = call.area_lengths s in (
      after_1 s.weighted & not_after s.weighted 3 (omega arith) & omega arith & omega arith & omega arith & omega arith & omega arith & omega arith & tt,
      d.0,
      d.1,
      λ h. let r = call.search_refused s h in ((r.0, record_left_lem s h), ((r.1, r.2), tt)),
      λ h. refl,
      λ h.
          let w = call.record_written s h in
          let v = call.list_written s h in (
            (w.1, sizes.0, past (record_length s) (record_bytes s) (record_after s) s.record_area w),
            ((v.1, sizes.1, past (list_length s) (list_bytes s) (list_after s) s.list_area v), tt),
          ),
      λ h. tt,
      tt,
      λ h. tt,
    )
  where
    past : (n : ℕ) (bytes after area : List ℕ) → (n ≡ length bytes) × (n ≤ length area) × (after ≡ bytes ++ drop n area) → drop n after ≡ drop n area
    past n bytes after area h = rw (h.2, h.0) (drop-append_seam bytes (drop (length bytes) area))

-- ---- kept nodes

kept_kept : (l : KeptShareLent) → Kept (causes (kept_share l)) (result (kept_share l))
unfolding overlay
kept_kept l =
    let s = l.lent in
    let d = kept_due s l.bytes.0 l.bytes.1.0 l.bytes.1.1.0 in
    let bytes = (kept_outcome s).written in (
      omega arith & omega arith & omega arith & omega arith & omega arith & omega arith & omega arith & omega arith & omega arith & tt,
      d,
      λ k h. due_unique (causes_of s) h d,
      λ h. let r = untouched s.area (kept_refused s (λ z. h (kept_number_lem s ∙ z))) in ((ap length r.0, r.1), tt),
      λ h. refl,
      λ h. ((kept_room s h, overlay_length bytes s.area (kept_room s h), drop-append_seam bytes (drop (length bytes) s.area)), tt),
      λ h. (nodes_refused s (λ z. h (kept_number_lem s ∙ z)), tt),
      ((nodes_as_many s, spare_nodes s), tt),
      λ h. ((kept_ready s h).query_nodes, tt),
    )

roots_kept : (l : RootsLent) → Kept (causes (list_roots l)) (result (list_roots l))
roots_kept l =
    let d = roots_due l.seeds (length l.nodes) in (
      omega arith & omega arith & tt,
      d,
      λ k h. due_unique (causes (list_roots l)) h d,
      λ h. tt,
      λ h. refl,
      λ h. tt,
      λ h. (roots_refused l.server l.seeds l.nodes h, tt),
      ((roots_as_many l.server l.seeds l.nodes, spare_roots l.server l.seeds l.nodes), tt),
      λ h. ((roots_whole l.seeds (length l.nodes) h).enough, tt),
    )

-- ---- all calls

pub demand_1 : Demand1
demand_1 (make_key l) =
    let same = call.key_number l.n l.expander l.weight l.string l.seed0 l.seed1 l.out in
    one (causes (make_key l)) (omega arith & omega arith & omega arith & omega arith & tt) l.out none _ same (call.key_refused l.n l.expander l.weight l.string l.seed0 l.seed1 l.out) (λ h. refl)
    (λ h. let w = call.key_written l.n l.expander l.weight l.string l.seed0 l.seed1 l.out l.bytes.1.0 l.bytes.1.1.0 h in rw w.0 w.1)
demand_1 (server_share l) =
    let same = call.share_number l.n l.expander l.server l.seeds l.public_shares l.query l.out l.bytes.1.0 l.bytes.1.1.0 in
    one (causes (server_share l)) (omega arith & omega arith & omega arith & omega arith & omega arith & omega arith & omega arith & tt) l.out none _ same
    (call.share_refused l.n l.expander l.server l.seeds l.public_shares l.query l.out) (λ h. refl)
    (λ h. let w = call.share_written l.n l.expander l.server l.seeds l.public_shares l.query l.out h in rw w.0 w.1)
demand_1 (kept_share l) = kept_kept l
demand_1 (list_roots l) = roots_kept l
demand_1 (add_shares l) =
    one (causes (add_shares l)) (omega arith & omega arith & tt) l.out none _ (call.add_number l.share0 l.share1 l.out)
    (call.add_refused l.share0 l.share1 l.out) (λ h. refl)
    (λ h. let w = call.add_written l.share0 l.share1 l.out h in rw w.0 w.1)
demand_1 (combining l) =
    let same = call.combine_number l.n l.weighted l.t l.query l.share0 l.share1 l.out l.bytes.0 in
    let refused = call.combine_refused l.n l.weighted l.t l.query l.share0 l.share1 l.out in
    one (causes (combining l)) (after_1 l.weighted & not_after l.weighted 4 (omega arith) & omega arith & omega arith & omega arith & tt) l.out _ _ same (λ h. ((refused h).0, (refused h).1)) (λ h. (refused h).2)
    (λ h. (call.combine_written l.n l.weighted l.t l.query l.share0 l.share1 l.out h).2)
demand_1 (whole_search l) = search_kept l
demand_1 (exam_answer l) =
    one (causes (exam_answer l)) (omega arith & omega arith & omega arith & omega arith & tt) l.out none _ (exam.exam_number l.text l.out) (exam.exam_refused l.text l.out) (λ h. refl)
    (λ h. let w = exam.exam_written l.text l.out h in rw w.3 w.4)
demand_1 (refused_line l) =
    one (causes (refused_line l)) tt l.out none _ (outputs.line_number l.refusal l.out) (outputs.line_refused l.refusal l.out) (λ h. refl)
    (λ h. let w = outputs.line_written l.refusal l.out h in rw w.0 w.1)
demand_1 (exam_output l) =
    one (causes (exam_output l)) tt l.out none _ (outputs.respond_number l.text l.out) (outputs.respond_refused l.text l.out) (λ h. refl)
    (λ h. let w = outputs.respond_written l.text l.out h in rw w.0 w.1)
demand_1 (one_block l) = block_kept l
