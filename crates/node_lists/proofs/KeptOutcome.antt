-- The outcome of `share_kept`: a refusal changes nothing, and what follows where no cause applies.
use Prim.Native.Nat.{ℕ, ◌*◌, ◌/◌, ◌%◌, ◌≤◌, ◌<◌}
use native.Mathlib.Omega.{arith}
use native.Mathlib.Nat.{mul_comm, div-add-mod'}
use mathlib.Core.Path.{◌≡◌, refl, sym, ap, ◌∙◌}
use mathlib.Core.Bool.{Bool, true, false, ◌&&◌, true≢false}
use mathlib.Core.List.{List, []}
use mathlib.Core.Logic.{◌≢◌}
use borrow.Author.Tests.{eqb-true, eqb-false, eq-eqb, ne_eqb, ltb-false, not-false}
use lib.ListN.{length, drop}
use lib.Dec.{eqb, ltb}
use Rattle.places.specs.Places.{overlay}
use Rattle.places.proofs.Lists.{and_left, and_right}
use Rattle.places.proofs.Places.{overlay_nil, overlay_length}
use Rattle.calls.specs.Bounds.{most_bits, most_reports}
use Rattle.calls.specs.Causes.{number_due}
use Rattle.calls.specs.Outcome.{Outcome, accepted}
use Rattle.calls.proofs.Decisions.{neither, bounds}
use Rattle.calls.proofs.Judged.{Clear, judged_due, judged_refused, judged_accepted, judged_clear}
use Rattle.expander.specs.Expander.{is_expander, choice_of, under}
use Rattle.expander.specs.declared.Expander.{Expander}
use Rattle.std.specs.Prelude.{Option, Some, None}
use Rattle.expander.proofs.Chosen.{unknown}
use Rattle.group.specs.Modular.{p}
use Rattle.point.specs.Node.{Node}
use Rattle.point.specs.PublicShare.{public_share_length, payloads_below, spare_bits_zero}
use Rattle.point.proofs.Joined.{every_at}
use Rattle.query.specs.Query.{prefix_count, prefixes_of, is_query}
use Rattle.report_sums.specs.Reports.{public_share_at}
use Rattle.tree.proofs.Lengths.{totals_length}
use Rattle.parents.specs.Parents.{is_last, last_prefixes, parent_missing}
use Rattle.parents.proofs.Last.{prefixes_length}
use Rattle.node_lists.specs.NodeList.{share_count, new_nodes, kept_share}
use Rattle.node_lists.specs.ShareKept.{KeptLent, kept_causes, causes_of, kept_outcome, nodes_after}
use Rattle.node_lists.proofs.ByReport.{by_report_length}
use Rattle.node_lists.proofs.Overlaid.{overlay_spare}

-- ---- the number, and a refusal

module _ (s : KeptLent) where
  -- the number that is due is the outcome's
  abbrev pub kept_number : ℕ
  kept_number = number_due (causes_of s)

  pub kept_number_lem : (kept_outcome s).number ≡ kept_number
  unfolding kept_outcome
  kept_number_lem = judged_due (causes_of s) _

  pub kept_refused : kept_number ≢ 0 → (kept_outcome s).written ≡ []
  unfolding kept_outcome
  kept_refused h = judged_refused (causes_of s) _ (λ z. h (sym (judged_due (causes_of s) _) ∙ z))

  pub nodes_refused : kept_number ≢ 0 → nodes_after s ≡ s.nodes
  unfolding nodes_after
  nodes_refused h = rw (ne_eqb (kept_outcome s).number 0 (λ z. h (sym kept_number_lem ∙ z))) (overlay_nil s.nodes)

-- ---- what follows where no cause applies

-- The public shares of n bits are whole, not too many, each with payloads below p and without spare bits; the expander is one; both queries are what
-- they have to be; the nodes are enough for both; each parent was there; and the sums fit.
pub record Ready (n e : ℕ) (shares last query : List ℕ) (count room : ℕ) : Type 0 where
  pub some_bits : 1 ≤ n
  pub not_longer : n ≤ 256
  pub expander : Expander
  pub chosen : choice_of e ≡ Some expander
  pub whole_shares : length shares ≡ public_share_length n * share_count n shares
  pub few : share_count n shares ≤ most_reports
  pub payloads : (i : ℕ) → i < share_count n shares → payloads_below p n (public_share_at n shares i) ≡ true
  pub spares : (i : ℕ) → i < share_count n shares → spare_bits_zero n (public_share_at n shares i) ≡ true
  pub a_last : is_last n last ≡ true
  pub a_query_lem : is_query n query ≡ true
  pub last_nodes : share_count n shares * length (last_prefixes last) ≤ count
  pub query_nodes : share_count n shares * length (prefixes_of query) ≤ count
  pub parented : parent_missing last query ≡ false
  pub fits : 8 * prefix_count query ≤ room

-- a length without remainder
whole : (len w : ℕ) → len % w ≡ 0 → len ≡ w * (len / w)
whole len w h = omega (arith, div-add-mod' len w, mul_comm w (len / w))

-- a number that names an expander
named : (e : ℕ) → is_expander e ≡ true → (x : Expander) × (choice_of e ≡ Some x)
named e h = go (choice_of e) refl
  where
    go : (c : Option Expander) → choice_of e ≡ c → (x : Expander) × (choice_of e ≡ Some x)
    go (Some x) k = (x, k)
    go None k = absurd (true≢false (sym h ∙ unknown e k))

module _ (n e : ℕ) (shares last query : List ℕ) (count room : ℕ) where
  pub clear_ready : Clear (kept_causes n e shares last query count room) → Ready n e shares last query count room
  clear_ready t =
      let inside = bounds most_bits n t.0 in
      let x = named e (not-false _ t.1.0) in
      let q = not-false (is_last n last && is_query n query) t.1.1.1.1.1.1.0 in
      let many = neither (ltb count (share_count n shares * length (last_prefixes last))) _ t.1.1.1.1.1.1.1.0 in
      record {
        some_bits = inside.0;
        not_longer = inside.1;
        expander = x.0;
        chosen = x.1;
        whole_shares = whole (length shares) (public_share_length n) (eqb-true _ 0 (not-false _ t.1.1.0));
        few = ltb-false most_reports (share_count n shares) t.1.1.1.0;
        payloads = every_at (share_count n shares) (λ i. payloads_below p n (public_share_at n shares i)) (not-false _ t.1.1.1.1.0);
        spares = every_at (share_count n shares) (λ i. spare_bits_zero n (public_share_at n shares i)) (not-false _ t.1.1.1.1.1.0);
        a_last = and_left (is_last n last) (is_query n query) q;
        a_query_lem = and_right (is_last n last) (is_query n query) q;
        last_nodes = ltb-false count _ many.0;
        query_nodes = ltb-false count _ many.1;
        parented = t.1.1.1.1.1.1.1.1.0;
        fits = ltb-false room (8 * prefix_count query) t.1.1.1.1.1.1.1.1.1.0;
      }

module _ (s : KeptLent) where
  abbrev ReadyFor : Type 0
  ReadyFor = Ready s.n s.expander s.shares s.last s.query (length s.nodes) (length s.area)

  pub kept_clear : (kept_outcome s).number ≡ 0 → Clear (causes_of s)
  unfolding kept_outcome
  kept_clear = judged_clear (causes_of s) _
      (omega arith, (omega arith, (omega arith, (omega arith, (omega arith, (omega arith, (omega arith, (omega arith, (omega arith, (omega arith, tt))))))))))

  pub kept_ready : (kept_outcome s).number ≡ 0 → ReadyFor
  kept_ready h = clear_ready s.n s.expander s.shares s.last s.query (length s.nodes) (length s.area) (kept_clear h)

  module _ (x : Expander) (c : choice_of s.expander ≡ Some x) where
    pub kept_accepted : (kept_outcome s).number ≡ 0
        → kept_outcome s ≡ accepted (kept_share s.n s.shares s.last s.nodes x s.server s.query)
    unfolding kept_outcome
    kept_accepted h =
        let f : Expander → List ℕ = λ e. kept_share s.n s.shares s.last s.nodes e s.server s.query in
        judged_accepted (causes_of s) _ (kept_clear h) ∙ ap (λ (o : Option Expander). accepted (under o f)) c

    pub nodes_accepted : (kept_outcome s).number ≡ 0 → nodes_after s ≡ overlay (new_nodes s.n s.shares s.last s.nodes x s.query) s.nodes
    unfolding nodes_after
    nodes_accepted h =
        let f : Expander → List Node = λ e. new_nodes s.n s.shares s.last s.nodes e s.query in
        rw (eq-eqb (kept_outcome s).number 0 h) (ap (λ (o : Option Expander). overlay (under o f) s.nodes) c)

-- as many new nodes as reports × prefixes
pub new_nodes_length : (n : ℕ) (shares last : List ℕ) (nodes : List Node) (x : Expander) (query : List ℕ)
    → length (new_nodes n shares last nodes x query) ≡ share_count n shares * length (prefixes_of query)
unfolding new_nodes
new_nodes_length n shares last nodes x query = by_report_length _ (prefixes_of query) (share_count n shares)

-- as many nodes at exit as at entry
pub nodes_as_many : (s : KeptLent) → length (nodes_after s) ≡ length s.nodes
nodes_as_many s = go (eqb (kept_outcome s).number 0) refl
  where
    go : (b : Bool) → eqb (kept_outcome s).number 0 ≡ b → length (nodes_after s) ≡ length s.nodes
    go true e =
        let h : (kept_outcome s).number ≡ 0 = eqb-true _ 0 e in
        let r = kept_ready s h in
        ap length (nodes_accepted s r.expander r.chosen h)
        ∙ overlay_length _ s.nodes (omega (arith, new_nodes_length s.n s.shares s.last s.nodes r.expander s.query, r.query_nodes))
    go false e = ap length (nodes_refused s (λ z. eqb-false _ 0 e (kept_number_lem s ∙ z)))

-- spare nodes, those past reports × prefixes of the new query, are never changed
pub spare_nodes : (s : KeptLent) → let used = share_count s.n s.shares * length (prefixes_of s.query) in drop used (nodes_after s) ≡ drop used s.nodes
spare_nodes s = go (eqb (kept_outcome s).number 0) refl
  where
    used : ℕ
    used = share_count s.n s.shares * length (prefixes_of s.query)

    go : (b : Bool) → eqb (kept_outcome s).number 0 ≡ b → drop used (nodes_after s) ≡ drop used s.nodes
    go true e =
        let h : (kept_outcome s).number ≡ 0 = eqb-true _ 0 e in
        let r = kept_ready s h in
        ap (drop used) (nodes_accepted s r.expander r.chosen h)
        ∙ overlay_spare (new_nodes s.n s.shares s.last s.nodes r.expander s.query) s.nodes used
        (new_nodes_length s.n s.shares s.last s.nodes r.expander s.query)
    go false e = ap (drop used) (nodes_refused s (λ z. eqb-false _ 0 e (kept_number_lem s ∙ z)))

-- the share takes 8 bytes a prefix, and fits
pub kept_room : (s : KeptLent) → (kept_outcome s).number ≡ 0 → length (kept_outcome s).written ≤ length s.area
unfolding kept_share
kept_room s h =
    let r = kept_ready s h in
    let size : length (kept_outcome s).written ≡ 8 * prefix_count s.query =
    ap (λ (o : Outcome). length o.written) (kept_accepted s r.expander r.chosen h) ∙ totals_length _ (prefixes_of s.query)
    ∙ ap (λ (m : ℕ). 8 * m) (prefixes_length s.query) in
    omega (arith, size, r.fits)
