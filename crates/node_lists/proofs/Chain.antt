-- A list that began at the roots and was handed from call to call holds the nodes of the walk from the root, so the shares are the same.
use Prim.Native.Nat.{ℕ, ◌+◌, ◌*◌, ◌/◌, ◌<◌}
use native.Mathlib.Omega.{arith}
use native.Mathlib.Nat.{min-eq_left}
use mathlib.Core.Path.{◌≡◌, refl, sym, ap, ◌∙◌, subst}
use mathlib.Core.Bool.{true, false}
use mathlib.Core.List.{List, [], ◌∷◌}
use mathlib.Core.List.Memᴰ.{head as here, tail as further}
use lib.ListN.{length, get_or, take}
use lib.Seq.{get_or-take}
use Rattle.places.specs.Lists.{◌∈◌}
use Rattle.places.specs.Places.{overlay}
use Rattle.bits.specs.Strings.{Bits}
use Rattle.expander.specs.Expander.{choice_of}
use Rattle.expander.specs.declared.Expander.{Expander}
use Rattle.std.specs.Prelude.{Some}
use Rattle.point.specs.Node.{Node}
use Rattle.point.specs.Evaluation.{bit_of, node}
use Rattle.point.specs.PublicShare.{read_correction}
use Rattle.point.specs.Instance.{scheme}
use Rattle.query.specs.Query.{prefixes_of, is_query}
use Rattle.query.proofs.Ready.{ready}
use Rattle.tree.specs.SearchRule.{start, totals}
use Rattle.report_sums.specs.Reports.{report_count, seed_at, public_share_at, all_count, lent_share, server_sum}
use Rattle.report_sums.proofs.LentPrefix.{sum_same}
use Rattle.idpf.specs.Share.{share_bytes}
use Rattle.parents.specs.Parents.{is_last, last_prefixes, parent, place_in, parent_missing}
use Rattle.parents.proofs.Last.{prefixes_length}
use Rattle.parents.proofs.Placed.{in_at, place_is}
use Rattle.parents.proofs.Parented.{parent_there, one_longer}
use Rattle.node_lists.specs.NodeList.{share_count, report_by_report, no_node, kept_node, word_for, node_below, share_from, new_nodes, kept_share}
use Rattle.node_lists.specs.Roots.{roots}
use Rattle.node_lists.specs.ShareKept.{KeptLent}
use Rattle.node_lists.specs.Sessions.{Session, call, walked_node, Reached, at_roots, after}
use Rattle.node_lists.proofs.Overlaid.{overlay_first}
use Rattle.node_lists.proofs.ByReport.{by_report_at, place_inside, map_same, by_report_same}
use Rattle.node_lists.proofs.KeptOutcome.{kept_ready, nodes_accepted, new_nodes_length}
use Rattle.node_lists.proofs.OneDown.{node_down, share_down}

-- ---- lists

totals_same : (f g : Bits → ℕ) (qs : List Bits) → ((q : Bits) → q ∈ qs → f q ≡ g q) → totals f qs ≡ totals g qs
totals_same f g qs h = rw (map_same f g qs h)

-- a query is a last query, with the same prefixes
pub query_last : (n : ℕ) (query : List ℕ) → is_query n query ≡ true → (is_last n query ≡ true) × (last_prefixes query ≡ prefixes_of query)
query_last n [] h = (refl, absurd (omega (arith, (ready n [] h).whole)))
query_last n (x ∷ xs) h = (h, refl)

module _ (s : Session) where
  -- how many reports
  abbrev pub reports : ℕ
  reports = share_count s.n s.shares

  -- The nodes that are kept are those of the walk at the prefixes of the last query, report by report.
  pub record Stands (e : Expander) (last : List ℕ) (nodes : List Node) : Type 0 where
    pub a_last : is_last s.n last ≡ true
    pub stand : take (reports * length (last_prefixes last)) nodes ≡ report_by_report reports (walked_node s e) (last_prefixes last)

  pub seeds_count : length s.seeds / 16 ≡ reports
  seeds_count = omega (arith, s.as_many)

  -- the kept node of a report at such a prefix
  pub stands_at : (e : Expander) (last : List ℕ) (nodes : List Node) → Stands e last nodes → (i : ℕ) → i < reports → (p : Bits) → p ∈ last_prefixes last
      → kept_node last nodes i p ≡ walked_node s e i p
  unfolding kept_node
  stands_at e last nodes st i h p m =
      let qs : List Bits = last_prefixes last in
      let w = place_is p qs m in
      let at : ℕ = i * length qs + place_in p qs in
      sym (get_or-take (reports * length qs) nodes at no_node (place_inside (walked_node s e) qs reports i (place_in p qs) h w.0))
      ∙ ap (λ (l : List Node). get_or l at no_node) st.stand
      ∙ by_report_at (walked_node s e) qs reports i (place_in p qs) h w.0
      ∙ ap (walked_node s e i) w.1

  -- ---- at the roots

  only_empty : {p : Bits} → p ∈ start → p ≡ []
  only_empty (here e) = e
  only_empty {p = p} (further h) = elim h [ ]

  root_walked : (e : Expander) (i : ℕ) (p : Bits) → p ∈ start → record { seed = seed_at s.seeds i; bit = s.server } ≡ walked_node s e i p
  unfolding node
  root_walked e i p m = rw (only_empty m)

  roots_walked : (e : Expander) → roots s.server s.seeds ≡ report_by_report reports (walked_node s e) start
  unfolding roots
  roots_walked e = rw seeds_count (by_report_same _ (walked_node s e) start reports (λ i h p m. root_walked e i p m))

  roots_stand : (e : Expander) (nodes : List Node) → take reports nodes ≡ roots s.server s.seeds → Stands e [] nodes
  roots_stand e nodes h =
      let one : reports * 1 ≡ reports = omega arith in
      record { a_last = refl; stand = ap (λ (m : ℕ). take m nodes) one ∙ h ∙ roots_walked e }

  -- ---- one call further down

  module _ (e : Expander) (last query : List ℕ) (nodes : List Node) (st : Stands e last nodes) (asks : is_query s.n query ≡ true)
      (found : parent_missing last query ≡ false) where
    module _ (i : ℕ) (h : i < reports) (q : Bits) (m : q ∈ prefixes_of query) where
      some_bit : 0 < length q
      some_bit =
          let w = in_at m in
          omega (arith, ap length w.2, one_longer s.n last query st.a_last asks found w.0 (omega (arith, w.1, prefixes_length query)))

      parent_kept : kept_node last nodes i (parent q) ≡ walked_node s e i (parent q)
      parent_kept =
          let w = in_at m in
          stands_at e last nodes st i h (parent q)
          (subst (λ (x : Bits). parent x ∈ last_prefixes last) w.2
          (parent_there s.n last query st.a_last asks found w.0 (omega (arith, w.1, prefixes_length query))))

      pub below_walked : node_below s.n s.shares last nodes e i q ≡ walked_node s e i q
      unfolding node_below word_for
      below_walked =
          rw parent_kept
          (sym (node_down (scheme e) (read_correction s.n (public_share_at s.n s.shares i)) (seed_at s.seeds i) s.server q some_bit))

      pub share_walked : share_from s.n s.shares last nodes e s.server i q
          ≡ lent_share e s.n s.server s.seeds s.shares (bit_of q) (length q) i
      unfolding share_from word_for lent_share
      share_walked =
          rw parent_kept
          (sym (share_down (scheme e) (read_correction s.n (public_share_at s.n s.shares i)) (seed_at s.seeds i) s.server q some_bit))

    -- what is written is what the walk writes
    pub bytes_walked : kept_share s.n s.shares last nodes e s.server query ≡ share_bytes s.n s.server s.seeds s.shares query e
    unfolding kept_share share_bytes server_sum
    bytes_walked =
        let count : report_count s.n s.seeds s.shares ≡ reports = min-eq_left (omega (arith, seeds_count)) ∙ seeds_count in
        totals_same _ _ (prefixes_of query) (λ q m. rw count (sum_same all_count reports (λ i h. share_walked i h q m)))

    new_walked : new_nodes s.n s.shares last nodes e query ≡ report_by_report reports (walked_node s e) (prefixes_of query)
    unfolding new_nodes
    new_walked = by_report_same _ (walked_node s e) (prefixes_of query) reports below_walked

    -- so do the new nodes stand at the prefixes of the new query, in any list that has them first
    new_stand : (left : List Node)
        → take (reports * length (prefixes_of query)) left ≡ take (reports * length (prefixes_of query)) (overlay (new_nodes s.n s.shares last nodes e query) nodes)
        → Stands e query left
    new_stand left h =
        let new : List Node = new_nodes s.n s.shares last nodes e query in
        let l = query_last s.n query asks in
        record {
          a_last = l.0;
          stand = rw l.1 (h ∙ overlay_first new nodes _ (new_nodes_length s.n s.shares last nodes e query) ∙ new_walked);
        }

  -- ---- call after call

  pub reached_stands : (e : Expander) → choice_of s.expander ≡ Some e → {last : List ℕ} {nodes : List Node} → Reached s last nodes → Stands e last nodes
  reached_stands e named (at_roots nodes h) = roots_stand e nodes h
  reached_stands e named (after last query nodes left area r h same) =
      let c : KeptLent = call s last query nodes area in
      let d = kept_ready c h in
      new_stand e last query nodes (reached_stands e named r) d.a_query_lem d.parented left
      (same ∙ ap (take (reports * length (prefixes_of query))) (nodes_accepted c e named h))

-- 'the seed and control bit for each report at each prefix of the last query', 'report by report, prefixes in query order'
pub reached_nodes : (s : Session) (e : Expander) (last : List ℕ) (nodes : List Node) → choice_of s.expander ≡ Some e → Reached s last nodes
    → take (share_count s.n s.shares * length (last_prefixes last)) nodes ≡ report_by_report (share_count s.n s.shares) (walked_node s e) (last_prefixes last)
reached_nodes s e last nodes named r = (reached_stands s e named r).stand
