-- A task that no cause refuses: what its turns make is what the list of nodes one level down is made of.
use Prim.Native.Nat.{ℕ, ◌+◌, ◌-◌, ◌*◌, ◌/◌, ◌%◌, ◌≤◌, ◌<◌}
use native.Mathlib.Omega.{arith}
use native.Mathlib.Nat.{mod-lt, div-add-mod'}
use mathlib.Core.Path.{◌≡◌, refl, sym, ap, ap₂, subst, ◌∙◌}
use mathlib.Core.Bool.{Bool, true, false, cond}
use mathlib.Core.List.{List, [], ◌++◌, map}
use lib.ListN.{length, get_or, drop, replicate, length-map, length-replicate, get_or-map}
use lib.Seq.{ext_get_or}
use Rattle.places.specs.Places.{overlay}
use Rattle.bits.specs.Strings.{Bits}
use Rattle.bits.specs.Packing.{bits_of}
use Rattle.numbers.specs.Numbers.{in_bytes}
use Rattle.group.specs.Modular.{field}
use Rattle.group.proofs.Modular.{field_laws}
use Rattle.point.specs.Evaluation.{descend}
use Rattle.point.specs.PublicShare.{read_correction}
use Rattle.point.specs.Instance.{scheme}
use Rattle.query.specs.Query.{prefix_length, prefix_count, prefixes_of}
use Rattle.query.specs.Prefix.{packed_prefix}
use Rattle.query.proofs.Ready as queries
use Rattle.tree.proofs.Lengths.{totals_length}
use Rattle.nodes.specs.declared.Node.{Node}
use Rattle.nodes.specs.NodeLayout.{node_of}
use Rattle.report_sums.specs.Reports.{public_share_at, all_count, sum_where}
use Rattle.parents.specs.Parents.{last_prefixes, parent, last_bit, place_in}
use Rattle.parents.specs.Lookup.{last_count, last_length, is_parent, looked_up}
use Rattle.parents.proofs.Last.{last_count_lem, prefixes_length}
use Rattle.parents.proofs.Parented.{query_longer, one_longer, last_bit_lem, place_below, looked_up_lem, places_rise}
use Rattle.node_lists.specs.NodeList.{share_count, no_node, kept_node, word_for, node_below, share_from, new_nodes, kept_share}
use Rattle.node_lists.proofs.ByReport.{by_report_length, by_report_at}
use Rattle.node_lists.proofs.KeptOutcome.{Ready}
use Rattle.node_lists.proofs.Overlaid.{get_d_any, overlaid, mapped_at}
use Rattle.turns.specs.declared.Task.{Task}
use Rattle.turns.specs.Turns.{no_struct, task_under, cleared, first_place, place_at, nodes_at, sums_at}
use Rattle.in_place.proofs.AnyOrder.{sum_values}
use Rattle.in_place.proofs.Added.{in_bytes_zeros}
use Rattle.in_place.proofs.Sources.{source_of, place_inside, report_below, source_below, sources_rise}
use Rattle.in_place.proofs.InTurns.{target_of, target_below, due_of, Stands, stands_last}
use Rattle.in_place.proofs.SumsInTurns.{sum_last, SumsStand, sums_first}
use Rattle.in_place.proofs.Level.{new_count, word_of, bit_at, made, place_is, nodes_stand, share_of, sums_stand}

module _ (n e : ℕ) (b : Bool) (shares last query : List ℕ) (l : List Node) (area : List ℕ) (r : Ready n e shares last query (length l) (length area)) where
  -- the task
  abbrev pub task : Task
  task = task_under r.expander n b shares last query

  -- the new prefix j, and the place of its parent
  abbrev pub prefix_at : ℕ → Bits
  prefix_at j = get_or (prefixes_of query) j []

  abbrev pub parent_at : ℕ → ℕ
  parent_at j = place_in (parent (prefix_at j)) (last_prefixes last)

  -- ---- what the laws of parents say

  level_is : prefix_length query - 1 ≡ last_length last
  level_is = omega (arith, query_longer n last query r.a_last r.a_query_lem r.parented)

  pub found : (j : ℕ) → j < prefix_count query → (up : Bool) (hint : ℕ)
      → looked_up up (is_parent last (packed_prefix query j) (prefix_length query - 1)) (last_count last) hint ≡ parent_at j
  found j h up hint =
      ap (λ (k : ℕ). looked_up up (is_parent last (packed_prefix query j) k) (last_count last) hint) level_is
      ∙ looked_up_lem n last query r.a_last r.a_query_lem r.parented j h up hint

  some : 0 < prefix_count query
  some = (queries.ready n query r.a_query_lem).some

  below : (j : ℕ) → j < prefix_count query → parent_at j < last_count last
  below = place_below n last query r.a_last r.a_query_lem r.parented

  pub rises : (x y : ℕ) → x ≤ y → y < new_count task → source_of (last_count last) (prefix_count query) parent_at x ≤ source_of (last_count last) (prefix_count query) parent_at y
  rises x y h k =
      sources_rise (last_count last) (prefix_count query) parent_at some below (places_rise n last query r.a_last r.a_query_lem r.parented) x y h

  pub room : new_count task ≤ length l
  room = omega (arith, r.query_nodes, ap (λ (m : ℕ). share_count n shares * m) (prefixes_length query))

  source_inside : (T : ℕ) → T < new_count task → source_of (last_count last) (prefix_count query) parent_at T < length l
  source_inside T h =
      omega (
        arith,
        source_below (last_count last) (prefix_count query) parent_at some below (share_count n shares) T h,
        r.last_nodes,
        ap (λ (m : ℕ). share_count n shares * m) (last_count_lem last),
      )

  -- each turn reads and writes within the list
  pub turns_within : (s : ℕ) → s < new_count task + new_count task
      → ((place_at task shares last query (first_place task last query) s).source < length l) × ((place_at task shares last query (first_place task last query) s).target < length l)
  turns_within s h =
      let T : ℕ = target_of (new_count task) s in
      let t : T < new_count task = target_below (new_count task) s h in
      let inside : T < length l = omega (arith, room) in
      rw (place_is task shares last query parent_at found s h) (go (due_of (new_count task) (source_of (last_count last) (prefix_count query) parent_at) s) T (source_inside T t) inside, inside)
    where
      go : (c : Bool) (x : ℕ) {y : ℕ} → y < length l → x < length l → cond c y x < length l
      go true x a d = a
      go false x a d = d

  -- ---- one node and one share

  module _ (i j : ℕ) (hi : i < share_count n shares) (hj : j < prefix_count query) where
    length_is : prefix_length query - 1 ≡ length (prefix_at j) - 1
    length_is = omega (arith, level_is, one_longer n last query r.a_last r.a_query_lem r.parented j hj)

    word_is : word_of task shares i ≡ word_for n shares i (prefix_at j)
    unfolding word_for
    word_is = ap (read_correction n (public_share_at n shares i)) length_is

    bit_is : bit_at task query j ≡ last_bit (prefix_at j)
    bit_is =
        ap (λ (k : ℕ). get_or (bits_of (packed_prefix query j)) k false) level_is
        ∙ last_bit_lem n last query r.a_last r.a_query_lem r.parented j hj

    node_is : node_of (get_or l (i * last_count last + parent_at j) no_struct) ≡ kept_node last (map node_of l) i (parent (prefix_at j))
    unfolding kept_node
    node_is =
        let at : i * last_count last + parent_at j < length l =
        omega (
          arith,
          place_inside i (parent_at j) (last_count last) (share_count n shares) hi (below j hj),
          r.last_nodes,
          ap (λ (m : ℕ). share_count n shares * m) (last_count_lem last),
        ) in
        sym (mapped_at node_of l (i * last_count last + parent_at j) no_struct no_node at)
        ∙ ap (λ (m : ℕ). get_or (map node_of l) (i * m + parent_at j) no_node) (sym (last_count_lem last))

    pub below_is : descend (scheme r.expander) (word_of task shares i) (bit_at task query j) (node_of (get_or l (i * last_count last + parent_at j) no_struct))
        ≡ node_below n shares last (map node_of l) r.expander i (prefix_at j)
    unfolding node_below
    below_is = rw (word_is, bit_is, node_is)

    pub share_is : share_of task shares last query parent_at found rises l room i j ≡ share_from n shares last (map node_of l) r.expander b i (prefix_at j)
    unfolding share_from
    share_is = rw (word_is, bit_is, node_is)

  -- ---- all nodes

  new_count_lem : length (new_nodes n shares last (map node_of l) r.expander query) ≡ new_count task
  unfolding new_nodes
  new_count_lem = by_report_length _ (prefixes_of query) (share_count n shares) ∙ ap (λ (m : ℕ). share_count n shares * m) (prefixes_length query)

  new_at : (T : ℕ) → T < new_count task
      → get_or (new_nodes n shares last (map node_of l) r.expander query) T no_node ≡ node_below n shares last (map node_of l) r.expander (T / prefix_count query) (prefix_at (T % prefix_count query))
  unfolding new_nodes
  new_at T h =
      let m : ℕ = prefix_count query in
      let j : T % m < length (prefixes_of query) = rw (prefixes_length query) (mod-lt T some) in
      let whole : T ≡ T / m * length (prefixes_of query) + T % m =
      sym (div-add-mod' T m) ∙ ap (λ (k : ℕ). T / m * k + T % m) (sym (prefixes_length query)) in
      ap (λ (k : ℕ). get_or (new_nodes n shares last (map node_of l) r.expander query) k no_node) whole
      ∙ by_report_at _ (prefixes_of query) (share_count n shares) (T / m) (T % m) (report_below T m (share_count n shares) some h) j

  pub nodes_end : map node_of (nodes_at task shares last query (first_place task last query) l (new_count task + new_count task))
      ≡ overlay (new_nodes n shares last (map node_of l) r.expander query) (map node_of l)
  nodes_end =
      let N : ℕ = new_count task in
      let S : ℕ → ℕ = source_of (last_count last) (prefix_count query) parent_at in
      let done : List Node = nodes_at task shares last query (first_place task last query) l (N + N) in
      let g : Stands N S (made task shares query) no_struct l (N + N) done = nodes_stand task shares last query parent_at found rises l room (N + N) (omega arith) in
      let count : length (new_nodes n shares last (map node_of l) r.expander query) ≡ N = new_count_lem in
      overlaid (new_nodes n shares last (map node_of l) r.expander query) (map node_of l) (node_of no_struct) (map node_of done)
      (length-map done node_of ∙ g.size ∙ sym (length-map l node_of))
      (omega (arith, room, length-map l node_of))
      (λ T h.
      get_or-map node_of done T no_struct
      ∙ ap node_of (stands_last N S (made task shares query) no_struct l (N + N) done refl g T (omega arith))
      ∙ below_is (T / prefix_count query) (T % prefix_count query) (report_below T (prefix_count query) (share_count n shares) some (omega arith)) (mod-lt T some)
      ∙ sym (get_d_any (new_nodes n shares last (map node_of l) r.expander query) T (node_of no_struct) no_node h ∙ new_at T (omega arith)))
      (λ T h. get_or-map node_of done T no_struct ∙ ap node_of (g.spare T (omega arith)) ∙ sym (get_or-map node_of l T no_struct))

  -- ---- all sums

  -- the space when the task is made: zeros, and what follows
  pub cleared_is : cleared task area ≡ in_bytes (replicate (prefix_count query) 0) ++ drop (8 * prefix_count query) area
  unfolding cleared overlay
  cleared_is =
      ap₂ (λ (zs : List ℕ) (k : ℕ). zs ++ drop k area) (sym (in_bytes_zeros (prefix_count query))) (length-replicate (8 * prefix_count query) 0)

  -- the sum at a prefix
  abbrev sum_at : Bits → ℕ
  sum_at q = sum_where field all_count (share_count n shares) (λ i. share_from n shares last (map node_of l) r.expander b i q)

  pub sums_end : sums_at task shares last query (first_place task last query) l (cleared task area) (new_count task + new_count task)
      ≡ overlay (kept_share n shares last (map node_of l) r.expander b query) area
  unfolding kept_share overlay
  sums_end =
      let R : ℕ = share_count n shares in
      let m : ℕ = prefix_count query in
      let N : ℕ = new_count task in
      let S : ℕ → ℕ = source_of (last_count last) (prefix_count query) parent_at in
      let h : ℕ → ℕ → ℕ = share_of task shares last query parent_at found rises l room in
      let rest : List ℕ = drop (8 * m) area in
      let first : SumsStand R m S h rest 0 (cleared task area) = subst (λ (o : List ℕ). SumsStand R m S h rest 0 o) (sym cleared_is) (sums_first R m S h rest) in
      let g = sums_stand task shares last query parent_at found rises l room rest (cleared task area) first (N + N) (omega arith) in
      let count : length (prefixes_of query) ≡ m = prefixes_length query in
      let same : g.numbers ≡ map sum_at (prefixes_of query) =
      ext_get_or 0 g.numbers (map sum_at (prefixes_of query)) (g.size ∙ sym (length-map (prefixes_of query) sum_at ∙ count))
      (λ j k.
      let hj : j < m = rw g.size at k in
      g.value j hj ∙ sum_last field field_laws R m S h (N + N) j refl hj
      ∙ sum_values field all_count R (λ i. h i j) (λ i. share_from n shares last (map node_of l) r.expander b i (prefix_at j)) (λ i hi. share_is i j hi hj)
      ∙ sym (mapped_at sum_at (prefixes_of query) j [] 0 (omega arith))) in
      let size : length (in_bytes (map sum_at (prefixes_of query))) ≡ 8 * m = totals_length sum_at (prefixes_of query) ∙ ap (λ (k : ℕ). 8 * k) count in
      g.parts ∙ ap₂ (λ (ns : List ℕ) (k : ℕ). in_bytes ns ++ drop k area) same (sym size)
