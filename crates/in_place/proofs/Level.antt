-- All turns of a task whose parents are found: the places, the nodes and the sums after s of them.
use Prim.Native.Nat.{ℕ, zero, suc, ◌+◌, ◌-◌, ◌*◌, ◌/◌, ◌%◌, ◌≤◌, ◌<◌}
use native.Mathlib.Omega.{arith}
use native.Mathlib.Decide.{dec_lt}
use native.Mathlib.Nat.{mod-lt}
use mathlib.Core.Path.{◌≡◌, refl, sym, ap, ap₂, ◌∙◌}
use mathlib.Core.Bool.{Bool, true, false, cond}
use mathlib.Core.List.{List}
use borrow.Author.Tests.{lt-ltb, le-ltb, ne_eqb}
use lib.ListN.{length, get_or, set}
use lib.Seq.{set-get_or}
use lib.Dec.{eqb, ltb}
use Rattle.bits.specs.Packing.{bits_of}
use Rattle.point.specs.Correction.{Correction}
use Rattle.point.specs.Evaluation.{descend, share_below}
use Rattle.point.specs.PublicShare.{read_correction}
use Rattle.point.specs.Instance.{scheme}
use Rattle.query.specs.Prefix.{packed_prefix}
use Rattle.nodes.specs.declared.Node.{Node}
use Rattle.nodes.specs.NodeLayout.{node_of}
use Rattle.report_sums.specs.Reports.{public_share_at}
use Rattle.parents.specs.Lookup.{is_parent, looked_up}
use Rattle.turns.specs.declared.Task.{Task}
use Rattle.turns.specs.declared.Place.{Place}
use Rattle.turns.specs.Turns.{struct_of, no_struct, place_for, first_place, next_place, turned_node, turned_sums, place_at, nodes_at, sums_at}
use Rattle.in_place.proofs.InTurns.{target_of, due_of, Stands, stands_first, reads_old, stands_due, stands_not}
use Rattle.in_place.proofs.Sources.{source_of}
use Rattle.in_place.proofs.SumsInTurns.{SumsStand, sums_not, sums_due}

-- how many new nodes a task makes
abbrev pub new_count : Task → ℕ
new_count t = t.reports * t.after

-- the correction word of report i, and the last bit of prefix j
abbrev pub word_of : Task → List ℕ → ℕ → Correction ℕ
word_of t shares i = read_correction t.levels (public_share_at t.levels shares i) t.level

abbrev pub bit_at : Task → List ℕ → ℕ → Bool
bit_at t query j = get_or (bits_of (packed_prefix query j)) t.level false

-- what new node T is made of the node at its parent
abbrev pub made : Task → List ℕ → List ℕ → ℕ → Node → Node
made t shares query T m = struct_of (descend (scheme t.expander) (word_of t shares (T / t.after)) (bit_at t query (T % t.after)) (node_of m))

-- the tests and targets of the turns, from the turns left
left_up : (N s : ℕ) → s < N + N → ltb N (N + N - s) ≡ ltb s N
left_up N s h = elim (dec_lt s N) [
  | yes a ↦ lt-ltb N (N + N - s) (omega arith) ∙ sym (lt-ltb s N a)
  | no a ↦ le-ltb N (N + N - s) (omega arith) ∙ sym (le-ltb s N (omega arith))
]

left_target : (N s : ℕ) → s < N + N → cond (ltb s N) (N + N - (N + N - s)) (N + N - s - 1) ≡ target_of N s
left_target N s h =
    let e : N + N - (N + N - s) ≡ s = omega arith in
    let k : N + N - s - 1 ≡ N + N - suc s = omega arith in
    ap₂ (λ (x y : ℕ). cond (ltb s N) x y) e k

after_some : (r m : ℕ) → 0 < r * m → 0 < m
after_some r zero h = absurd (omega arith)
after_some r (suc m) h = omega arith

module _ (t : Task) (shares last query : List ℕ) (π : ℕ → ℕ) where
  -- turn s
  abbrev pub turn_of : ℕ → Place
  turn_of s =
      let T = target_of (new_count t) s in
      let due = due_of (new_count t) (source_of t.before t.after π) s in
      record {
        left = new_count t + new_count t - s;
        report = T / t.after;
        prefix = T % t.after;
        parent = π (T % t.after);
        due = due;
        source = cond due (source_of t.before t.after π T) T;
        target = T;
      }

  module _ (found : (j : ℕ) → j < t.after → (up : Bool) (hint : ℕ) → looked_up up (is_parent last (packed_prefix query j) t.level) t.before hint ≡ π j) where
    placed : (s hint : ℕ) → s < new_count t + new_count t → place_for t last query (new_count t + new_count t - s) hint ≡ turn_of s
    unfolding place_for
    placed s hint h =
        let N : ℕ = new_count t in
        let some : 0 < t.after = after_some t.reports t.after (omega arith) in
        let a : eqb (N + N - s) 0 ≡ false = ne_eqb (N + N - s) 0 (λ z. omega arith) in
        let b : eqb N 0 ≡ false = ne_eqb N 0 (λ z. omega arith) in
        rw (a, b, left_up N s h, left_target N s h, found (target_of N s % t.after) (mod-lt (target_of N s) some) (ltb s N) hint)

    -- the place after s turns
    pub place_is : (s : ℕ) → s < new_count t + new_count t → place_at t shares last query (first_place t last query) s ≡ turn_of s
    unfolding place_at first_place next_place
    place_is zero h =
        let e : 2 * new_count t ≡ new_count t + new_count t - 0 = omega arith in
        ap (λ (k : ℕ). place_for t last query k 0) e ∙ placed 0 0 h
    place_is (suc s) h =
        let before : place_at t shares last query (first_place t last query) s ≡ turn_of s = place_is s (omega arith) in
        let e : new_count t + new_count t - s - 1 ≡ new_count t + new_count t - suc s = omega arith in
        ap (λ (at : Place). place_for t last query (at.left - 1) at.parent) before
        ∙ ap (λ (k : ℕ). place_for t last query k (turn_of s).parent) e ∙ placed (suc s) (turn_of s).parent h

    -- S rises, and there are as many nodes as are made
    module _ (rises : (x y : ℕ) → x ≤ y → y < new_count t → source_of t.before t.after π x ≤ source_of t.before t.after π y)
        (l : List Node) (room : new_count t ≤ length l) where
      abbrev S : ℕ → ℕ
      S = source_of t.before t.after π

      -- the nodes after s turns
      abbrev pub nodes_now : ℕ → List Node
      nodes_now s = nodes_at t shares last query (first_place t last query) l s

      pub nodes_stand : (s : ℕ) → s ≤ new_count t + new_count t → Stands (new_count t) S (made t shares query) no_struct l s (nodes_now s)
      unfolding nodes_at turned_node
      nodes_stand zero h = stands_first (new_count t) S (made t shares query) no_struct l
      nodes_stand (suc s) h =
          rw (place_is s (omega arith)) (go (due_of (new_count t) S s) refl (nodes_stand s (omega arith)))
        where
          go : (b : Bool) → due_of (new_count t) S s ≡ b → Stands (new_count t) S (made t shares query) no_struct l s (nodes_now s)
              → Stands (new_count t) S (made t shares query) no_struct l (suc s)
              (set (nodes_now s) (target_of (new_count t) s) (turned_node t shares query (turn_of s) (get_or (nodes_now s) (turn_of s).source no_struct)))
          go true e g = rw e (stands_due (new_count t) S (made t shares query) no_struct l rises room s (omega arith) (nodes_now s) g e)
          go false e g =
              rw (e, set-get_or (nodes_now s) (target_of (new_count t) s) no_struct)
              (stands_not (new_count t) S (made t shares query) no_struct l rises room s (omega arith) (nodes_now s) g e)

      -- the server's share of report i at prefix j
      abbrev pub share_of : ℕ → ℕ → ℕ
      share_of i j = share_below (scheme t.expander) t.server (word_of t shares i) (bit_at t query j) (node_of (get_or l (i * t.before + π j) no_struct))

      module _ (rest o : List ℕ) (first : SumsStand t.reports t.after S share_of rest 0 o) where
        -- the sums after s turns
        abbrev pub sums_now : ℕ → List ℕ
        sums_now s = sums_at t shares last query (first_place t last query) l o s

        pub sums_stand : (s : ℕ) → s ≤ new_count t + new_count t → SumsStand t.reports t.after S share_of rest s (sums_now s)
        unfolding sums_at turned_sums
        sums_stand zero h = first
        sums_stand (suc s) h =
            rw (place_is s (omega arith)) (go (due_of (new_count t) S s) refl (sums_stand s (omega arith)))
          where
            go : (b : Bool) → due_of (new_count t) S s ≡ b → SumsStand t.reports t.after S share_of rest s (sums_now s)
                → SumsStand t.reports t.after S share_of rest (suc s)
                (turned_sums t shares query (turn_of s) (get_or (nodes_now s) (turn_of s).source no_struct) (sums_now s))
            go true e g =
                let T : ℕ = target_of (new_count t) s in
                let old : get_or (nodes_now s) (S T) no_struct ≡ get_or l (S T) no_struct =
                reads_old (new_count t) S (made t shares query) no_struct l rises room s (omega arith) (nodes_now s) (nodes_stand s (omega arith)) e in
                rw e
                (sums_due t.reports t.after S share_of rest s (omega arith) (sums_now s) g (after_some t.reports t.after (omega arith)) e _
                (ap (λ (m : Node). share_below (scheme t.expander) t.server (word_of t shares (T / t.after)) (bit_at t query (T % t.after)) (node_of m)) old))
            go false e g = rw e (sums_not t.reports t.after S share_of rest s (omega arith) (sums_now s) g e)
