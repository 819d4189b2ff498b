-- The search played with kept nodes leaves what it leaves with `share`, where each server's nodes are enough.
use mathlib.Core.Path.{◌≡◌, refl, sym, ap, ap₂, ◌∙◌, subst}
use mathlib.Core.Bool.{Bool, true, false, cond}
use mathlib.Core.List.{List, [], ◌∷◌}
use mathlib.Core.Option.{some}
use Prim.Native.Nat.{ℕ, zero, suc, ◌+◌, ◌*◌, ◌/◌, ◌≤◌, ◌<◌}
use native.Mathlib.Nat.{mul-div_right}
use native.Mathlib.Omega.{arith}
use borrow.Author.Tests.{le-ltb, eq-eqb, ne_eqb, leb-true}
use lib.ListN.{length, replicate, length-replicate}
use lib.Dec.{leb}
use Rattle.places.specs.Lists.{◌∈◌, select}
use Rattle.places.proofs.Lists.{and_left, and_right, all_mem, all_each, all_select}
use Rattle.bits.specs.Strings.{Bits, Ascending}
use Rattle.calls.specs.Outcome.{Outcome}
use Rattle.point.specs.Node.{Node}
use Rattle.point.specs.PublicShare.{public_share_length}
use Rattle.query.specs.Query.{OfLength, query, limit, children, prefix_count, prefixes_of}
use Rattle.query.proofs.Children.{children_ascending, select_ascending, kept_longer}
use Rattle.tree.specs.SearchRule.{start, kept_from, fits_from, is_kept, search_list, search_fits}
use Rattle.combine.specs.Answer.{Answer, next, list, ended, answer_at, answer_bytes, kind}
use Rattle.combine.specs.Combine.{passes_limit}
use Rattle.search.specs.Search.{Lent, reports, reaches_of, total, queries_fit}
use Rattle.search.proofs.Outcome.{Whole, Sound}
use Rattle.parents.specs.Parents.{last_prefixes, parent_missing}
use Rattle.node_lists.specs.NodeList.{share_count}
use Rattle.node_lists.specs.ShareKept.{kept_outcome, nodes_after}
use Rattle.node_lists.specs.Sessions.{Session, Reached, after}
use Rattle.node_lists.proofs.KeptOutcome.{nodes_as_many}
use Rattle.node_lists.proofs.RootsOutcome.{whole_roots, roots_as_many, roots_reached}
use Rattle.node_lists.proofs.Chain.{query_last}
use Rattle.node_lists.proofs.Following.{kept_follows, next_has_parents}
use Rattle.honest.specs.Loop.{Passes, first_query, round, follow, share_of, share_for, totals_for, played, kept_at}
use Rattle.kept_search.specs.KeptLoop.{Keeping, begun, kept_call, kept_on, round_with, kept_played}
use Rattle.honest.proofs.Round.{passes, read, round_share}
use Rattle.honest.proofs.Playing.{written_is, kind_is}
use Rattle.honest.proofs.Loop.{passing}

-- what passes a test stands in the list
select_in : (f : Bits → Bool) (xs : List Bits) {x : Bits} → x ∈ select f xs → x ∈ xs
select_in f xs m = all_mem (λ x. x ∈ xs) (all_select (λ x. x ∈ xs) f xs (all_each _ xs (λ x i _. i))) m

module _ (s : Lent) (sound : Sound s) where
  abbrev keeps : Bits → Bool
  keeps = is_kept (reaches_of s) (total s)

  lent_whole : (b : Bool) → Whole s.n (cond b s.seeds1 s.seeds0) (cond b s.shares1 s.shares0) (reports s)
  lent_whole false = sound.lent0
  lent_whole true = sound.lent1

  share_count_lem : (b : Bool) → share_count s.n (cond b s.shares1 s.shares0) ≡ reports s
  share_count_lem b = ap (λ (l : ℕ). l / public_share_length s.n) (lent_whole b).shares_length ∙ mul-div_right (reports s) (omega (arith, sound.some_bits))

  -- server b's calls are one session
  abbrev session : Bool → Session
  session b = record {
    n = s.n;
    expander = s.expander;
    server = b;
    seeds = cond b s.seeds1 s.seeds0;
    shares = cond b s.shares1 s.shares0;
    as_many = (lent_whole b).seeds_length ∙ ap (λ (m : ℕ). 16 * m) (sym (share_count_lem b));
  }

  -- The servers may go on from the prefixes ps: each has its nodes as its calls left them, as many as lent, and the last query held ps.
  record Going (nodes : Bool → List Node) (k : Keeping) (ps : List Bits) : Type 0 where
    reached : (b : Bool) → Reached (session b) k.last (k.nodes b)
    as_lent : (b : Bool) → length (k.nodes b) ≡ length (nodes b)
    held : (p : Bits) → p ∈ ps → p ∈ last_prefixes k.last

  -- One round, as with `share`.
  module _ (nodes : Bool → List Node) (g : Keeping) (k : ℕ) (short : k < s.n) (ps : List Bits) (some_kept : 1 ≤ length ps)
      (few : length (children ps) ≤ limit) (sized : OfLength k ps) (sorted : Ascending ps) (going : Going nodes g ps)
      (enough : (b : Bool) → reports s * length (children ps) ≤ length (nodes b)) where
    abbrev q : List ℕ
    q = query k (children ps)

    abbrev reads : prefixes_of q ≡ children ps
    reads = read s sound k short ps some_kept few sized sorted

    -- each server's call has the outcome that `share` has
    same_outcome : (b : Bool) → kept_outcome (kept_call s b g q) ≡ share_of s b q
    same_outcome b =
        let now : share_count s.n (cond b s.shares1 s.shares0) * length (prefixes_of q) ≤ length (g.nodes b) =
        rw (share_count_lem b, reads) (omega (arith, enough b, going.as_lent b)) in
        let found : parent_missing g.last q ≡ false =
        next_has_parents g.last k ps going.held (omega (arith, sound.not_longer)) (omega arith) sized in
        let room : length (replicate {A = ℕ} (8 * prefix_count q) 0) ≡ 8 * prefix_count q = length-replicate (8 * prefix_count q) 0 in
        rw room at (kept_follows (session b) g.last q (g.nodes b) (replicate (8 * prefix_count q) 0) (going.reached b) now found)

    -- and the servers may go on from those of the children that are kept
    goes_on : Going nodes (kept_on s g q) (select keeps (children ps))
    goes_on = record {
      reached = λ b.
          after g.last q (g.nodes b) (nodes_after (kept_call s b g q)) (replicate (8 * prefix_count q) 0) (going.reached b)
          (ap (λ (o : Outcome). o.number) (same_outcome b ∙ round_share s sound k short ps some_kept few sized sorted b)) refl;
      as_lent = λ b. nodes_as_many (kept_call s b g q) ∙ going.as_lent b;
      held = λ p m.
          subst (λ (ls : List Bits). p ∈ ls) (sym ((query_last s.n q (passes s sound k short ps some_kept few sized sorted)).1 ∙ reads))
          (select_in keeps (children ps) m);
    }

    module _ (a : Answer) (is : answer_at s.n (suc k) (select keeps (children ps)) ≡ a) (within : passes_limit a ≡ false) where
      rounds_same : (m : ℕ) → follow (kept_played s m (kept_on s g q)) (some (kind a)) (answer_bytes (suc k) a) ≡ follow (played s m) (some (kind a)) (answer_bytes (suc k) a)
          → kept_played s (suc m) g q ≡ played s (suc m) q
      unfolding kept_played played
      rounds_same m h =
          let share-same : (b : Bool) → (kept_outcome (kept_call s b g q)).written ≡ share_for s b q = λ b. ap (λ (o : Outcome). o.written) (same_outcome b) in
          let kinds = kind_is s sound k short ps some_kept few sized sorted a is within in
          let bytes = written_is s sound k short ps some_kept few sized sorted a is within in
          ap₂ (λ (x y : List ℕ). round_with s q x y (kept_played s m (kept_on s g q))) (share-same false) (share-same true)
          ∙ ap (round q (totals_for s q)) (ap₂ (follow (kept_played s m (kept_on s g q))) kinds bytes ∙ h ∙ sym (ap₂ (follow (played s m)) kinds bytes))

  -- From any level on, where the nodes are enough for every query from there.
  play_same : (nodes : Bool → List Node) (m : ℕ) (g : Keeping) (k : ℕ) (ps : List Bits) → k + suc m ≡ s.n → 1 ≤ length ps → OfLength k ps → Ascending ps
      → fits_from keeps (suc m) ps ≡ true → Going nodes g ps
      → ((b : Bool) (j : ℕ) → j < suc m → reports s * length (children (kept_from keeps j ps)) ≤ length (nodes b))
      → kept_played s (suc m) g (query k (children ps)) ≡ played s (suc m) (query k (children ps))
  play_same nodes zero g k ps at some_kept sized sorted fits going enough =
      let few : length (children ps) ≤ limit = leb-true (length (children ps)) limit (and_left (leb (length (children ps)) limit) _ fits) in
      let end : suc k ≡ s.n = omega (arith, at) in
      rounds_same nodes g k (omega (arith, at)) ps some_kept few sized sorted going (λ b. enough b 0 (omega arith))
      (list (select keeps (children ps))) (rw (eq-eqb (suc k) s.n end)) refl zero refl
  play_same nodes (suc m) g k ps at some_kept sized sorted fits going enough =
      go (select keeps (children ps)) refl (play_same nodes m (kept_on s g (query k (children ps))) (suc k) (select keeps (children ps)) (omega (arith, at)))
    where
      short : k < s.n
      short = omega (arith, at)

      few : length (children ps) ≤ limit
      few = leb-true (length (children ps)) limit (and_left (leb (length (children ps)) limit) _ fits)

      below : suc k ≡ s.n → ⊥
      below e = omega (arith, at, e)

      later : fits_from keeps (suc m) (select keeps (children ps)) ≡ true
      later = and_right (leb (length (children ps)) limit) _ fits

      now : (b : Bool) → reports s * length (children ps) ≤ length (nodes b)
      now b = enough b 0 (omega arith)

      go : (ks : List Bits) → select keeps (children ps) ≡ ks
          → (1 ≤ length (select keeps (children ps)) → OfLength (suc k) (select keeps (children ps)) → Ascending (select keeps (children ps))
          → fits_from keeps (suc m) (select keeps (children ps)) ≡ true → Going nodes (kept_on s g (query k (children ps))) (select keeps (children ps))
          → ((b : Bool) (j : ℕ) → j < suc m → reports s * length (children (kept_from keeps j (select keeps (children ps)))) ≤ length (nodes b))
          → kept_played s (suc m) (kept_on s g (query k (children ps))) (query (suc k) (children (select keeps (children ps))))
          ≡ played s (suc m) (query (suc k) (children (select keeps (children ps)))))
          → kept_played s (suc (suc m)) g (query k (children ps)) ≡ played s (suc (suc m)) (query k (children ps))
      go [] e rest =
          rounds_same nodes g k short ps some_kept few sized sorted going now ended (rw (ne_eqb (suc k) s.n below, e)) refl (suc m) refl
      go (p ∷ ks) e rest =
          let some_left : 1 ≤ length (select keeps (children ps)) = rw e (omega arith) in
          let next_few : length (children (p ∷ ks)) ≤ limit =
          subst (λ (qs : List Bits). length (children qs) ≤ limit) e (leb-true _ limit (and_left (leb (length (children (select keeps (children ps)))) limit) _ later)) in
          rounds_same nodes g k short ps some_kept few sized sorted going now (next (children (p ∷ ks))) (rw (ne_eqb (suc k) s.n below, e))
          (le-ltb limit _ next_few) (suc m)
          (subst (λ (qs : List Bits). kept_played s (suc m) (kept_on s g (query k (children ps))) (query (suc k) (children qs)) ≡ played s (suc m) (query (suc k) (children qs))) e
          (rest some_left (kept_longer keeps k ps sized) (select_ascending keeps (children ps) (children_ascending ps sorted)) later
          (goes_on nodes g k short ps some_kept few sized sorted going now)
          (λ b j h. enough b (suc j) (omega (arith, h)))))

  -- The lists that are begun at the roots.
  begun_going : (nodes : Bool → List Node) → ((b : Bool) → reports s ≤ length (nodes b)) → Going nodes (begun s nodes) start
  begun_going nodes h = record {
    reached = λ b.
        roots_reached (session b) (nodes b)
        (whole_roots (session b).seeds (length (nodes b))
        (record {
          no_rest = omega (arith, (lent_whole b).seeds_length);
          few = omega (arith, (lent_whole b).seeds_length, sound.few);
          enough = omega (arith, (lent_whole b).seeds_length, h b);
        }));
    as_lent = λ b. roots_as_many b (session b).seeds (nodes b);
    held = λ p m. m;
  }

-- Where no cause before 11 applies to a search, its queries are within the limit, and server b is lent nodes for every report and every prefix of each
-- query: with kept nodes the calls leave the same queries, totals and list.
pub kept_played_lem : (s : Lent) → Passes s → queries_fit s ≡ true → (nodes : Bool → List Node)
    → ((b : Bool) (k : ℕ) → k < s.n → reports s * length (children (kept_at s k)) ≤ length (nodes b))
    → kept_played s s.n (begun s nodes) first_query ≡ played s s.n first_query
unfolding queries_fit search_fits search_list
kept_played_lem s ok within nodes enough = go s.n refl within enough
  where
    go : (m : ℕ) → m ≡ s.n → fits_from (is_kept (reaches_of s) (total s)) m start ≡ true
        → ((b : Bool) (k : ℕ) → k < m → reports s * length (children (kept_from (is_kept (reaches_of s) (total s)) k start)) ≤ length (nodes b))
        → kept_played s m (begun s nodes) first_query ≡ played s m first_query
    go zero e fits enough = absurd (omega (arith, e, (passing s ok).some_bits))
    go (suc m) e fits enough =
        play_same s (passing s ok) nodes m (begun s nodes) 0 start (omega (arith, e)) (omega arith) (refl, tt) (tt, tt) fits
        (begun_going s (passing s ok) nodes (λ b. omega (arith, enough b 0 (omega arith)))) enough
