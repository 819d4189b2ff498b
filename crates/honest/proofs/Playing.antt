-- From any level of a search on, what the calls leave is what the search rule says.
use mathlib.Core.Path.{◌≡◌, refl, sym, ap, ap₂, ◌∙◌, subst}
use mathlib.Core.Bool.{Bool, true, false, cond}
use mathlib.Core.List.{List, [], ◌∷◌, ◌++◌, map, append_assoc}
use mathlib.Core.Option.{some}
use Prim.Native.Nat.{ℕ, zero, suc, ◌+◌, ◌≤◌, ◌<◌}
use native.Mathlib.Omega.{arith}
use borrow.Author.Tests.{le-ltb, eq-eqb, ne_eqb, leb-true}
use lib.ListN.{length}
use lib.Dec.{leb}
use Rattle.places.specs.Lists.{select}
use Rattle.bits.specs.Strings.{Bits, Ascending}
use Rattle.calls.specs.Outcome.{Outcome}
use Rattle.calls.proofs.Decisions.{neither_test}
use Rattle.query.specs.Query.{OfLength, packs, query, limit, children}
use Rattle.tree.specs.SearchRule.{totals, level, kept_from, fits_from, record_from, is_kept}
use Rattle.query.proofs.Children.{children_length, children_ascending, select_ascending, kept_longer}
use Rattle.places.proofs.Lists.{and_left, and_right}
use Rattle.tree.proofs.Steps.{kept_nothing, record_nothing}
use Rattle.combine.specs.Answer.{Answer, next, list, ended, answer_at, answer_bytes, kind}
use Rattle.combine.specs.Combine.{passes_limit, combine_kind, kind_with}
use Rattle.search.specs.Search.{Lent, total, reaches_of}
use Rattle.search.proofs.Outcome.{Sound}
use Rattle.honest.specs.Loop.{Played, round, over, follow, answer_for, space_for, combine_in, kind_in, played}
use Rattle.honest.proofs.Round.{round_length_lem, round_totals, round_answer, too_large, round_number, round_succeeds}

abbrev leave : List ℕ → List ℕ → Played
leave bytes ss = record { recorded = bytes; listed = ss }

module _ (s : Lent) (sound : Sound s) where
  abbrev keeps : Bits → Bool
  keeps = is_kept (reaches_of s) (total s)

  -- One round: some prefixes of k bits are kept, and their children are asked; the answer passes no limit.
  module _ (k : ℕ) (short : k < s.n) (ps : List Bits) (some_kept : 1 ≤ length ps) (few : length (children ps) ≤ limit)
      (sized : OfLength k ps) (sorted : Ascending ps) (a : Answer) (is : answer_at s.n (suc k) (select keeps (children ps)) ≡ a) (within : passes_limit a ≡ false) where
    abbrev q : List ℕ
    q = query k (children ps)

    answer_is : answer_for s q ≡ a
    answer_is = round_answer s sound k short ps some_kept few sized sorted ∙ is

    enough : too_large s sound k short ps some_kept few sized sorted (space_for s q) ≡ false
    enough = neither_test (le-ltb (space_for s q) (space_for s q) (omega arith)) (ap passes_limit answer_is ∙ within)

    pub written_is : (combine_in s (space_for s q) q).written ≡ answer_bytes (suc k) a
    written_is =
        ap (λ (o : Outcome). o.written) (round_succeeds s sound k short ps some_kept few sized sorted (space_for s q) enough)
        ∙ ap₂ answer_bytes (round_length_lem s sound k short ps some_kept few sized sorted) answer_is

    pub kind_is : kind_in s (space_for s q) q ≡ some (kind a)
    unfolding combine_kind
    kind_is =
        ap₂ kind_with (round_number s sound k short ps some_kept few sized sorted (space_for s q) ∙ ap (λ (b : Bool). cond b 11 0) enough) answer_is

    -- what is played from its query on
    round_played : (m : ℕ) → played s (suc m) q ≡ round q (map (total s) (children ps)) (follow (played s m) (some (kind a)) (answer_bytes (suc k) a))
    unfolding played
    round_played m =
        ap₂ (round q) (round_totals s sound k short ps some_kept few sized sorted) (ap₂ (follow (played s m)) kind_is written_is)

  -- what the search rule says of m levels below the prefixes ps of k bits
  abbrev pub ruled : ℕ → ℕ → List Bits → Played
  ruled m k ps = record { recorded = record_from keeps (total s) m k ps; listed = packs (kept_from keeps m ps) }

  level_asked : (k : ℕ) (qs : List Bits) → 1 ≤ length qs → query k qs ++ totals (total s) qs ≡ level (total s) k qs
  level_asked k [] h = absurd (omega arith)
  level_asked k (q ∷ qs) h = refl

  round_ruled : (m k : ℕ) (ps : List Bits) → 1 ≤ length ps
      → round (query k (children ps)) (map (total s) (children ps)) (ruled m (suc k) (select keeps (children ps))) ≡ ruled (suc m) k ps
  round_ruled m k ps h =
      let qs = children ps in
      let after = record_from keeps (total s) m (suc k) (select keeps qs) in
      let e : query k qs ++ (totals (total s) qs ++ after) ≡ level (total s) k qs ++ after =
      sym (append_assoc (query k qs) (totals (total s) qs) after)
      ∙ ap (λ (bytes : List ℕ). bytes ++ after) (level_asked k qs (omega (arith, children_length ps))) in
      ap (λ (bytes : List ℕ). leave bytes (packs (kept_from keeps m (select keeps qs)))) e

  nothing_ruled : (m k : ℕ) → over [] ≡ ruled m k []
  unfolding packs
  nothing_ruled m k =
      ap₂ (λ (bytes : List ℕ) (ps : List Bits). leave bytes (packs ps)) (sym (record_nothing keeps (total s) m k)) (sym (kept_nothing keeps m))

  -- From any level on, what is played is what the search rule says.
  pub play : (m k : ℕ) (ps : List Bits) → k + suc m ≡ s.n → 1 ≤ length ps → OfLength k ps → Ascending ps → fits_from keeps (suc m) ps ≡ true
      → played s (suc m) (query k (children ps)) ≡ ruled (suc m) k ps
  play zero k ps at some_kept sized sorted fits =
      let short : k < s.n = omega (arith, at) in
      let few : length (children ps) ≤ limit = leb-true (length (children ps)) limit (and_left (leb (length (children ps)) limit) _ fits) in
      let ks = select keeps (children ps) in
      let end : suc k ≡ s.n = omega (arith, at) in
      round_played k short ps some_kept few sized sorted (list ks) (rw (eq-eqb (suc k) s.n end)) refl zero ∙ round_ruled zero k ps some_kept
  play (suc m) k ps at some_kept sized sorted fits = go (select keeps (children ps)) refl (play m (suc k) (select keeps (children ps)) (omega (arith, at)))
    where
      short : k < s.n
      short = omega (arith, at)

      few : length (children ps) ≤ limit
      few = leb-true (length (children ps)) limit (and_left (leb (length (children ps)) limit) _ fits)

      below : suc k ≡ s.n → ⊥
      below e = omega (arith, at, e)

      later : fits_from keeps (suc m) (select keeps (children ps)) ≡ true
      later = and_right (leb (length (children ps)) limit) _ fits

      go : (ks : List Bits) → select keeps (children ps) ≡ ks
          → (1 ≤ length (select keeps (children ps)) → OfLength (suc k) (select keeps (children ps)) → Ascending (select keeps (children ps))
          → fits_from keeps (suc m) (select keeps (children ps)) ≡ true
          → played s (suc m) (query (suc k) (children (select keeps (children ps)))) ≡ ruled (suc m) (suc k) (select keeps (children ps)))
          → played s (suc (suc m)) (query k (children ps)) ≡ ruled (suc (suc m)) k ps
      go [] e rest =
          round_played k short ps some_kept few sized sorted ended (rw (ne_eqb (suc k) s.n below, e)) refl (suc m)
          ∙ ap (round (query k (children ps)) (map (total s) (children ps))) (nothing_ruled (suc m) (suc k) ∙ ap (ruled (suc m) (suc k)) (sym e))
          ∙ round_ruled (suc m) k ps some_kept
      go (p ∷ ks) e rest =
          let some_left : 1 ≤ length (select keeps (children ps)) = rw e (omega arith) in
          let next_few : length (children (p ∷ ks)) ≤ limit =
          subst (λ (qs : List Bits). length (children qs) ≤ limit) e (leb-true _ limit (and_left (leb (length (children (select keeps (children ps)))) limit) _ later)) in
          round_played k short ps some_kept few sized sorted (next (children (p ∷ ks))) (rw (ne_eqb (suc k) s.n below, e)) (le-ltb limit _ next_few) (suc m)
          ∙ ap (round (query k (children ps)) (map (total s) (children ps)))
          (ap (λ (qs : List Bits). played s (suc m) (query (suc k) (children qs))) (sym e)
          ∙ rest some_left (kept_longer keeps k ps sized) (select_ascending keeps (children ps) (children_ascending ps sorted)) later)
          ∙ round_ruled (suc m) k ps some_kept
