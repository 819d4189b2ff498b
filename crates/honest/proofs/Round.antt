-- One round of a search to which no cause before 11 applies, whatever reports were lent: both servers answer a query, and combining answers
-- their shares.
use Rattle.expander.specs.declared.Expander.{Expander}
use Rattle.std.specs.Prelude.{Option}
use mathlib.Core.Path.{◌≡◌, refl, sym, ap, ap₂, ◌∙◌}
use mathlib.Core.Bool.{Bool, true, false, cond, not, ◌||◌}
use mathlib.Core.List.{List, [], ◌∷◌, map}
use Prim.Native.Nat.{ℕ, suc, ◌*◌, ◌%◌, ◌^◌, ◌≤◌, ◌<◌}
use native.Mathlib.Omega.{arith}
use borrow.Author.Tests.{lt-ltb, eq-eqb}
use lib.ListN.{length}
use lib.Dec.{ltb}
use Rattle.places.specs.Lists.{select}
use Rattle.bits.specs.Strings.{Bits, Ascending}
use Rattle.calls.specs.Bounds.{threshold_most}
use Rattle.calls.specs.Causes.{number_due}
use Rattle.calls.specs.Outcome.{accepted}
use Rattle.calls.proofs.Decisions.{neither_test, in_bounds}
use Rattle.calls.proofs.Judged.{judged_accepted, ◌&◌}
use Rattle.group.specs.Modular.{p, field}
use Rattle.point.specs.Evaluation.{bit_of}
use Rattle.kept.specs.Kept.{kept}
use Rattle.kept.proofs.Kept.{kept_select}
use Rattle.query.specs.Query.{OfLength, query, limit, IsQuery, is_query, prefix_length, prefix_count, prefixes_of, children}
use Rattle.numbers.specs.Numbers.{in_bytes}
use Rattle.tree.specs.SearchRule.{is_kept}
use Rattle.tree.proofs.Asked.{next_query_lem}
use Rattle.query.proofs.Children.{children_longer}
use Rattle.tree.proofs.Lengths.{totals_length}
use Rattle.query.proofs.Queries.{query_passes, read_length, read_count, read_prefixes}
use Rattle.report_sums.specs.Reports.{all_count, server_sum}
use Rattle.shares.specs.ShareNumbers.{numbers, added, all_below}
use Rattle.combine.specs.Answer.{answer_at, answer_bytes}
use Rattle.combine.specs.Combine.{wrong_shares, kept_prefixes, passes_limit, combine_causes, combine_outcome}
use Rattle.combine.proofs.ShareTotals.{numbers_totals, added_map}
use Rattle.search.specs.Search.{Lent, total, total_under, reaches_of}
use Rattle.search.proofs.Outcome.{Sound}
use Rattle.honest.specs.Loop.{share_of, share_for, totals_for, answer_for, space_for, combine_in}
use Rattle.honest.proofs.SoundShares.{server_below, whole_share}

-- numbers that are below p pass
pub below_all : (T : Bits → ℕ) → ((q : Bits) → T q < p) → (qs : List Bits) → all_below (map T qs) ≡ true
unfolding all_below
below_all T small [] = refl
below_all T small (q ∷ qs) = rw (lt-ltb (T q) p (small q)) (below_all T small qs)

module _ (s : Lent) (sound : Sound s) where
  -- server b's sum at a prefix
  abbrev pub sum : Bool → Bits → ℕ
  sum b q = server_sum sound.expander s.n b (cond b s.seeds1 s.seeds0) (cond b s.shares1 s.shares0) all_count (bit_of q) (length q)

  sum_small : (b : Bool) (q : Bits) → sum b q < p
  sum_small b q = server_below sound.expander s.n b _ _ all_count (bit_of q) (length q)

  sum_fits : (b : Bool) (q : Bits) → sum b q < 2 ^ 64
  sum_fits b q = omega (arith, sum_small b q)

  -- both sums added are the total
  sums_total : (λ (q : Bits). field.add (sum false q) (sum true q)) ≡ total s
  unfolding total_under
  sums_total = ap (λ (c : Option Expander). total_under c s) (sym sound.named)

  -- Where the bytes pass as a query, both servers succeed and write their sums.
  share_succeeds : (b : Bool) (q : List ℕ) → is_query s.n q ≡ true → share_of s b q ≡ accepted (in_bytes (map (sum b) (prefixes_of q)))
  share_succeeds false q asks =
      whole_share s.n s.expander sound.expander sound.named sound.some_bits sound.not_longer s.seeds0 s.shares0 _ sound.lent0 sound.few
      false q asks (8 * prefix_count q) (omega arith)
  share_succeeds true q asks =
      whole_share s.n s.expander sound.expander sound.named sound.some_bits sound.not_longer s.seeds1 s.shares1 _ sound.lent1 sound.few
      true q asks (8 * prefix_count q) (omega arith)

  -- Some prefixes of k bits are kept, and their children are asked.
  module _ (k : ℕ) (short : k < s.n) (ps : List Bits) (some_kept : 1 ≤ length ps) (few : length (children ps) ≤ limit)
      (sized : OfLength k ps) (sorted : Ascending ps) where
    abbrev q : List ℕ
    q = query k (children ps)

    pub round_asks : IsQuery s.n q
    round_asks = next_query_lem s.n k ps short (omega (arith, sound.not_longer)) some_kept few sized sorted

    pub passes : is_query s.n q ≡ true
    passes = query_passes s.n q round_asks

    pub round_length_lem : prefix_length q ≡ suc k
    round_length_lem = read_length k (children ps) (omega (arith, sound.not_longer))

    pub read : prefixes_of q ≡ children ps
    read = read_prefixes k (children ps) (omega (arith, sound.not_longer)) (omega arith) (children_longer k ps sized)

    counted : prefix_count q ≡ length (children ps)
    counted = read_count k (children ps) (omega arith)

    -- Each server succeeds and writes its sum at each prefix.
    pub round_share : (b : Bool) → share_of s b q ≡ accepted (in_bytes (map (sum b) (children ps)))
    round_share b = share_succeeds b q passes ∙ ap (λ (qs : List Bits). accepted (in_bytes (map (sum b) qs))) read

    share_is : (b : Bool) → share_for s b q ≡ in_bytes (map (sum b) (children ps))
    share_is b = ap (λ o. o.written) (round_share b)

    numbers_are : (b : Bool) → numbers (share_for s b q) ≡ map (sum b) (children ps)
    numbers_are b = ap numbers (share_is b) ∙ numbers_totals (sum b) (sum_fits b) (children ps)

    share_size : (b : Bool) → length (share_for s b q) ≡ 8 * prefix_count q
    share_size b = ap length (share_is b) ∙ totals_length (sum b) (children ps) ∙ ap (λ (m : ℕ). 8 * m) (sym counted)

    -- The shares added as combining adds them are the totals of the prefixes.
    pub round_totals : totals_for s q ≡ map (total s) (children ps)
    round_totals =
        ap₂ (added field) (numbers_are false) (numbers_are true)
        ∙ added_map field (sum false) (sum true) (children ps)
        ∙ ap (λ (T : Bits → ℕ). map T (children ps)) sums_total

    -- What combining keeps is what the search rule keeps.
    round_kept : kept_prefixes s.weighted s.t q (share_for s false q) (share_for s true q) ≡ select (is_kept (reaches_of s) (total s)) (children ps)
    round_kept = ap₂ (kept (reaches_of s)) read round_totals ∙ kept_select (reaches_of s) (total s) (children ps)

    -- So its answer is the one due to those.
    pub round_answer : answer_for s q ≡ answer_at s.n (suc k) (select (is_kept (reaches_of s) (total s)) (children ps))
    round_answer = ap₂ (answer_at s.n) round_length_lem round_kept

    right_shares : wrong_shares s.n q (share_for s false q) (share_for s true q) ≡ false
    right_shares =
        let eight : length (share_for s false q) % 8 ≡ 0 = omega (arith, share_size false) in
        neither_test (neither_test (ap not (eq-eqb _ _ (share_size false ∙ sym (share_size true)))) (ap not (eq-eqb _ 0 eight)))
        (rw passes (ap not (eq-eqb _ _ (share_size false))))

    small : (b : Bool) → not (all_below (numbers (share_for s b q))) ≡ false
    small b = ap not (ap all_below (numbers_are b) ∙ below_all (sum b) (sum_small b) (children ps))

    -- whether combining's cause 11 applies
    abbrev pub too_large : ℕ → Bool
    too_large room = ltb room (space_for s q) || passes_limit (answer_for s q)

    -- No other cause of combining applies.
    pub round_number : (room : ℕ) → number_due (combine_causes s.n s.weighted s.t q (share_for s false q) (share_for s true q) room) ≡ cond (too_large room) 11 0
    round_number room =
        rw (
          in_bounds 256 s.n sound.some_bits sound.not_longer,
          in_bounds (threshold_most s.weighted) s.t sound.some_threshold sound.not_higher,
          right_shares,
          small false,
          small true,
          passes,
        )

    pub round_succeeds : (room : ℕ) → too_large room ≡ false
        → combine_in s room q ≡ accepted (answer_bytes (prefix_length q) (answer_for s q))
    unfolding combine_outcome
    round_succeeds room h =
        judged_accepted (combine_causes s.n s.weighted s.t q (share_for s false q) (share_for s true q) room) _
        (in_bounds 256 s.n sound.some_bits sound.not_longer & in_bounds (threshold_most s.weighted) s.t sound.some_threshold sound.not_higher & right_shares
        & neither_test (small false) (small true) & ap not passes & h & tt)
