-- A whole search is the loop of both servers' shares and combining, whatever reports were lent.
use mathlib.Core.Path.{◌≡◌, refl, sym, ap, ◌∙◌, subst}
use mathlib.Core.Bool.{Bool, true, false, cond, ◌||◌}
use mathlib.Core.List.{List, [], ◌∷◌, ◌++◌, map}
use mathlib.Core.Logic.{◌≢◌, ◌⊎◌, inl, inr}
use Prim.Native.Nat.{ℕ, zero, suc, ◌≤◌, ◌<◌}
use native.Mathlib.Omega.{arith}
use borrow.Author.Tests.{eqb-false}
use lib.ListN.{length}
use lib.Dec.{eqb, ltb, ltb→lt, lt→ltb}
use Rattle.bits.specs.Strings.{Bits, Ascending}
use Rattle.calls.specs.Causes.{Due}
use Rattle.calls.specs.Outcome.{accepted}
use Rattle.calls.proofs.Decisions.{either, either_test}
use Rattle.calls.proofs.Judged.{number_due_lem, judged_due, none, next as also}
use Rattle.query.specs.Query.{OfLength, limit, IsQuery, children}
use Rattle.tree.specs.SearchRule.{start, fits_from, is_kept, heading, search_record, search_list, search_fits}
use Rattle.tree.proofs.Kept.{list_length_lem, list_ascending}
use Rattle.tree.proofs.Steps.{kept_last}
use Rattle.combine.proofs.CombineDue.{passes as passes-limit, passes_test as passes-limit-test}
use Rattle.combine.specs.Answer.{list, further, answer_at}
use Rattle.combine.specs.Combine.{PassesLimit, passes_limit, combine_causes, combine_outcome}
use Rattle.search.specs.Search.{Lent, counted_number, threshold_of, reaches_of, total, record_bytes, list_bytes, queries_fit}
use Rattle.search.proofs.Outcome.{Sound, accepted_clear, not_before_11}
use Rattle.search.proofs.Rule.{queries_within}
use Rattle.honest.specs.Honest.{Accepted, record_read, list_read}
use Rattle.honest.specs.Loop.{Passes, first_query, Played, share_of, share_for, totals_for, answer_for, space_for, combine_in, space_in, played, kept_at, query_at}
use Rattle.honest.proofs.Reading.{record_read_lem, list_read_lem}
use Rattle.honest.proofs.Round as rounds
use Rattle.honest.proofs.Playing.{ruled, play}

-- a number of 0 or 11 tells that the search is sound
pub passing : (s : Lent) → Passes s → Sound s
passing s (inl h) = (accepted_clear s h).sound
passing s (inr h) = not_before_11 s h

-- an answer whose prefixes have few children passes no limit
answer_within : (n k : ℕ) (ps : List Bits) → (k ≢ n → length (children ps) ≤ limit) → PassesLimit (answer_at n k ps) → ⊥
answer_within n k ps few = go (eqb k n) refl ps few
  where
    go : (b : Bool) → eqb k n ≡ b → (ps : List Bits) → (k ≢ n → length (children ps) ≤ limit) → PassesLimit (cond b (list ps) (further ps)) → ⊥
    go true e ps few h = h
    go false e [] few h = h
    go false e (p ∷ ps) few h = omega (arith, few (eqb-false k n e), h)

module _ (s : Lent) (passes : Passes s) where
  -- ---- a level at which some prefixes are kept and their children are within the limit

  module _ (k : ℕ) (short : k < s.n) (some : 1 ≤ length (kept_at s k)) (few : length (children (kept_at s k)) ≤ limit) where
    sized : OfLength k (kept_at s k)
    sized = list_length_lem (reaches_of s) (total s) k

    sorted : Ascending (kept_at s k)
    sorted = list_ascending (reaches_of s) (total s) k

    -- What is asked passes 9.
    pub level_query : IsQuery s.n (query_at s k)
    level_query = rounds.round_asks s (passing s passes) k short (kept_at s k) some few sized sorted

    -- Each server succeeds, and what it writes is its share.
    pub level_share : (b : Bool) → share_of s b (query_at s k) ≡ accepted (share_for s b (query_at s k))
    level_share b =
        let e = rounds.round_share s (passing s passes) k short (kept_at s k) some few sized sorted b in
        e ∙ ap (λ o. accepted o.written) (sym e)

    -- Their shares, added as combining adds them, are the totals.
    pub level_totals : totals_for s (query_at s k) ≡ map (total s) (children (kept_at s k))
    level_totals = rounds.round_totals s (passing s passes) k short (kept_at s k) some few sized sorted

    -- Combining's answer is the one for the prefixes that the search keeps at the next length.
    pub level_answer : answer_for s (query_at s k) ≡ answer_at s.n (suc k) (kept_at s (suc k))
    unfolding search_list
    level_answer =
        rounds.round_answer s (passing s passes) k short (kept_at s k) some few sized sorted
        ∙ ap (answer_at s.n (suc k)) (sym (kept_last (is_kept (reaches_of s) (total s)) k start))

    -- Of combining's causes only 11 is left: its number is 11 where its answer does not fit the room or a next query passes the limit, and else 0.
    pub level_number : (room : ℕ)
        → Due (space_in s room (query_at s k)) (combine_in s room (query_at s k)).number
    unfolding combine_outcome
    level_number room =
        let q = query_at s k in
        let a = ltb room (space_for s q) in
        let b = passes_limit (answer_for s q) in
        let d : Due (space_in s room q) (cond (a || b) 11 0) =
        number_due_lem
        (also {b = a || b} (either a b (ltb→lt room _) (passes-limit (answer_for s q))) (either_test a b (lt→ltb room _) (passes-limit-test (answer_for s q))) none) in
        rw (
          judged_due (combine_causes s.n s.weighted (threshold_of s) q (share_for s false q) (share_for s true q) room) _,
          rounds.round_number s (passing s passes) k short (kept_at s k) some few sized sorted room,
        ) d

  -- ---- a search whose queries are all within the limit

  module _ (within : queries_fit s ≡ true) where
    level_few : (k : ℕ) → k < s.n → length (children (kept_at s k)) ≤ limit
    level_few = queries_within s within

    -- At every level at which some prefixes are kept, both servers and combining succeed.
    pub calls_succeed : (k : ℕ) → k < s.n → 1 ≤ length (kept_at s k)
        → ((b : Bool) → (share_of s b (query_at s k)).number ≡ 0) × ((combine_in s (space_for s (query_at s k)) (query_at s k)).number ≡ 0)
    calls_succeed k short some = (
      λ b. ap (λ o. o.number) (level_share k short some (level_few k short) b),
      go (level_number k short some (level_few k short) (space_for s (query_at s k))),
    )
      where
        within_limit : PassesLimit (answer_for s (query_at s k)) → ⊥
        within_limit h =
            answer_within s.n (suc k) (kept_at s (suc k)) (λ e. level_few (suc k) (omega (arith, short, e)))
            (subst PassesLimit (level_answer k short some (level_few k short)) h)

        refuted : (space_for s (query_at s k) < space_for s (query_at s k)) ⊎ PassesLimit (answer_for s (query_at s k)) → ⊥
        refuted (inl h) = omega (arith, h)
        refuted (inr h) = within_limit h

        go : {m : ℕ} → Due (space_in s (space_for s (query_at s k)) (query_at s k)) m → m ≡ 0
        go (inl h) = absurd (refuted h.0)
        go (inr h) = h.1

    -- what is played from the first query on
    all_played : played s s.n first_query ≡ ruled s (passing s passes) s.n 0 start
    unfolding queries_fit search_fits
    all_played = go s.n refl within
      where
        go : (m : ℕ) → m ≡ s.n → fits_from (is_kept (reaches_of s) (total s)) m start ≡ true → played s m first_query ≡ ruled s (passing s passes) m 0 start
        go zero e h = absurd (omega (arith, e, (passing s passes).some_bits))
        go (suc m) e h = play s (passing s passes) m 0 start (omega (arith, e)) (omega arith) (refl, tt) (tt, tt) h

    -- The list of the search and, behind the number of reports, its record are what the calls leave in at most n rounds from the first query on.
    pub search_played : (record_bytes s ≡ heading (counted_number s) ++ (played s s.n first_query).recorded) × (list_bytes s ≡ (played s s.n first_query).listed)
    unfolding record_bytes list_bytes search_record search_list
    search_played = (
      ap (λ (o : Played). heading (counted_number s) ++ o.recorded) (sym all_played),
      ap (λ (o : Played). o.listed) (sym all_played),
    )

-- So the list that an accepted search leaves and, behind the number of reports, its record are those that the calls leave.
pub accepted_played : (s : Lent) → Accepted s
    → (record_read s ≡ heading (counted_number s) ++ (played s s.n first_query).recorded) × (list_read s ≡ (played s s.n first_query).listed)
accepted_played s ok =
    let e = search_played s (inl ok) (accepted_clear s ok).queries_fit_lem in
    (record_read_lem s ok ∙ e.0, list_read_lem s ok ∙ e.1)

-- Whatever reports were lent, every query of an accepted search is as laid out and within its limits.
pub accepted_asks : (s : Lent) → Accepted s → (k : ℕ) → k < s.n → 1 ≤ length (kept_at s k) → IsQuery s.n (query_at s k)
accepted_asks s ok k short some = level_query s (inl ok) k short some (queries_within s (accepted_clear s ok).queries_fit_lem k short)
