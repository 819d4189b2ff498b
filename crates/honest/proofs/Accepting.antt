-- The number of a search of honest reports: no cause before 11 applies, and 11 does not where there is space.
use Rattle.std.specs.Prelude.{Some}
use mathlib.Core.Path.{◌≡◌, refl, sym, ap, ap₂, ◌∙◌}
use mathlib.Core.Bool.{Bool, true, false, cond, not, ◌||◌}
use mathlib.Core.List.{List}
use Prim.Native.Nat.{ℕ, zero, suc, ◌/◌, ◌≤◌}
use native.Mathlib.Omega.{arith}
use borrow.Author.Tests.{le-ltb, eq-eqb, leb-true}
use lib.ListN.{length}
use lib.Dec.{leb, ltb}
use lib.IntN.{ℤ, pos}
use lib.Signed.{◌≤ℤ◌, le_z_yes}
use Rattle.bits.specs.Strings.{Bits, count}
use Rattle.calls.specs.Bounds.{most_reports, threshold_most}
use Rattle.calls.proofs.Decisions.{neither_test, in_bounds}
use Rattle.expander.specs.Expander.{choice_of, is_expander}
use Rattle.expander.specs.declared.Expander.{Expander}
use Rattle.kept.specs.Kept.{reaches_as}
use Rattle.tree.specs.Cut.{honest_record}
use Rattle.tree.specs.SearchRule.{is_kept, search_list, search_fits}
use Rattle.tree.specs.Space.{fewest_holders, record_space, list_space}
use Rattle.tree.proofs.Totals.{Held, kept_few, all_fit, honest_fits_lem}
use Rattle.tree.proofs.Lengths.{held_record_space, held_list_space, honest_list_space}
use Rattle.weights.specs.Weights.{EveryOne, held_weight}
use Rattle.weights.proofs.HeldWeights.{holders_least}
use Rattle.report_sums.specs.Reports.{report_count}
use Rattle.report_sums.specs.Checks.{wrong_lengths, payload_too_large, spare_bits_set}
use Rattle.search.specs.Search.{Lent, reports, counted_number, threshold_of, reaches_of, total, record_bytes, list_bytes, queries_fit, search_number}
use Rattle.search.proofs.SameBytes.{equal_same}
use Rattle.search.proofs.Outcome.{named_expander}
use Rattle.honest.specs.Honest.{Accepted, Honest}
use Rattle.honest.proofs.Made.{lent_seeds, lent_shares}
use Rattle.honest.proofs.Shares.{lent_lengths, lent_payloads, lent_spares}
use Rattle.honest.proofs.Reports.{reports_of, reports_length, reports_made_lem, reports_seeds0, reports_seeds1, reports_shares0, reports_shares1}
use Rattle.honest.proofs.Counted.{reports_number, total_count, kept_weighs, record_count, list_count, fits_count}

-- At most 65,535 honest reports for strings of 1 to 256 bits, a threshold in its bounds and an expander.
module _ (s : Lent) (xs : List Bits) (ws : List ℤ) (honest : Honest s xs ws) (from : 1 ≤ s.n) (to : s.n ≤ 256) (some : 1 ≤ s.t) (most : s.t ≤ threshold_most s.weighted)
    (known : is_expander s.expander ≡ true) (few : length xs ≤ 65535) where
  e : Expander
  e = (named_expander s.expander known).0

  named : choice_of s.expander ≡ Some e
  unfolding e
  named = (named_expander s.expander known).1

  shares0 : s.shares0 ≡ lent_shares e s.n (reports_of s xs ws)
  shares0 = reports_shares0 s xs ws honest e named from to

  shares1 : s.shares1 ≡ lent_shares e s.n (reports_of s xs ws)
  shares1 = reports_shares1 s xs ws honest e named from to

  few_reports : length (reports_of s xs ws) ≤ 65535
  few_reports = omega (arith, few, reports_length s xs ws)

  -- what is shown of the reports holds of what each server is lent
  passes0 : (test : ℕ → List ℕ → List ℕ → Bool) → test s.n (lent_seeds false (reports_of s xs ws)) (lent_shares e s.n (reports_of s xs ws)) ≡ false
      → test s.n s.seeds0 s.shares0 ≡ false
  passes0 test h = ap₂ (test s.n) (reports_seeds0 s xs ws honest) shares0 ∙ h

  passes1 : (test : ℕ → List ℕ → List ℕ → Bool) → test s.n (lent_seeds true (reports_of s xs ws)) (lent_shares e s.n (reports_of s xs ws)) ≡ false
      → test s.n s.seeds1 s.shares1 ≡ false
  passes1 test h = ap₂ (test s.n) (reports_seeds1 s xs ws honest) shares1 ∙ h

  -- whether cause 11 applies
  abbrev pub no_space : Bool
  no_space = ltb (length s.record_area) (length (record_bytes s)) || (ltb (length s.list_area) (length (list_bytes s)) || not (queries_fit s))

  -- No cause before 11 applies.
  pub honest_number : search_number s ≡ cond no_space 11 0
  unfolding search_number
  honest_number =
      let lengths : length s.seeds0 ≡ length s.seeds1 = honest.seeds0.size ∙ sym honest.seeds1.size in
      rw (
        in_bounds 256 s.n from to,
        in_bounds (threshold_most s.weighted) s.t some most,
        known,
        passes0 wrong_lengths (lent_lengths e s.expander named s.n from to (reports_of s xs ws) (reports_made_lem s xs ws honest) few_reports false),
        passes1 wrong_lengths (lent_lengths e s.expander named s.n from to (reports_of s xs ws) (reports_made_lem s xs ws honest) few_reports true),
        eq-eqb (length s.seeds0) (length s.seeds1) lengths,
        le-ltb most_reports (reports s) (omega (arith, few, reports_number s xs ws honest)),
        passes0 (λ n seeds shares. payload_too_large n (report_count n seeds shares) shares) (lent_payloads e s.expander named s.n from to (reports_of s xs ws) (reports_made_lem s xs ws honest) few_reports false),
        passes1 (λ n seeds shares. payload_too_large n (report_count n seeds shares) shares) (lent_payloads e s.expander named s.n from to (reports_of s xs ws) (reports_made_lem s xs ws honest) few_reports true),
        passes0 (λ n seeds shares. spare_bits_set n (report_count n seeds shares) shares) (lent_spares e s.expander named s.n from to (reports_of s xs ws) (reports_made_lem s xs ws honest) few_reports false),
        passes1 (λ n seeds shares. spare_bits_set n (report_count n seeds shares) shares) (lent_spares e s.expander named s.n from to (reports_of s xs ws) (reports_made_lem s xs ws honest) few_reports true),
        equal_same s.shares0 s.shares1 (shares0 ∙ sym shares1),
      )

  -- at least this many strings have each kept prefix
  abbrev h : ℕ
  h = fewest_holders s.weighted (threshold_of s)

  some_holders : 1 ≤ h
  some_holders = go s.weighted
    where
      go : (b : Bool) → 1 ≤ fewest_holders b s.t
      go true = omega arith
      go false = some

  held : Held (is_kept (reaches_of s) (total s)) h xs s.n
  held q least fits k = go s.weighted refl
    where
      weighs : pos s.t ≤ℤ held_weight xs ws q
      weighs = le_z_yes (rw (← kept_weighs s xs ws honest e named from to few q least fits, k) tt)

      go : (b : Bool) → s.weighted ≡ b → fewest_holders b s.t ≤ count xs q
      go true w = omega (arith, holders_least xs ws q s.t honest.weights weighs)
      go false w =
          let ones = honest.unweighted w in
          let same : reaches_of s (total s q) ≡ leb s.t (count xs q) =
          ap (λ (b : Bool). reaches_as b s.t (total s q)) w ∙ ap (leb s.t) (total_count s xs ws honest e named from to few ones q least fits) in
          leb-true s.t (count xs q) (sym same ∙ k)

  -- At most C / h prefixes of one length are kept.
  pub kept_most : (k : ℕ) → 1 ≤ k → k ≤ s.n → length (search_list (reaches_of s) (total s) k) ≤ length xs / h
  unfolding search_list
  kept_most zero least fits = absurd (omega arith)
  kept_most (suc k) least fits = kept_few (is_kept (reaches_of s) (total s)) h s.n xs honest.n_bits held some_holders k fits

  -- Every query is within the limit.
  pub honest_within : queries_fit s ≡ true
  unfolding queries_fit search_fits
  honest_within = all_fit (is_kept (reaches_of s) (total s)) h s.n xs honest.n_bits held some_holders few

  -- With the space that is named for it the search is accepted.
  pub space_accepted : record_space s.n h (length xs) ≤ length s.record_area → list_space s.n h (length xs) ≤ length s.list_area → Accepted s
  unfolding record_bytes list_bytes
  space_accepted room list =
      let record_fits = held_record_space (reaches_of s) (total s) h s.n xs honest.n_bits held some_holders (counted_number s) in
      let list_fits = held_list_space (reaches_of s) (total s) h s.n xs honest.n_bits held some_holders from in
      honest_number
      ∙ ap (λ (b : Bool). cond b 11 0)
      (neither_test (le-ltb (length s.record_area) (length (record_bytes s)) (omega (arith, room, record_fits)))
      (neither_test (le-ltb (length s.list_area) (length (list_bytes s)) (omega (arith, list, list_fits)))
      (ap not honest_within)))

  -- Where every weight is one and the list has its space, 11 applies exactly when the record of the strings is longer than the record area.
  module _ (ones : EveryOne ws) where
    pub listed_number : list_space s.n s.t (length xs) ≤ length s.list_area
        → search_number s ≡ cond (ltb (length s.record_area) (length (honest_record s.n s.t xs))) 11 0
    listed_number list =
        let short = ltb (length s.record_area) (length (honest_record s.n s.t xs)) in
        let bytes = ap length (record_count s xs ws honest e named from to few ones) in
        let is : no_space ≡ short = ap₂ ◌||◌ (ap (ltb (length s.record_area)) bytes) (neither_test no_list no_query) ∙ or_false short in
        honest_number ∙ ap (λ (b : Bool). cond b 11 0) is
      where
        no_list : ltb (length s.list_area) (length (list_bytes s)) ≡ false
        no_list =
            le-ltb (length s.list_area) (length (list_bytes s))
            (omega (arith, list, honest_list_space s.n s.t xs honest.n_bits some from, ap length (list_count s xs ws honest e named from to few ones)))

        no_query : not (queries_fit s) ≡ false
        no_query = ap not (fits_count s xs ws honest e named from to few ones ∙ honest_fits_lem s.n s.t xs honest.n_bits some few)

        or_false : (b : Bool) → (b || false) ≡ b
        or_false true = refl
        or_false false = refl
