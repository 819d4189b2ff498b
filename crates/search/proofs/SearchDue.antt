-- The number that a search returns is the one that is due, where the public shares are bytes.
use Prim.Native.Nat.{ℕ, ◌<◌}
use mathlib.Core.Path.{sym, ◌∙◌}
use mathlib.Core.Bool.{Bool, not, true≢false, ◌||◌}
use mathlib.Core.List.{List}
use mathlib.Core.Logic.{◌≢◌, ◌⊎◌}
use lib.ListN.{length, get_or}
use lib.Dec.{T, eqb, ltb, ltb→lt, lt→ltb, not_T}
use Rattle.calls.specs.Causes.{Due}
use Rattle.calls.proofs.Decisions.{passed, failed, failed_test, differ, differ_test, either, either_test}
use Rattle.calls.proofs.Judged.{number_due_lem, none, next, length_decided, threshold_decided, expander_decided, reports_decided}
use Rattle.tree.proofs.Limit.{fits_not}
use Rattle.report_sums.specs.Reports.{report_count}
use Rattle.report_sums.specs.Checks.{WrongLengths, wrong_lengths, payload_too_large, spare_bits_set}
use Rattle.idpf.proofs.ShareDue.{wrong, wrong_test}
use Rattle.report_sums.proofs.PublicChecks.{too_large_lem, too_large_test, bits_set, bits_set_test}
use Rattle.search.specs.Search.{Lent, reports, record_bytes, list_bytes, queries_fit, same_bytes, QueryTooLong, search_causes, search_number}
use Rattle.search.proofs.SameBytes.{same_equal, equal_same}

-- ---- the causes

module _ (s : Lent) where
  -- the tests of causes 4 and 11
  abbrev wrong0 : Bool
  wrong0 = wrong_lengths s.n s.seeds0 s.shares0

  abbrev wrong1 : Bool
  wrong1 = wrong_lengths s.n s.seeds1 s.shares1

  abbrev other_seeds : Bool
  other_seeds = not (eqb (length s.seeds0) (length s.seeds1))

  abbrev no_record : Bool
  no_record = ltb (length s.record_area) (length (record_bytes s))

  abbrev no_list : Bool
  no_list = ltb (length s.list_area) (length (list_bytes s))

  lengths : T (wrong0 || (wrong1 || other_seeds))
      → WrongLengths s.n s.seeds0 s.shares0 ⊎ WrongLengths s.n s.seeds1 s.shares1 ⊎ (length s.seeds0 ≢ length s.seeds1)
  lengths =
      either wrong0 (wrong1 || other_seeds) (wrong s.n s.seeds0 s.shares0)
      (either wrong1 other_seeds (wrong s.n s.seeds1 s.shares1) (differ _ _))

  lengths_test : WrongLengths s.n s.seeds0 s.shares0 ⊎ WrongLengths s.n s.seeds1 s.shares1 ⊎ (length s.seeds0 ≢ length s.seeds1)
      → T (wrong0 || (wrong1 || other_seeds))
  lengths_test =
      either_test wrong0 (wrong1 || other_seeds) (wrong_test s.n s.seeds0 s.shares0)
      (either_test wrong1 other_seeds (wrong_test s.n s.seeds1 s.shares1) (differ_test _ _))

  -- the test of the limit decides whether some query would pass it
  too_long : T (not (queries_fit s)) → QueryTooLong s
  unfolding queries_fit
  too_long t = (fits_not _ _ _).0 (failed (queries_fit s) t)

  too_long_test : QueryTooLong s → T (not (queries_fit s))
  unfolding queries_fit
  too_long_test d = failed_test ((fits_not _ _ _).1 d)

  room : T (no_record || (no_list || not (queries_fit s)))
      → (length s.record_area < length (record_bytes s)) ⊎ (length s.list_area < length (list_bytes s)) ⊎ QueryTooLong s
  room = either no_record (no_list || not (queries_fit s)) (ltb→lt _ _) (either no_list (not (queries_fit s)) (ltb→lt _ _) too_long)

  room_test : (length s.record_area < length (record_bytes s)) ⊎ (length s.list_area < length (list_bytes s)) ⊎ QueryTooLong s
      → T (no_record || (no_list || not (queries_fit s)))
  room_test = either_test no_record (no_list || not (queries_fit s)) (lt→ltb _ _) (either_test no_list (not (queries_fit s)) (lt→ltb _ _) too_long_test)

-- two lists of bytes differ
unequal : (xs ys : List ℕ) → T (not (same_bytes xs ys)) → xs ≢ ys
unequal xs ys t h = true≢false (sym (equal_same xs ys h) ∙ failed (same_bytes xs ys) t)

unequal_test : (xs ys : List ℕ) → xs ≢ ys → T (not (same_bytes xs ys))
unequal_test xs ys h = not_T (same_bytes xs ys) (λ t. h (same_equal xs ys (passed (same_bytes xs ys) t)))

-- ---- the number that is due

-- for everything that may be lent, where each element of the public shares is below 256
pub search_due : (s : Lent) → ((i : ℕ) → get_or s.shares0 i 0 < 256) → ((i : ℕ) → get_or s.shares1 i 0 < 256) → Due (search_causes s) (search_number s)
unfolding search_number
search_due s byte0 byte1 =
    number_due_lem
    (length_decided s.n
    (threshold_decided s.weighted s.t
    (expander_decided s.expander
    (next {b = wrong0 s || (wrong1 s || other_seeds s)} (lengths s) (lengths_test s)
    (reports_decided (reports s)
    (next {b = large0 || large1}
    (either large0 large1 (too_large_lem s.n (report_count s.n s.seeds0 s.shares0) s.shares0) (too_large_lem s.n (report_count s.n s.seeds1 s.shares1) s.shares1))
    (either_test large0 large1 (too_large_test s.n (report_count s.n s.seeds0 s.shares0) s.shares0) (too_large_test s.n (report_count s.n s.seeds1 s.shares1) s.shares1))
    (next {b = spare0 || spare1}
    (either spare0 spare1 (bits_set s.n (report_count s.n s.seeds0 s.shares0) s.shares0 byte0) (bits_set s.n (report_count s.n s.seeds1 s.shares1) s.shares1 byte1))
    (either_test spare0 spare1 (bits_set_test s.n (report_count s.n s.seeds0 s.shares0) s.shares0 byte0) (bits_set_test s.n (report_count s.n s.seeds1 s.shares1) s.shares1 byte1))
    (next {b = not (same_bytes s.shares0 s.shares1)} (unequal s.shares0 s.shares1) (unequal_test s.shares0 s.shares1)
    (next {b = no_record s || (no_list s || not (queries_fit s))} (room s) (room_test s) none)))))))))
  where
    large0 : Bool
    large0 = payload_too_large s.n (report_count s.n s.seeds0 s.shares0) s.shares0

    large1 : Bool
    large1 = payload_too_large s.n (report_count s.n s.seeds1 s.shares1) s.shares1

    spare0 : Bool
    spare0 = spare_bits_set s.n (report_count s.n s.seeds0 s.shares0) s.shares0

    spare1 : Bool
    spare1 = spare_bits_set s.n (report_count s.n s.seeds1 s.shares1) s.shares1
