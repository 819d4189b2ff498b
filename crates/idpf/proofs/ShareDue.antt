-- The number that `share` returns is the one that is due, where the public shares and the query are bytes.
use Prim.Native.Nat.{ℕ, ◌*◌, ◌/◌, ◌%◌, ◌≤◌, ◌<◌}
use native.Mathlib.Omega.{arith}
use native.Mathlib.Decide.{dec_lt}
use mathlib.Core.Path.{sym, ◌∙◌}
use mathlib.Core.Bool.{Bool, not, true≢false, ◌||◌}
use mathlib.Core.List.{List}
use mathlib.Core.Logic.{inl, inr}
use lib.ListN.{length, get_or}
use lib.Dec.{T, eqb, not_T}
use Rattle.calls.specs.Causes.{Due}
use Rattle.calls.proofs.Decisions.{passed, failed, differ, differ_test, either, either_test, above_bounds}
use Rattle.calls.proofs.Judged.{due, none, next, length_decided, expander_decided, reports_decided, space_decided}
use Rattle.point.specs.PublicShare.{public_share_length}
use Rattle.query.specs.Query.{is_query, prefix_count}
use Rattle.query.proofs.Queries.{query_exact}
use Rattle.report_sums.specs.Reports.{report_count}
use Rattle.report_sums.specs.Checks.{WrongLengths, wrong_lengths, payload_too_large, spare_bits_set}
use Rattle.idpf.specs.Share.{share_causes, share_outcome}
use Rattle.report_sums.proofs.PublicChecks.{too_large_lem, too_large_test, bits_set, bits_set_test}
use Rattle.idpf.proofs.ShareOutcome.{cause_1, outcome_number}

-- ---- the causes

module _ (n : ℕ) (seeds shares : List ℕ) where
  abbrev odd_seeds : Bool
  odd_seeds = not (eqb (length seeds % 16) 0)

  abbrev odd_shares : Bool
  odd_shares = not (eqb (length shares % public_share_length n) 0)

  abbrev other_count : Bool
  other_count = not (eqb (length seeds / 16) (length shares / public_share_length n))

  pub wrong : T (wrong_lengths n seeds shares) → WrongLengths n seeds shares
  wrong = either odd_seeds (odd_shares || other_count) (differ _ _) (either odd_shares other_count (differ _ _) (differ _ _))

  pub wrong_test : WrongLengths n seeds shares → T (wrong_lengths n seeds shares)
  wrong_test = either_test odd_seeds (odd_shares || other_count) (differ_test _ _) (either_test odd_shares other_count (differ_test _ _) (differ_test _ _))

-- ---- the number that is due

module _ (n e : ℕ) (b : Bool) (seeds shares query : List ℕ) (room : ℕ)
    (share-byte : (i : ℕ) → get_or shares i 0 < 256) (query-byte : (i : ℕ) → get_or query i 0 < 256) where
  inside_due : n ≤ 256 → Due (share_causes n e seeds shares query room) (share_outcome n e b seeds shares query room).number
  unfolding share_outcome
  inside_due h =
      let exact = query_exact n query query-byte in
      due
      (length_decided n
      (expander_decided e
      (next {b = wrong_lengths n seeds shares} (wrong n seeds shares) (wrong_test n seeds shares)
      (reports_decided (length seeds / 16)
      (next {b = payload_too_large n (report_count n seeds shares) shares} (too_large_lem n (report_count n seeds shares) shares) (too_large_test n (report_count n seeds shares) shares)
      (next {b = spare_bits_set n (report_count n seeds shares) shares} (bits_set n (report_count n seeds shares) shares share-byte) (bits_set_test n (report_count n seeds shares) shares share-byte)
      (next {b = not (is_query n query)}
      (λ t q. true≢false (sym (exact.1 q) ∙ failed (is_query n query) t))
      (λ g. not_T (is_query n query) (λ t. g (exact.0 (passed (is_query n query) t))))
      (space_decided (8 * prefix_count query) room none))))))))
      _

  -- for all numbers, where each element of the public shares and of the query is below 256: a longer string is refused before its query is judged
  pub share_due : Due (share_causes n e seeds shares query room) (share_outcome n e b seeds shares query room).number
  share_due = elim (dec_lt 256 n) [
    | yes a ↦ inl (inr a, sym (outcome_number n e b seeds shares query room (cause_1 n e seeds shares query room (above_bounds 256 n (omega arith) a))))
    | no a ↦ inside_due (omega arith)
  ]
