-- The call `share`: document 01, 'Keys and nodes', a server's share for a query.
use Rattle.std.specs.Prelude.{ℕ, ◌*◌, ◌/◌, Bool, not, List, [], ◌∷◌, map, length}
use Rattle.numbers.specs.Numbers.{in_bytes}
use Rattle.bits.specs.Strings.{Bits}
use Rattle.calls.specs.Bounds.{length_cause, expander_cause, reports_cause, space_cause}
use Rattle.calls.specs.Causes.{Cause, cause}
use Rattle.calls.specs.Outcome.{Outcome, judged, Exit, exit}
use Rattle.expander.specs.Expander.{choice_of, under}
use Rattle.expander.specs.declared.Expander.{Expander}
use Rattle.point.specs.Evaluation.{bit_of}
use Rattle.query.specs.Query.{IsQuery, is_query, prefix_count, prefixes_of}
use Rattle.report_sums.specs.Reports.{report_count, all_count, server_sum}
use Rattle.report_sums.specs.Checks.{WrongLengths, wrong_lengths, PayloadTooLarge, payload_too_large, SpareBitsSet, spare_bits_set}

-- the causes
abbrev pub share_causes : ℕ → ℕ → List ℕ → List ℕ → List ℕ → ℕ → List Cause
share_causes n e seeds shares query room =
    length_cause n
    ∷ expander_cause e
    ∷ cause 4 (WrongLengths n seeds shares) (wrong_lengths n seeds shares)
    ∷ reports_cause (length seeds / 16)
    ∷ cause 6 (PayloadTooLarge n (report_count n seeds shares) shares) (payload_too_large n (report_count n seeds shares) shares)
    ∷ cause 7 (SpareBitsSet n (report_count n seeds shares) shares) (spare_bits_set n (report_count n seeds shares) shares)
    ∷ cause 9 (IsQuery n query → ⊥) (not (is_query n query))
    ∷ space_cause (8 * prefix_count query) room
    ∷ []

-- for each prefix of the query in order the sum over all lent reports, 8 bytes each
unfoldable pub share_bytes : ℕ → Bool → List ℕ → List ℕ → List ℕ → Expander → List ℕ
share_bytes n b seeds shares query e = in_bytes (map (λ (q : Bits). server_sum e n b seeds shares all_count (bit_of q) (length q)) (prefixes_of query))

-- the outcome
unfoldable pub share_outcome : ℕ → ℕ → Bool → List ℕ → List ℕ → List ℕ → ℕ → Outcome
share_outcome n e b seeds shares query room = judged (share_causes n e seeds shares query room) (under (choice_of e) (share_bytes n b seeds shares query))

-- what the call returns, and the space that it is lent, at exit
abbrev pub share_exit : ℕ → ℕ → Bool → List ℕ → List ℕ → List ℕ → List ℕ → Exit
share_exit n e b seeds shares query area = exit (share_outcome n e b seeds shares query (length area)) area
