-- The numbers that `share_kept` and `write_roots` return are the ones that are due, where the public shares and the queries are bytes.
use Prim.Native.Nat.{ℕ, ◌*◌, ◌/◌, ◌%◌, ◌<◌}
use mathlib.Core.Path.{◌≡◌, refl, sym, ◌∙◌}
use mathlib.Core.Bool.{Bool, true, false, not, true≢false, ◌&&◌}
use mathlib.Core.List.{List}
use mathlib.Core.Logic.{◌⊎◌, inl, inr}
use lib.ListN.{length, get_or}
use lib.Dec.{T, eqb, ltb, ltb→lt, lt→ltb, not_T}
use Rattle.calls.specs.Causes.{Due}
use Rattle.calls.proofs.Decisions.{passed, failed, differ, differ_test, either, either_test}
use Rattle.calls.proofs.Judged.{due, number_due_lem, none, next, length_decided, expander_decided, reports_decided, space_decided}
use Rattle.places.proofs.Lists.{and_left, and_right}
use Rattle.point.specs.PublicShare.{public_share_length}
use Rattle.query.specs.Query.{IsQuery, is_query, prefix_count, prefixes_of}
use Rattle.query.proofs.Queries.{query_exact}
use Rattle.report_sums.specs.Checks.{payload_too_large, spare_bits_set}
use Rattle.report_sums.proofs.PublicChecks.{too_large_lem, too_large_test, bits_set, bits_set_test}
use Rattle.parents.specs.Parents.{IsLast, is_last, last_prefixes, parent_missing}
use Rattle.parents.proofs.Last.{last_exact}
use Rattle.parents.proofs.Members.{missing_told, missing_test}
use Rattle.node_lists.specs.NodeList.{share_count}
use Rattle.node_lists.specs.Roots.{roots_causes, roots_number}
use Rattle.node_lists.specs.ShareKept.{KeptLent, TooFewNodes, too_few_nodes, causes_of, kept_outcome}

-- ---- the causes of the queries and of the nodes

module _ (n : ℕ) (last query : List ℕ) (last_byte : (i : ℕ) → get_or last i 0 < 256) (query-byte : (i : ℕ) → get_or query i 0 < 256) where
  pub no_queries : T (not (is_last n last && is_query n query)) → (IsLast n last → ⊥) ⊎ (IsQuery n query → ⊥)
  no_queries t = go (is_last n last) refl (failed (is_last n last && is_query n query) t)
    where
      go : (b : Bool) → is_last n last ≡ b → (b && is_query n query) ≡ false → (IsLast n last → ⊥) ⊎ (IsQuery n query → ⊥)
      go true e h = inr (λ q. true≢false (sym ((query_exact n query query-byte).1 q) ∙ h))
      go false e h = inl (λ q. true≢false (sym ((last_exact n last last_byte).1 q) ∙ e))

  pub no_queries_test : (IsLast n last → ⊥) ⊎ (IsQuery n query → ⊥) → T (not (is_last n last && is_query n query))
  no_queries_test h =
      not_T (is_last n last && is_query n query)
      (λ t.
      let both = passed (is_last n last && is_query n query) t in
      refuted ((last_exact n last last_byte).0 (and_left (is_last n last) (is_query n query) both))
      ((query_exact n query query-byte).0 (and_right (is_last n last) (is_query n query) both)) h)
    where
      refuted : IsLast n last → IsQuery n query → (IsLast n last → ⊥) ⊎ (IsQuery n query → ⊥) → ⊥
      refuted a q (inl f) = f a
      refuted a q (inr f) = f q

module _ (reports : ℕ) (last query : List ℕ) (count : ℕ) where
  pub too_few : T (too_few_nodes reports last query count) → TooFewNodes reports last query count
  too_few =
      either (ltb count (reports * length (last_prefixes last))) (ltb count (reports * length (prefixes_of query)))
      (ltb→lt count _) (ltb→lt count _)

  pub too_few_test : TooFewNodes reports last query count → T (too_few_nodes reports last query count)
  too_few_test =
      either_test (ltb count (reports * length (last_prefixes last))) (ltb count (reports * length (prefixes_of query)))
      (lt→ltb count _) (lt→ltb count _)

-- ---- the numbers that are due

-- for all numbers, where each element of the public shares and of both queries is below 256
pub kept_due : (s : KeptLent) → ((i : ℕ) → get_or s.shares i 0 < 256) → ((i : ℕ) → get_or s.last i 0 < 256) → ((i : ℕ) → get_or s.query i 0 < 256)
    → Due (causes_of s) (kept_outcome s).number
unfolding kept_outcome
kept_due s share-byte last_byte query-byte =
    let n : ℕ = s.n in
    let shares : List ℕ = s.shares in
    let reports : ℕ = share_count n shares in
    due
    (length_decided n
    (expander_decided s.expander
    (next {b = not (eqb (length shares % public_share_length n) 0)} (differ _ _) (differ_test _ _)
    (reports_decided reports
    (next {b = payload_too_large n reports shares} (too_large_lem n reports shares) (too_large_test n reports shares)
    (next {b = spare_bits_set n reports shares} (bits_set n reports shares share-byte) (bits_set_test n reports shares share-byte)
    (next {b = not (is_last n s.last && is_query n s.query)} (no_queries n s.last s.query last_byte query-byte) (no_queries_test n s.last s.query last_byte query-byte)
    (next {b = too_few_nodes reports s.last s.query (length s.nodes)} (too_few reports s.last s.query (length s.nodes)) (too_few_test reports s.last s.query (length s.nodes))
    (next {b = parent_missing s.last s.query} (missing_told s.last s.query) (missing_test s.last s.query)
    (space_decided (8 * prefix_count s.query) (length s.area) none))))))))))
    _

pub roots_due : (seeds : List ℕ) (count : ℕ) → Due (roots_causes seeds count) (roots_number seeds count)
roots_due seeds count =
    number_due_lem
    (next {b = not (eqb (length seeds % 16) 0)} (differ _ _) (differ_test _ _)
    (reports_decided (length seeds / 16)
    (next {b = ltb count (length seeds / 16)} (ltb→lt count _) (lt→ltb count _) none)))
