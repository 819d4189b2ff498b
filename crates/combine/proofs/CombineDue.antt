-- The number that `combine` returns is the one that is due, where the query is bytes.
use Prim.Native.Nat.{ℕ, ◌*◌, ◌<◌}
use mathlib.Core.Path.{◌≡◌, sym, ◌∙◌}
use mathlib.Core.Bool.{Bool, true, false, not, true≢false, ◌&&◌, ◌||◌}
use mathlib.Core.List.{List}
use lib.ListN.{length, get_or}
use lib.Dec.{T, eqb, ltb, ltb→lt, lt→ltb, not_T}
use Rattle.calls.specs.Causes.{Due}
use Rattle.calls.proofs.Decisions.{passed, failed, differ, differ_test, either, either_test}
use Rattle.calls.proofs.Judged.{due, none, next as also, length_decided, threshold_decided}
use Rattle.query.specs.Query.{limit, IsQuery, is_query, prefix_count}
use Rattle.query.proofs.Queries.{query_exact}
use Rattle.shares.specs.ShareNumbers.{unmatched}
use Rattle.shares.proofs.Matching.{unmatched_holds, unmatched_test, numbers_decided}
use Rattle.combine.specs.Answer.{Answer, next, list, ended}
use Rattle.combine.specs.Combine.{WrongShares, wrong_shares, PassesLimit, passes_limit, combine_answer, combine_bytes, combine_causes, combine_outcome}

-- ---- each test decides its clause

both : {P Q : Type 0} (a b : Bool) → (T a → P) → (T b → Q) → T (a && b) → P × Q
both true b f g t = (f tt, g t)
both false b f g t = absurd t

both_test : {P Q : Type 0} (a b : Bool) → (P → T a) → (Q → T b) → P × Q → T (a && b)
both_test true b f g h = g h.1
both_test false b f g h = absurd (f h.0)

pub passes : (a : Answer) → T (passes_limit a) → PassesLimit a
passes (next qs) t = ltb→lt limit (length qs) t
passes (list ss) t = t
passes ended t = t

pub passes_test : (a : Answer) → PassesLimit a → T (passes_limit a)
passes_test (next qs) h = lt→ltb limit (length qs) h
passes_test (list ss) h = h
passes_test ended h = h

-- ---- the number that is due

module _ (n : ℕ) (weighted : Bool) (t : ℕ) (query share0 share1 : List ℕ) (room : ℕ) (byte : (i : ℕ) → get_or query i 0 < 256) where
  a_query_lem : T (is_query n query) → IsQuery n query
  a_query_lem h = (query_exact n query byte).0 (passed (is_query n query) h)

  a_query_test : IsQuery n query → is_query n query ≡ true
  a_query_test = (query_exact n query byte).1

  a_query_holds : IsQuery n query → T (is_query n query)
  a_query_holds q = rw (a_query_test q) tt

  abbrev other_count : Bool
  other_count = not (eqb (length share0) (8 * prefix_count query))

  wrong : T (wrong_shares n query share0 share1) → WrongShares n query share0 share1
  wrong =
      either (unmatched share0 share1) (is_query n query && other_count) (unmatched_holds share0 share1)
      (both (is_query n query) other_count a_query_lem (differ _ _))

  wrong_test : WrongShares n query share0 share1 → T (wrong_shares n query share0 share1)
  wrong_test =
      either_test (unmatched share0 share1) (is_query n query && other_count) (unmatched_test share0 share1)
      (both_test (is_query n query) other_count a_query_holds (differ_test _ _))

  abbrev no_room_lem : Bool
  no_room_lem = ltb room (length (combine_bytes n weighted t query share0 share1))

  abbrev past_limit : Bool
  past_limit = passes_limit (combine_answer n weighted t query share0 share1)

  -- for all numbers and shares, where each element of the query is below 256
  pub combine_due : Due (combine_causes n weighted t query share0 share1 room) (combine_outcome n weighted t query share0 share1 room).number
  unfolding combine_outcome
  combine_due =
      due
      (length_decided n
      (threshold_decided weighted t
      (also {b = wrong_shares n query share0 share1} wrong wrong_test
      (numbers_decided share0 share1
      (also {b = not (is_query n query)}
      (λ h q. true≢false (sym (a_query_test q) ∙ failed (is_query n query) h))
      (λ g. not_T (is_query n query) (λ h. g (a_query_lem h)))
      (also {b = no_room_lem || past_limit}
      (either no_room_lem past_limit (ltb→lt room _) (passes (combine_answer n weighted t query share0 share1)))
      (either_test no_room_lem past_limit (lt→ltb room _) (passes_test (combine_answer n weighted t query share0 share1))) none))))))
      _
