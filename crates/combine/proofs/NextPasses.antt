-- The next query that `combine` writes passes 9.
use Prim.Native.Nat.{ℕ, ◌≤◌, ◌<◌}
use native.Mathlib.Omega.{arith}
use mathlib.Core.Path.{◌≡◌, refl, ap, ◌∙◌}
use mathlib.Core.Bool.{Bool, true, false, cond}
use mathlib.Core.List.{List, [], ◌∷◌}
use mathlib.Core.Option.{Option, none, some}
use borrow.Author.Tests.{eqb-true, eqb-false, ltb-false}
use lib.ListN.{length, get_or}
use lib.Dec.{ltb, eqb}
use Rattle.bits.specs.Strings.{Bits}
use Rattle.calls.specs.Causes.{number_due}
use Rattle.calls.proofs.Decisions.{neither}
use Rattle.calls.proofs.Judged.{Clear, judged_clear, judged_accepted, judged_due, threshold_numbered}
use Rattle.kept.specs.Kept.{reaches_as}
use Rattle.kept.proofs.Kept.{kept_ascending}
use Rattle.query.specs.Query.{query, limit, IsQuery, prefix_length, prefixes_of, children}
use Rattle.tree.proofs.Asked.{next_query_lem}
use Rattle.query.proofs.Queries.{ascending_test}
use Rattle.query.proofs.Ready.{ready as query-ready}
use Rattle.combine.specs.Answer.{Answer, next, list, ended, further, answer_at, answer_bytes, Kind, next_query, heavy_list, search_ended, kind}
use Rattle.combine.specs.Combine.{share_totals, kept_prefixes, combine_answer, combine_bytes, passes_limit, combine_causes, combine_outcome, combine_kind}
use Rattle.combine.proofs.Ready.{Ready, clear_ready, kept_long}

-- an answer that goes on: before length n, and the children of kept prefixes
pub record GoesOn (n k : ℕ) (ps qs : List Bits) : Type 0 where
  pub not_end : k ≡ n → ⊥
  pub some : 1 ≤ length ps
  pub both : qs ≡ children ps

goes_on : (n k : ℕ) (ps qs : List Bits) → answer_at n k ps ≡ next qs → GoesOn n k ps qs
goes_on n k ps qs e = go (eqb k n) refl ps e
  where
    go : (b : Bool) → eqb k n ≡ b → (ps : List Bits) → cond b (list ps) (further ps) ≡ next qs → GoesOn n k ps qs
    go true f ps e = let z : ◌≡◌ {A = ℕ} 0 1 = cc in absurd (omega arith)
    go false f [] e = let z : ◌≡◌ {A = ℕ} 0 1 = cc in absurd (omega arith)
    go false f (p ∷ ps) e = record { not_end = eqb-false k n f; some = omega arith; both = cc }

module _ (n : ℕ) (weighted : Bool) (t : ℕ) (q s0 s1 : List ℕ) (room : ℕ) (qs : List Bits)
    (e : combine_answer n weighted t q s0 s1 ≡ next qs) (z : (combine_outcome n weighted t q s0 s1 room).number ≡ 0) where
  no_causes : Clear (combine_causes n weighted t q s0 s1 room)
  unfolding combine_outcome
  no_causes =
      judged_clear (combine_causes n weighted t q s0 s1 room) (combine_bytes n weighted t q s0 s1)
      (omega arith, (threshold_numbered weighted, (omega arith, (omega arith, (omega arith, (omega arith, tt)))))) z

  pub all_well : Ready n weighted t q s0 s1
  all_well =
      let c = no_causes in
      clear_ready n weighted t q s0 s1 (c.0, (c.1.0, (c.1.1.0, (c.1.1.1.0, (c.1.1.1.1.0, tt)))))

  pub not_more : length qs ≤ limit
  not_more =
      let c = neither (ltb room (length (combine_bytes n weighted t q s0 s1))) (passes_limit (combine_answer n weighted t q s0 s1)) no_causes.1.1.1.1.1.0 in
      ltb-false limit (length qs) (rw e at c.1)

  -- It is the query for the prefixes qs,
  pub next_written : (combine_outcome n weighted t q s0 s1 room).written ≡ query (prefix_length q) qs
  unfolding combine_outcome
  next_written =
      ap (λ o. o.written) (judged_accepted (combine_causes n weighted t q s0 s1 room) (combine_bytes n weighted t q s0 s1) no_causes) ∙ ap (answer_bytes (prefix_length q)) e

  -- and passes 9.
  pub next_passes : ((i : ℕ) → get_or q i 0 < 256) → IsQuery n (combine_outcome n weighted t q s0 s1 room).written
  next_passes byte =
      let ks = kept_prefixes weighted t q s0 s1 in
      let g = goes_on n (prefix_length q) ks qs e in
      let r = query-ready n q all_well.a_query_lem in
      let k : prefix_length q < n = omega (arith, r.not_longer, g.not_end) in
      let f : length (children ks) ≤ limit = rw (← g.both) not_more in
      let a = kept_ascending (reaches_as weighted t) (prefixes_of q) (share_totals s0 s1) ((ascending_test (prefixes_of q)).0 r.ascending) in
      rw (next_written, g.both)
      (next_query_lem n (prefix_length q) ks k (omega (arith, all_well.not_longer)) g.some f (kept_long n weighted t q s0 s1 byte all_well (reaches_as weighted t)) a)

-- Where the kind of answer is a next query, the call succeeds, and its answer holds both children of each kept prefix.
pub next_told : (n : ℕ) (weighted : Bool) (t : ℕ) (q s0 s1 : List ℕ) (room : ℕ) → combine_kind n weighted t q s0 s1 room ≡ some next_query
    → ((combine_outcome n weighted t q s0 s1 room).number ≡ 0) × (combine_answer n weighted t q s0 s1 ≡ next (children (kept_prefixes weighted t q s0 s1)))
unfolding combine_kind combine_outcome
next_told n weighted t q s0 s1 room h =
    go (eqb due 0) refl (combine_answer n weighted t q s0 s1) refl h
  where
    due : ℕ
    due = number_due (combine_causes n weighted t q s0 s1 room)

    is_next : Option Kind → ℕ
    is_next none = 0
    is_next (some next_query) = 1
    is_next (some heavy_list) = 0
    is_next (some search_ended) = 0

    go : (b : Bool) → eqb due 0 ≡ b → (a : Answer) → combine_answer n weighted t q s0 s1 ≡ a → cond b (some (kind a)) none ≡ some next_query
        → ((combine_outcome n weighted t q s0 s1 room).number ≡ 0) × (combine_answer n weighted t q s0 s1 ≡ next (children (kept_prefixes weighted t q s0 s1)))
    go true z (next qs) e h = (
      judged_due (combine_causes n weighted t q s0 s1 room) _ ∙ eqb-true due 0 z,
      e ∙ ap next (goes_on n (prefix_length q) (kept_prefixes weighted t q s0 s1) qs e).both,
    )
    go true z (list ss) e h = absurd (omega (arith, ap is_next h))
    go true z ended e h = absurd (omega (arith, ap is_next h))
    go false z a e h = absurd (omega (arith, ap is_next h))
