-- A next query that combining writes never gives 14: each of its prefixes has its parent in the query before.
use Prim.Native.Nat.{ℕ}
use native.Mathlib.Omega.{arith}
use mathlib.Core.Path.{◌≡◌, sym, ap, ◌∙◌, subst}
use mathlib.Core.Bool.{Bool, true, false}
use mathlib.Core.List.{List}
use mathlib.Core.Option.{some}
use lib.ListN.{length}
use Rattle.places.specs.Lists.{◌∈◌}
use Rattle.places.proofs.Lists.{all_mem, all_each}
use Rattle.bits.specs.Strings.{Bits}
use Rattle.kept.specs.Kept.{reaches_as}
use Rattle.kept.proofs.Kept.{kept_all}
use Rattle.query.specs.Query.{OfLength, is_query, prefix_length, prefixes_of}
use Rattle.query.proofs.Ready.{ready}
use Rattle.combine.specs.Answer.{next_query}
use Rattle.combine.specs.Combine.{share_totals, kept_prefixes, combine_outcome, combine_kind}
use Rattle.combine.proofs.NextPasses.{all_well, not_more, next_written, next_told}
use Rattle.parents.specs.Parents.{parent_missing}
use Rattle.parents.proofs.Last.{known_query, prefixes_length}
use Rattle.parents.proofs.Placed.{in_at}
use Rattle.node_lists.proofs.Chain.{query_last}
use Rattle.node_lists.proofs.Following.{next_has_parents}

-- the prefixes of a query have its length
query_long : (n : ℕ) (q : List ℕ) → is_query n q ≡ true → OfLength (prefix_length q) (prefixes_of q)
query_long n q e =
    all_each _ (prefixes_of q)
    (λ p m.
    let w = in_at m in
    ap length (sym w.2) ∙ (known_query n q e).bits w.0 (omega (arith, w.1, prefixes_length q)))

pub next_parented : (n : ℕ) (weighted : Bool) (t : ℕ) (query share0 share1 : List ℕ) (room : ℕ)
    → combine_kind n weighted t query share0 share1 room ≡ some next_query
    → parent_missing query (combine_outcome n weighted t query share0 share1 room).written ≡ false
next_parented n weighted t query share0 share1 room h =
    let is = next_told n weighted t query share0 share1 room h in
    let well = all_well n weighted t query share0 share1 room _ is.1 is.0 in
    let few = not_more n weighted t query share0 share1 room _ is.1 is.0 in
    let r = ready n query well.a_query_lem in
    let kept_in : (p : Bits) → p ∈ kept_prefixes weighted t query share0 share1 → p ∈ prefixes_of query =
    λ p m. all_mem (λ x. x ∈ prefixes_of query) (kept_all (reaches_as weighted t) _ (prefixes_of query) (share_totals share0 share1) (all_each _ (prefixes_of query) (λ x i. i))) m in
    rw (next_written n weighted t query share0 share1 room _ is.1 is.0)
    (next_has_parents query (prefix_length query) (kept_prefixes weighted t query share0 share1)
    (λ p m. subst (λ (ps : List Bits). p ∈ ps) (sym (query_last n query well.a_query_lem).1) (kept_in p m))
    (omega (arith, r.not_longer, well.not_longer)) (omega (arith, few))
    (kept_all (reaches_as weighted t) _ (prefixes_of query) (share_totals share0 share1) (query_long n query well.a_query_lem)))
