-- The examples of weighted searches: every row of their table holds.
use Prim.Native.Nat.{ℕ, ◌≤◌}
use native.Mathlib.Omega.{arith}
use mathlib.Core.Path.{◌≡◌, refl, sym, ap, ap₂, ◌∙◌, subst}
use mathlib.Core.Bool.{Bool, true}
use mathlib.Core.List.{List}
use lib.ListN.{length}
use lib.IntN.{ℤ}
use Rattle.places.specs.Lists.{All}
use Rattle.bits.specs.Strings.{Bits}
use Rattle.calls.specs.Bounds.{most_weighted_threshold, threshold_most, threshold_number, outside}
use Rattle.calls.proofs.Decisions.{in_bounds}
use Rattle.calls.proofs.Judged.{◌&◌}
use Rattle.group.specs.Modular.{modulus}
use Rattle.signed.specs.SignedReading.{embed, signed_in}
use Rattle.kept.specs.Kept.{reaches_as}
use Rattle.weights.specs.Weights.{held_weight}
use Rattle.query.specs.Query.{packs}
use Rattle.tree.specs.SearchRule.{search_record, search_list}
use Rattle.tree.specs.Space.{level_length, space_from, fewest_holders, record_space, list_space}
use Rattle.combine.specs.Combine.{combine_outcome}
use Rattle.search.specs.Search.{threshold_of, reaches_of, search_number}
use Rattle.honest.proofs.Demand2.{honest_accepted}
use Rattle.honest.proofs.Weighted.{weighted_record}
use Rattle.examples.specs.Weighted.{WeightedHolds, weighted_search, accepted_in, refused_with, weighted_table}
use Rattle.examples.proofs.Sheet.{keys, calls, records}

-- A search row holds where the record and the list that the rule gives for what the weights add to are those of the row.
search_row : (n t : ℕ) (xs : List Bits) (ws : List ℤ) (bytes : List ℕ) (ss : List Bits)
    → let held : Bits → ℕ = λ q. embed modulus (held_weight xs ws q) in
    search_record (reaches_as true t) held (length xs) n ≡ bytes → search_list (reaches_as true t) held n ≡ ss → WeightedHolds (weighted_search n t xs ws bytes ss)
search_row n t xs ws bytes ss record_is list_is s honest weighted bits threshold ok =
    let held : Bits → ℕ = λ q. embed modulus (held_weight xs ws q) in
    let rule : reaches_of s ≡ reaches_as true t = ap₂ reaches_as weighted threshold in
    let both = weighted_record s xs ws honest ok in (
      both.0 ∙ ap₂ (λ (r : ℕ → Bool) (m : ℕ). search_record r held (length xs) m) rule bits ∙ record_is,
      both.1 ∙ ap packs (ap₂ (λ (r : ℕ → Bool) (m : ℕ). search_list r held m) rule bits ∙ list_is),
    )

-- An acceptance row holds where n, t and the number of strings are within their bounds, and its bytes are the space that is named.
accepted_row : (n t : ℕ) (xs : List Bits) (ws : List ℤ) → 1 ≤ n → n ≤ 256 → 1 ≤ t → t ≤ most_weighted_threshold → length xs ≤ 65535
    → WeightedHolds (accepted_in n t xs ws (record_space n (fewest_holders true t) (length xs)) (list_space n (fewest_holders true t) (length xs)))
accepted_row n t xs ws from to least most few s honest weighted bits threshold known room list =
    let holders : fewest_holders s.weighted (threshold_of s) ≡ fewest_holders true t = ap₂ fewest_holders weighted threshold in
    honest_accepted s xs ws honest (rw bits from) (rw bits to) (rw threshold least)
    (subst (λ (b : Bool). s.t ≤ threshold_most b) (sym weighted) (rw threshold most)) known few
    (subst (λ (h : ℕ). record_space s.n h (length xs) ≤ length s.record_area) (sym holders) (rw bits room))
    (subst (λ (h : ℕ). list_space s.n h (length xs) ≤ length s.list_area) (sym holders) (rw bits list))

-- A threshold outside the bounds of a weighted search is refused with 12.
refused_row : (t : ℕ) → outside (threshold_most true) t ≡ true → WeightedHolds (refused_with t 12)
unfolding search_number combine_outcome
refused_row t beyond = (
  λ s weighted from to threshold.
      let test : outside (threshold_most s.weighted) s.t ≡ true = ap₂ (λ (b : Bool) (u : ℕ). outside (threshold_most b) u) weighted threshold ∙ beyond in
      rw (in_bounds 256 s.n from to, test) (ap threshold_number weighted),
  λ n query share0 share1 room from to. rw (in_bounds 256 n from to, beyond),
)

-- Every row of the table holds.
pub weighted_examples : All WeightedHolds weighted_table
unfolding keys calls records signed_in record_space list_space space_from level_length
weighted_examples =
    search_row 2 2 _ _ _ _ refl refl
    & accepted_row 2 2 _ _ (omega arith) (omega arith) (omega arith) (omega arith) (omega arith)
    & refl
    & refl
    & search_row 1 2147483647 _ _ _ _ refl refl
    & accepted_row 1 2147483647 _ _ (omega arith) (omega arith) (omega arith) (omega arith) (omega arith)
    & search_row 1 1 _ _ _ _ refl refl
    & search_row 1 1 _ _ _ _ refl refl
    & refused_row 0 refl
    & refused_row 2147483648 refl
    & tt
