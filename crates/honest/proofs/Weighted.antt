-- Honest searches with any weights: signed totals, and which strings the list holds. Where every weight is one, `Demand2` says more.
use Rattle.std.specs.Prelude.{Some}
use Prim.Native.Nat.{ℕ, ◌+◌, ◌*◌, ◌/◌, ◌≤◌, ◌<◌}
use native.Mathlib.Omega.{arith}
use mathlib.Core.Path.{◌≡◌, refl, sym, ap, ap₂, ◌∙◌}
use mathlib.Core.Logic.{◌↔◌}
use mathlib.Core.Bool.{Bool, true, false}
use mathlib.Core.List.{List}
use lib.ListN.{length}
use lib.IntN.{ℤ, pos, ◌+ℤ◌}
use lib.Signed.{le_z, le_z_yes}
use Rattle.places.specs.Lists.{◌∈◌, All}
use Rattle.places.proofs.Lists.{all_mem, all_each}
use Rattle.bits.specs.Strings.{Bits, ◌▹◌, Ascending}
use Rattle.bits.proofs.Append.{append_length}
use Rattle.calls.proofs.Decisions.{passed}
use Rattle.expander.specs.Expander.{choice_of}
use Rattle.expander.specs.declared.Expander.{Expander}
use Rattle.expander.proofs.Chosen.{known}
use Rattle.group.specs.Modular.{modulus}
use Rattle.signed.specs.SignedReading.{embed, signed_in}
use Rattle.weights.specs.Weights.{held_weight}
use Rattle.weights.proofs.HeldWeights.{held_children}
use Rattle.query.specs.Query.{packs, children}
use Rattle.query.proofs.Children.{children_length}
use Rattle.tree.specs.SearchRule.{search_record, search_list}
use Rattle.tree.specs.Cut.{prefixes, times}
use Rattle.tree.specs.Space.{fewest_holders}
use Rattle.tree.proofs.Agree.{list_agrees, record_agrees}
use Rattle.tree.proofs.Kept.{list_exact, list_ascending}
use Rattle.tree.proofs.Prefixes.{prefixes_exact, prefix_shorter}
use Rattle.tree.proofs.Rearranging.{ascending_once}
use Rattle.search.specs.Search.{Lent, counted_number, threshold_of, reaches_of, total, record_bytes, list_bytes}
use Rattle.search.proofs.Outcome.{accepted_clear}
use Rattle.honest.specs.Honest.{Accepted, record_read, list_read, Honest, counted_strings, counted_weights, HeavyThroughout}
use Rattle.honest.proofs.Reading.{record_read_lem, list_read_lem}
use Rattle.honest.proofs.Accepting.{kept_most}
use Rattle.honest.proofs.Counted.{reports_number, total_held, kept_weighs, few_strings, accepted_weighs}

-- ---- the list

-- The bytes are the strings of n bits that are heavy throughout and no other, packed, strictly ascending and once each.
abbrev pub Throughout : Lent → List Bits → List ℤ → List ℕ → Type 0
Throughout s xs ws bytes =
    (ss : List Bits) × (bytes ≡ packs ss) × Ascending ss × ((x : Bits) → times x ss ≤ 1)
    × ((x : Bits) → (x ∈ ss) ↔ ((length x ≡ s.n) × HeavyThroughout (threshold_of s) (counted_strings s xs) (counted_weights s ws) x))

-- At most 65,535 honest reports for strings of 1 to 256 bits under a known expander.
module _ (s : Lent) (xs : List Bits) (ws : List ℤ) (honest : Honest s xs ws) (e : Expander) (named : choice_of s.expander ≡ Some e)
    (from : 1 ≤ s.n) (to : s.n ≤ 256) (few : length xs ≤ 65535) where
  keeps : (q : Bits) → 1 ≤ length q → length q ≤ s.n → reaches_of s (total s q) ≡ le_z (pos (threshold_of s)) (held_weight xs ws q)
  keeps q some fits = kept_weighs s xs ws honest e named from to few q (omega arith) fits

  -- every non-empty prefix of x is kept exactly where x is heavy throughout
  all_kept : (x : Bits) → length x ≡ s.n → All (λ q. reaches_of s (total s q) ≡ true) (prefixes x) ↔ HeavyThroughout (threshold_of s) xs ws x
  all_kept x sized = (
    λ a q begins some.
        let fits : length q ≤ s.n = omega (arith, sized, prefix_shorter q x begins) in
        le_z_yes (rw (← keeps q some fits, all_mem (λ q. reaches_of s (total s q) ≡ true) a ((prefixes_exact q x).1 (begins, some))) tt),
    λ heavy. all_each (λ q. reaches_of s (total s q) ≡ true) (prefixes x) (λ q m.
        let is = (prefixes_exact q x).0 m in
        let fits : length q ≤ s.n = omega (arith, sized, prefix_shorter q x is.0) in
        keeps q is.1 fits ∙ passed _ (heavy q is.0 is.1).le),
  )

  -- The list that is to be written holds the strings that are heavy throughout.
  pub list_throughout : Throughout s xs ws (list_bytes s)
  unfolding list_bytes
  list_throughout = (
    ss,
    refl,
    ascending,
    λ x. ascending_once x ss ascending,
    λ x. let exact = list_exact (reaches_of s) (total s) s.n x in (
      λ i. let h = exact.0 i in (h.0, (all_kept x h.0).0 h.1),
      λ c. exact.1 (c.0, (all_kept x c.0).1 c.1),
    ),
  )
    where
      ss : List Bits
      ss = search_list (reaches_of s) (total s) s.n

      ascending : Ascending ss
      ascending = list_ascending (reaches_of s) (total s) s.n

-- The list of an accepted search of honest reports holds every string of n bits all of whose non-empty prefixes have holders' weights adding to t or
-- more and no other, packed, strictly ascending and once each.
pub weighted_list : (s : Lent) (xs : List Bits) (ws : List ℤ) → Honest s xs ws → Accepted s → Throughout s xs ws (list_read s)
weighted_list s xs ws honest ok =
    let sound = (accepted_clear s ok).sound in
    let h = list_throughout s xs ws honest sound.expander sound.named sound.some_bits sound.not_longer (few_strings s xs ws honest ok) in
    (h.0, list_read_lem s ok ∙ h.1, h.2, h.3, h.4)

-- ---- the record

-- The record and the list of an accepted search of honest reports are those of the search rule with what the holders' weights add to, as group numbers:
-- neither seeds nor the expander have a part in them.
pub weighted_record : (s : Lent) (xs : List Bits) (ws : List ℤ) → Honest s xs ws → Accepted s
    → let held : Bits → ℕ = λ q. embed modulus (held_weight (counted_strings s xs) (counted_weights s ws) q) in
    (record_read s ≡ search_record (reaches_of s) held (length (counted_strings s xs)) s.n) × (list_read s ≡ packs (search_list (reaches_of s) held s.n))
unfolding record_bytes list_bytes
weighted_record s xs ws honest ok = (
  record_read_lem s ok
      ∙ record_agrees (reaches_of s) (reaches_of s) (total s) held s.n same tests (counted_number s)
      ∙ ap (λ (C : ℕ). search_record (reaches_of s) held C s.n) (reports_number s xs ws honest),
  list_read_lem s ok ∙ ap packs (list_agrees (reaches_of s) (reaches_of s) (total s) held s.n same tests s.n (omega arith)),
)
  where
    held : Bits → ℕ
    held q = embed modulus (held_weight xs ws q)

    same : (q : Bits) → 0 < length q → length q ≤ s.n → total s q ≡ held q
    same =
        let sound = (accepted_clear s ok).sound in
        total_held s xs ws honest sound.expander sound.named sound.some_bits sound.not_longer

    tests : (q : Bits) → 0 < length q → length q ≤ s.n → reaches_of s (total s q) ≡ reaches_of s (held q)
    tests q some fits = ap (reaches_of s) (same q some fits)

-- ---- the totals

-- The total of a prefix of 1 to n bits, read as a signed number, is what the weights of its holders add to.
pub weighted_total : (s : Lent) (xs : List Bits) (ws : List ℤ) → Honest s xs ws → Accepted s
    → (q : Bits) → 0 < length q → length q ≤ s.n → signed_in modulus (total s q) ≡ held_weight (counted_strings s xs) (counted_weights s ws) q
weighted_total s xs ws honest ok q least fits = accepted_weighs s xs ws honest ok q least fits

-- The totals of two children, so read, add to their parent's.
pub weighted_children : (s : Lent) (xs : List Bits) (ws : List ℤ) → Honest s xs ws → Accepted s → (q : Bits) → 0 < length q → length q < s.n
    → signed_in modulus (total s (q ▹ false)) +ℤ signed_in modulus (total s (q ▹ true)) ≡ signed_in modulus (total s q)
weighted_children s xs ws honest ok q least short =
    let longer : (b : Bool) → length (q ▹ b) ≡ length q + 1 = append_length q in
    let child : (b : Bool) → signed_in modulus (total s (q ▹ b)) ≡ held_weight xs ws (q ▹ b) =
    λ b. accepted_weighs s xs ws honest ok (q ▹ b) (omega (arith, longer b)) (omega (arith, longer b)) in
    ap₂ ◌+ℤ◌ (child false) (child true)
    ∙ sym (held_children s.n xs ws honest.n_bits q short)
    ∙ sym (accepted_weighs s xs ws honest ok q least (omega arith))

-- ---- the queries

-- A query after the first, for prefixes of k + 1 bits, has at most twice as many as C ÷ h, rounded down, where at least h hold a kept prefix.
pub weighted_query_most : (s : Lent) (xs : List Bits) (ws : List ℤ) → Honest s xs ws → Accepted s → (k : ℕ) → 1 ≤ k → k < s.n
    → length (children (search_list (reaches_of s) (total s) k)) ≤ 2 * (length (counted_strings s xs) / fewest_holders s.weighted (threshold_of s))
weighted_query_most s xs ws honest ok k least short =
    let sound = (accepted_clear s ok).sound in
    omega (
      arith,
      children_length (search_list (reaches_of s) (total s) k),
      kept_most s xs ws honest sound.some_bits sound.not_longer sound.some_threshold sound.not_higher
          (known s.expander sound.expander sound.named) (few_strings s xs ws honest ok) k least (omega arith),
    )
