-- Demand 2 holds.
use Rattle.std.specs.Prelude.{Some}
use Prim.Native.Nat.{ℕ, ◌*◌, ◌≤◌, ◌<◌}
use native.Mathlib.Omega.{arith}
use mathlib.Core.Path.{◌≡◌, refl, sym, ap, subst, ◌∙◌}
use mathlib.Core.Bool.{Bool, true, false}
use mathlib.Core.List.{List}
use lib.ListN.{length}
use lib.IntN.{ℤ}
use lib.Dec.{T}
use Rattle.places.specs.Lists.{All}
use Rattle.places.proofs.Lists.{all_map}
use Rattle.bits.specs.Strings.{Bits}
use Rattle.calls.specs.Outcome.{accepted}
use Rattle.expander.specs.Expander.{choice_of, is_expander}
use Rattle.expander.specs.declared.Expander.{Expander}
use Rattle.expander.specs.declared.Expander.TheVariants.{Aes, Classroom}
use Rattle.weights.specs.Weights.{EveryOne}
use Rattle.query.specs.Query.{IsQuery, prefix_count, prefixes_of}
use Rattle.query.proofs.Queries.{query_passes}
use Rattle.tree.specs.SearchRule.{totals}
use Rattle.tree.proofs.Agree.{totals_same}
use Rattle.tree.proofs.Demands.{honest_exact, honest_ascending, honest_once}
use Rattle.tree.specs.Cut.{honest_list}
use Rattle.search.specs.Search.{Lent, threshold_of, list_bytes}
use Rattle.search.proofs.Outcome.{Sound}
use Rattle.expander.proofs.Chosen.{known as known-number}
use Rattle.honest.specs.Honest.{Accepted, list_read, Honest}
use Rattle.honest.specs.Loop.{Passes}
use Rattle.honest.proofs.Shares.{query_prefixes}
use Rattle.honest.proofs.Counted.{reports_number, list_count}
use Rattle.honest.proofs.Demand2.{key_made, key_correct, shares_made, shares_add, honest_made, honest_accepted, honest_list_lem}
use Rattle.honest.proofs.Accepting.{honest_within}
use Rattle.honest.proofs.Weighted.{list_throughout, weighted_list}
use Rattle.honest.proofs.Loop.{passing, search_played, accepted_played}
use Rattle.parents.specs.Parents.{ParentMissing, parent_missing}
use Rattle.parents.proofs.Members.{missing_told}
use Rattle.node_lists.proofs.RootsOutcome.{roots_reached, begun_between}
use Rattle.node_lists.proofs.Chain.{reached_nodes}
use Rattle.node_lists.proofs.Following.{chain, kept_follows, reached_between}
use Rattle.kept_search.proofs.KeptLoop.{kept_played_lem}
use Rattle.demands.specs.Words.{expander_number, point_sum, served, by_calls, Servable, Ready, Seeded, with_shares}
use Rattle.demands.specs.Demands.{TheHeavyStrings, TheWeightedStrings, Demand2}

-- ---- expanders by their numbers

chosen : (e : Expander) → choice_of (expander_number e) ≡ Some e
chosen Aes = refl
chosen Classroom = refl

known : (e : Expander) → is_expander (expander_number e) ≡ true
known Aes = refl
known Classroom = refl

-- ---- a server's share

module _ (s : Lent) (xs : List Bits) (ws : List ℤ) (e : Expander) (honest : Honest s xs ws) (ready : Servable s xs e) where
  names : choice_of s.expander ≡ Some e
  names = ap choice_of ready.named ∙ chosen e

  -- what holds at every prefix of at most n bits holds at those of a query
  at_prefixes : (P : Bits → Type 0) → ((q : Bits) → length q ≤ s.n → P q) → (query : List ℕ) → IsQuery s.n query → All P (prefixes_of query)
  at_prefixes P h query asks =
      all_map (λ q. (0 < length q) × (length q ≤ s.n)) P (λ q fits. h q fits.1) (prefixes_of query)
      (query_prefixes s.n query (query_passes s.n query asks))

  share_served : (b : Bool) (query : List ℕ) → IsQuery s.n query → (room : ℕ) → 8 * prefix_count query ≤ room
      → served s b query room ≡ accepted (totals (point_sum s xs ws e b) (prefixes_of query))
  share_served false query asks room fits =
      (shares_add s xs ws honest ready.some_bits ready.not_longer ready.few e names query asks room room fits fits).0
      ∙ ap accepted
      (totals_same _ (point_sum s xs ws e false) (prefixes_of query)
      (at_prefixes _ (λ q h. (shares_made s xs ws honest ready.some_bits ready.not_longer e names q h).2) query asks))
  share_served true query asks room fits =
      (shares_add s xs ws honest ready.some_bits ready.not_longer ready.few e names query asks room room fits fits).1
      ∙ ap accepted
      (totals_same _ (point_sum s xs ws e true) (prefixes_of query)
      (at_prefixes _ (λ q h. (shares_made s xs ws honest ready.some_bits ready.not_longer e names q h).3) query asks))

-- ---- the list

-- the list of an accepted search
list_heavy : (s : Lent) (xs : List Bits) (ws : List ℤ) → Honest s xs ws → EveryOne ws → Accepted s → TheHeavyStrings s xs (list_read s)
list_heavy s xs ws honest ones ok = let h = honest_list_lem s xs ws honest ones ok in (h.0, h.1, h.4, h.3, h.2)

list_weighted : (s : Lent) (xs : List Bits) (ws : List ℤ) → Honest s xs ws → Accepted s → TheWeightedStrings s xs ws (list_read s)
list_weighted s xs ws honest ok = let h = weighted_list s xs ws honest ok in (h.0, h.1, h.4, h.3, h.2)

-- the list that the calls leave
module _ (s : Lent) (xs : List Bits) (ws : List ℤ) (honest : Honest s xs ws) (passes : Passes s) where
  sound : Sound s
  sound = passing s passes

  few : length xs ≤ 65535
  few = omega (arith, sound.few, reports_number s xs ws honest)

  listed : (by_calls s).listed ≡ list_bytes s
  listed =
      sym (search_played s passes
      (honest_within s xs ws honest sound.some_bits sound.not_longer sound.some_threshold sound.not_higher (known-number s.expander sound.expander sound.named) few)).1

  calls_heavy : EveryOne ws → TheHeavyStrings s xs (by_calls s).listed
  calls_heavy ones = (
    honest_list s.n (threshold_of s) xs,
    listed ∙ list_count s xs ws honest sound.expander sound.named sound.some_bits sound.not_longer few ones,
    honest_exact s.n (threshold_of s) xs sound.some_bits,
    honest_once s.n (threshold_of s) xs,
    honest_ascending s.n (threshold_of s) xs,
  )

  calls_weighted : TheWeightedStrings s xs ws (by_calls s).listed
  calls_weighted =
      let h = list_throughout s xs ws honest sound.expander sound.named sound.some_bits sound.not_longer few in
      (h.0, listed ∙ h.1, h.4, h.3, h.2)

-- ---- honest searches

named_known : (s : Lent) (e : Expander) → s.expander ≡ expander_number e → is_expander s.expander ≡ true
named_known s e h = ap is_expander h ∙ known e

has_shares : (s : Lent) (xs : List Bits) (ws : List ℤ) (e : Expander) → Servable s xs e → Seeded s xs ws → (shares : List ℕ) × Honest (with_shares s shares) xs ws
has_shares s xs ws e r seeded = (
  _,
  honest_made s.n s.weighted s.t s.expander xs ws s.seeds0 s.seeds1 s.record_area s.list_area r.some_bits r.not_longer
      (named_known s e r.named) seeded.n_bits seeded.weighed seeded.weights seeded.unweighted seeded.seeds0 seeded.seeds1,
)

accepts : (s : Lent) (xs : List Bits) (ws : List ℤ) (e : Expander) → Honest s xs ws → Ready s xs e → Accepted s
accepts s xs ws e honest r =
    honest_accepted s xs ws honest r.servable.some_bits r.servable.not_longer r.some_threshold r.not_higher
    (named_known s e r.servable.named) r.servable.few r.enough_record_space r.enough_list_space

-- ---- kept nodes

-- where no parent is missing, the test says so
none_missing : (last query : List ℕ) → (ParentMissing last query → ⊥) → parent_missing last query ≡ false
none_missing last query there = go (parent_missing last query) refl
  where
    go : (b : Bool) → parent_missing last query ≡ b → b ≡ false
    go false e = refl
    go true e = absurd (there (missing_told last query (subst T (sym e) tt)))

pub demand_2 : Demand2
demand_2 = (
  λ k b room fits.
      key_made k.expander (expander_number k.expander) (chosen k.expander) k.weight k.string b.some_bits b.not_longer
      k.seed0 k.seed1 b.sized0 b.sized1 room fits,
  λ k b q some fits. key_correct k.expander k.weight k.string k.seed0 k.seed1 b.sized0 b.sized1 q (omega arith) fits,
  share_served,
  reached_nodes,
  λ s last query nodes area r h. sym (chain s last query nodes area r h),
  λ s last query nodes area r enough there. kept_follows s last query nodes area r enough (none_missing last query there),
  roots_reached,
  reached_between,
  begun_between,
  list_heavy,
  λ s xs ws honest. honest.unweighted,
  list_weighted,
  λ s xs ws honest ones passes. calls_heavy s xs ws honest passes ones,
  calls_weighted,
  accepted_played,
  kept_played_lem,
  has_shares,
  accepts,
)
