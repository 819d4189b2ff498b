-- A call of a session and the walk from the root: one outcome, as long as the nodes are enough and no parent is missing.
use Prim.Native.Nat.{ℕ, ◌-◌, ◌*◌, ◌/◌, ◌%◌, ◌≤◌, ◌<◌}
use native.Mathlib.Omega.{arith}
use native.Mathlib.Nat.{min-eq_left}
use mathlib.Core.Path.{◌≡◌, refl, sym, ap, ap₂, ◌∙◌, subst}
use mathlib.Core.Bool.{Bool, true, false, not, ◌||◌}
use mathlib.Core.List.{List, [], ◌∷◌}
use mathlib.Core.List.Memᴰ.{head as here}
use mathlib.Core.List.Memᴰ.{tail as there}
use mathlib.Core.Logic.{◌≢◌}
use borrow.Author.Tests.{eqb-true, eqb-false, eq-eqb, le-ltb}
use lib.ListN.{length, length-append}
use lib.Seq.{take_at, length-take-le}
use lib.Dec.{eqb}
use Rattle.places.specs.Lists.{◌∈◌}
use Rattle.bits.specs.Strings.{Bits, ◌▹◌}
use Rattle.calls.specs.Causes.{number_due}
use Rattle.calls.specs.Outcome.{Outcome, accepted}
use Rattle.calls.proofs.Judged.{judged_due}
use Rattle.point.specs.Node.{Node}
use Rattle.point.specs.PublicShare.{public_share_length}
use Rattle.query.specs.Query.{OfLength, query, children, prefixes_of}
use Rattle.query.proofs.Children.{children_longer}
use Rattle.query.proofs.Queries.{read_prefixes}
use Rattle.report_sums.specs.Reports.{report_count}
use Rattle.report_sums.specs.Checks.{wrong_lengths}
use Rattle.idpf.specs.Share.{share_causes}
use Rattle.idpf.proofs.ShareOutcome.{outcome_number, outcome_refused, outcome_accepted}
use Rattle.parents.specs.Parents.{is_last, last_prefixes, parent, parent_missing}
use Rattle.parents.proofs.Members.{missing_told}
use Rattle.node_lists.specs.ShareKept.{KeptLent, kept_outcome, nodes_after}
use Rattle.node_lists.specs.Sessions.{Session, call, walked, Reached, at_roots, after}
use Rattle.node_lists.proofs.Overlaid.{as_long}
use Rattle.node_lists.proofs.RootsOutcome.{roots_one_each}
use Rattle.node_lists.proofs.KeptOutcome.{kept_number, kept_number_lem, kept_refused, nodes_refused, kept_ready, kept_accepted, nodes_as_many}
use Rattle.node_lists.proofs.Chain.{query_last, reports, seeds_count, reached_stands, bytes_walked}

-- ---- the causes of both calls

or_false : (b : Bool) → (b || false) ≡ b
or_false false = refl
or_false true = refl

same_outcome : {o r : Outcome} → o.number ≡ r.number → o.written ≡ r.written → o ≡ r
same_outcome h k = ap₂ (λ (m : ℕ) (w : List ℕ). record { number = m; written = w }) h k

module _ (s : Session) where
  counted : report_count s.n s.seeds s.shares ≡ reports s
  counted = min-eq_left (omega (arith, seeds_count s)) ∙ seeds_count s

  -- there are as many seeds as public shares, so the lengths are wrong exactly when the public shares are not whole
  wrong_shares_lem : wrong_lengths s.n s.seeds s.shares ≡ not (eqb (length s.shares % public_share_length s.n) 0)
  wrong_shares_lem =
      let none_left : length s.seeds % 16 ≡ 0 = omega (arith, s.as_many) in
      rw (eq-eqb (length s.seeds % 16) 0 none_left, eq-eqb (length s.seeds / 16) (reports s) (seeds_count s)) (or_false _)

  -- what is known of a list whatever the expander
  pub reached_last : {last : List ℕ} {nodes : List Node} → Reached s last nodes
      → (is_last s.n last ≡ true) × (reports s * length (last_prefixes last) ≤ length nodes)
  reached_last (at_roots nodes h) =
      (refl, omega (arith, as_long (reports s) nodes _ h (omega (arith, roots_one_each s.server s.seeds, seeds_count s))))
  reached_last (after last query nodes left area r h same) =
      let c : KeptLent = call s last query nodes area in
      let d = kept_ready c h in
      let l = query_last s.n query d.a_query_lem in
      let used : ℕ = reports s * length (prefixes_of query) in
      (l.0, rw l.1 (as_long used left _ same (omega (arith, length-take-le used (nodes_after c) (omega (arith, d.query_nodes, nodes_as_many c))))))

  -- a refused call of any session leaves the list as it may be given to the next
  pub reached_between : (last : List ℕ) (c : KeptLent) → Reached s last c.nodes → (kept_outcome c).number ≢ 0 → Reached s last (nodes_after c)
  reached_between last c r h = subst (Reached s last) (sym (nodes_refused c (λ z. h (kept_number_lem c ∙ z)))) r

module _ (s : Session) (last query : List ℕ) (nodes : List Node) (area : List ℕ) where
  -- the call, and the outcome of the walk from the root
  abbrev kept : KeptLent
  kept = call s last query nodes area

  abbrev answered : Outcome
  answered = walked s query (length area)

  same_number : is_last s.n last ≡ true → reports s * length (last_prefixes last) ≤ length nodes → reports s * length (prefixes_of query) ≤ length nodes
      → parent_missing last query ≡ false → kept_number kept ≡ number_due (share_causes s.n s.expander s.seeds s.shares query (length area))
  same_number l before now found =
      rw (
        wrong_shares_lem s,
        counted s,
        seeds_count s,
        l,
        le-ltb (length nodes) (reports s * length (last_prefixes last)) before,
        le-ltb (length nodes) (reports s * length (prefixes_of query)) now,
        found,
      )

  -- Where the nodes are enough for the new query and no parent is missing, both calls have one outcome, the number of a refusal included.
  pub kept_follows : Reached s last nodes → reports s * length (prefixes_of query) ≤ length nodes → parent_missing last query ≡ false
      → kept_outcome kept ≡ answered
  kept_follows r now found =
      go (eqb (kept_outcome kept).number 0) refl
    where
      causes_number : (kept_outcome kept).number ≡ number_due (share_causes s.n s.expander s.seeds s.shares query (length area))
      causes_number = let l = reached_last s r in kept_number_lem kept ∙ same_number l.0 l.1 now found

      judged_number : (kept_outcome kept).number ≡ answered.number
      judged_number =
          outcome_number s.n s.expander s.server s.seeds s.shares query (length area)
          (causes_number ∙ sym (judged_due (share_causes s.n s.expander s.seeds s.shares query (length area)) []))

      go : (b : Bool) → eqb (kept_outcome kept).number 0 ≡ b → kept_outcome kept ≡ answered
      go true e =
          let h : (kept_outcome kept).number ≡ 0 = eqb-true _ 0 e in
          let d = kept_ready kept h in
          kept_accepted kept d.expander d.chosen h
          ∙ ap accepted (bytes_walked s d.expander last query nodes (reached_stands s d.expander d.chosen r) d.a_query_lem found)
          ∙ sym (outcome_accepted s.n s.expander s.server s.seeds s.shares query (length area) d.expander d.chosen
          (judged_due (share_causes s.n s.expander s.seeds s.shares query (length area)) [] ∙ sym causes_number ∙ h))
      go false e =
          let z : (kept_outcome kept).number ≢ 0 = eqb-false _ 0 e in
          same_outcome judged_number
          (kept_refused kept (λ y. z (kept_number_lem kept ∙ y))
          ∙ sym (outcome_refused s.n s.expander s.server s.seeds s.shares query (length area)
          (causes_number ∙ sym (judged_due (share_causes s.n s.expander s.seeds s.shares query (length area)) [])) z))

  -- 'shares equal those of the walk from the root'
  pub chain : Reached s last nodes → (kept_outcome kept).number ≡ 0 → answered ≡ kept_outcome kept
  chain r h = let d = kept_ready kept h in sym (kept_follows r d.query_nodes d.parented)

-- ---- the next query

parent_child : (p : Bits) (b : Bool) → parent (p ▹ b) ≡ p
parent_child p b = take_at p (b ∷ []) (length (p ▹ b) - 1) (omega (arith, length-append p (b ∷ [])))

child_of : {q : Bits} (ps : List Bits) → q ∈ children ps → parent q ∈ ps
child_of [] m = elim m [ ]
child_of (p ∷ ps) (here e) = here (ap parent e ∙ parent_child p false)
child_of (p ∷ ps) (there (here e)) = here (ap parent e ∙ parent_child p true)
child_of (p ∷ ps) (there (there m)) = there (child_of ps m)

-- A query for both children of prefixes that stood in the last query never gives 14.
pub next_has_parents : (last : List ℕ) (k : ℕ) (ps : List Bits) → ((p : Bits) → p ∈ ps → p ∈ last_prefixes last)
    → k < 65536 → length (children ps) < 4294967296 → OfLength k ps → parent_missing last (query k (children ps)) ≡ false
next_has_parents last k ps inside short few sized = go (parent_missing last (query k (children ps))) refl
  where
    told : parent_missing last (query k (children ps)) ≡ true → ⊥
    told e =
        let w = missing_told last (query k (children ps)) (rw e tt) in
        w.2 (inside (parent w.0)
        (child_of ps (subst (λ (qs : List Bits). w.0 ∈ qs) (read_prefixes k (children ps) short few (children_longer k ps sized)) w.1)))

    go : (b : Bool) → parent_missing last (query k (children ps)) ≡ b → parent_missing last (query k (children ps)) ≡ false
    go true e = absurd (told e)
    go false e = e
