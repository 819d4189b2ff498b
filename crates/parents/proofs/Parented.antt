-- The parents of a new query's prefixes in the last query: they are found there, one place each, in order.
use Prim.Native.Nat.{ℕ, suc, ◌-◌, ◌≤◌, ◌<◌}
use native.Mathlib.Omega.{arith}
use native.Mathlib.Decide.{dec_lt}
use mathlib.Core.Path.{◌≡◌, refl, sym, ap, ◌∙◌, subst}
use mathlib.Core.Bool.{Bool, true, false}
use mathlib.Core.List.{List, []}
use borrow.Author.Tests.{ltb-true, ltb-false, lt-ltb, le-ltb, eqb-true, eqb-false, eq-eqb}
use lib.ListN.{length, get_or, take}
use lib.Seq.{ext_get_or, get_or-take, length-take-le}
use lib.Dec.{eqb}
use Rattle.places.specs.Lists.{◌∈◌, how_many}
use Rattle.bits.specs.Strings.{Bits, Before}
use Rattle.bits.specs.Packing.{bits_of}
use Rattle.query.specs.Query.{is_query, prefix_length, prefix_count, prefixes_of}
use Rattle.query.specs.Prefix.{packed_prefix}
use Rattle.query.proofs.Ready.{ready}
use Rattle.tree.specs.Cut.{times}
use Rattle.parents.specs.Parents.{is_last, last_prefixes, parent, last_bit, place_in, parent_missing}
use Rattle.parents.specs.Lookup.{last_count, last_length, agree, is_parent, up_from, looked_up, unparented}
use Rattle.parents.proofs.Agreeing.{agree_all, agree_at}
use Rattle.parents.proofs.Looking.{up_passes, up_first, looked_only}
use Rattle.parents.proofs.Members.{some_pass, pass_some, in_times, times_in, lacks}
use Rattle.parents.proofs.Placed.{cut_order, at_in, in_at, ascending_at, place_is, place_of}
use Rattle.parents.proofs.Last.{Known, known_query, known_last, last_count_lem, prefixes_length}
use Rattle.parents.proofs.Unparented.{other_bits, all_have, one_lacks}

-- ---- prefixes of k bits, and others one bit longer

module _ (m k count : ℕ) (lp qp : ℕ → List ℕ) (ps qs : List Bits) (K : Known m k lp ps) (Q : Known count (suc k) qp qs) (j : ℕ) (h : j < count) where
  parent_length : length (parent (get_or qs j [])) ≡ k
  parent_length = length-take-le (length (get_or qs j []) - 1) (get_or qs j []) (omega arith) ∙ omega (arith, Q.bits j h)

  parent_bit : (b : ℕ) → b < k → get_or (parent (get_or qs j [])) b false ≡ get_or (bits_of (qp j)) b false
  parent_bit b l =
      get_or-take (length (get_or qs j []) - 1) (get_or qs j []) b false (omega (arith, Q.bits j h)) ∙ sym (Q.same j h b (omega arith))

  -- bits that agree are the parent
  agreed_parent : (a : ℕ) → a < m → agree k (lp a) (qp j) ≡ true → get_or ps a [] ≡ parent (get_or qs j [])
  agreed_parent a l e =
      let s = K.bits a l in
      ext_get_or false (get_or ps a []) (parent (get_or qs j [])) (s ∙ sym parent_length)
      (λ i u. sym (K.same a l i (omega arith)) ∙ agree_at k (lp a) (qp j) e i (omega arith) ∙ sym (parent_bit i (omega arith)))

  parent_agrees : (a : ℕ) → a < m → get_or ps a [] ≡ parent (get_or qs j []) → agree k (lp a) (qp j) ≡ true
  parent_agrees a l e = agree_all k (lp a) (qp j) (λ i u. K.same a l i u ∙ ap (λ (p : Bits). get_or p i false) e ∙ parent_bit i u)

-- ---- a last query and a new one

module _ (n : ℕ) (last query : List ℕ) (el : is_last n last ≡ true) (eq : is_query n query ≡ true) where
  abbrev K : Known (last_count last) (last_length last) (packed_prefix last) (last_prefixes last)
  K = known_last n last el

  longer : prefix_length query ≡ suc (last_length last) → Known (prefix_count query) (suc (last_length last)) (packed_prefix query) (prefixes_of query)
  longer e = subst (λ (l : ℕ). Known (prefix_count query) l (packed_prefix query) (prefixes_of query)) e (known_query n query eq)

  -- ---- no parent is missing

  module _ (found : parent_missing last query ≡ false) where
    pub parent_there : (j : ℕ) → j < prefix_count query → parent (get_or (prefixes_of query) j []) ∈ last_prefixes last
    parent_there j h =
        let q : Bits = get_or (prefixes_of query) j [] in
        elim (dec_lt 0 (times (parent q) (last_prefixes last))) [
          | yes a ↦ times_in (parent q) (last_prefixes last) a
          | no a ↦
              let e : lacks last q ≡ true = eq-eqb (times (parent q) (last_prefixes last)) 0 (omega arith) in
              let i : q ∈ prefixes_of query = at_in (prefixes_of query) j (omega (arith, prefixes_length query)) in
              absurd (omega (
                arith,
                ltb-false 0 (how_many (lacks last) (prefixes_of query)) found,
                pass_some (lacks last) i e,
              ))
        ]

    length_longer : (j : ℕ) → j < prefix_count query → prefix_length query ≡ suc (last_length last)
    length_longer j h =
        let q : Bits = get_or (prefixes_of query) j [] in
        let w = in_at (parent_there j h) in
        let a : length (get_or (last_prefixes last) w.0 []) ≡ last_length last = K.bits w.0 (omega (arith, w.1, last_count_lem last)) in
        let b : length q ≡ prefix_length query = (known_query n query eq).bits j h in
        let c : length (parent q) ≡ length q - 1 = length-take-le (length q - 1) q (omega arith) in
        omega (arith, ap length w.2)

    -- the prefixes are one bit longer than the last query's
    pub query_longer : prefix_length query ≡ suc (last_length last)
    query_longer = length_longer 0 (omega (arith, (ready n query eq).some))

    pub one_longer : (j : ℕ) → j < prefix_count query → length (get_or (prefixes_of query) j []) ≡ suc (last_length last)
    one_longer j h = (known_query n query eq).bits j h ∙ query_longer

    -- the bit that a prefix has more than its parent
    pub last_bit_lem : (j : ℕ) → j < prefix_count query
        → get_or (bits_of (packed_prefix query j)) (last_length last) false ≡ last_bit (get_or (prefixes_of query) j [])
    last_bit_lem j h =
        let q : Bits = get_or (prefixes_of query) j [] in
        let e : last_length last ≡ length q - 1 = omega (arith, one_longer j h) in
        (known_query n query eq).same j h (last_length last) (omega (arith, query_longer)) ∙ ap (λ (i : ℕ). get_or q i false) e

    pub place_below : (j : ℕ) → j < prefix_count query → place_in (parent (get_or (prefixes_of query) j [])) (last_prefixes last) < last_count last
    place_below j h = omega (arith, (place_is _ (last_prefixes last) (parent_there j h)).0, last_count_lem last)

    module _ (j : ℕ) (h : j < prefix_count query) where
      abbrev place : ℕ
      place = place_in (parent (get_or (prefixes_of query) j [])) (last_prefixes last)

      at_place : get_or (last_prefixes last) place [] ≡ parent (get_or (prefixes_of query) j [])
      at_place = (place_is (parent (get_or (prefixes_of query) j [])) (last_prefixes last) (parent_there j h)).1

      place_passes : is_parent last (packed_prefix query j) (last_length last) place ≡ true
      place_passes =
          parent_agrees (last_count last) (last_length last) (prefix_count query) (packed_prefix last) (packed_prefix query) (last_prefixes last) (prefixes_of query)
          K (longer query_longer) j h place (place_below j h) at_place

      place_only : (i : ℕ) → i < last_count last → is_parent last (packed_prefix query j) (last_length last) i ≡ true → i ≡ place
      place_only i l e =
          let s =
          agreed_parent (last_count last) (last_length last) (prefix_count query) (packed_prefix last) (packed_prefix query) (last_prefixes last) (prefixes_of query)
          K (longer query_longer) j h i l e in
          sym (place_of (last_prefixes last) K.ascending i (omega (arith, last_count_lem last))) ∙ ap (λ (p : Bits). place_in p (last_prefixes last)) s

      -- the search finds the place of the parent from any hint, upwards and downwards
      pub looked_up_lem : (up : Bool) (hint : ℕ)
          → looked_up up (is_parent last (packed_prefix query j) (last_length last)) (last_count last) hint ≡ place_in (parent (get_or (prefixes_of query) j [])) (last_prefixes last)
      looked_up_lem up hint =
          looked_only (is_parent last (packed_prefix query j) (last_length last)) (last_count last) hint up place (place_below j h) place_passes place_only

    rise : (i j : ℕ) → i < j → j < prefix_count query
        → place_in (parent (get_or (prefixes_of query) i [])) (last_prefixes last) ≤ place_in (parent (get_or (prefixes_of query) j [])) (last_prefixes last)
    rise i j l h =
        let g : i < prefix_count query = omega arith in
        let p : Bits = get_or (prefixes_of query) i [] in
        let q : Bits = get_or (prefixes_of query) j [] in
        let u : ℕ = place_in (parent p) (last_prefixes last) in
        let v : ℕ = place_in (parent q) (last_prefixes last) in
        elim (dec_lt v u) [
          | yes a ↦
              let b : Before (get_or (last_prefixes last) v []) (get_or (last_prefixes last) u []) =
              ascending_at (last_prefixes last) K.ascending v u a (omega (arith, place_below i g, last_count_lem last)) in
              let c : Before (parent q) (parent p) =
              subst (λ (s : Bits). Before s (parent p)) (at_place j h) (subst (λ (s : Bits). Before (get_or (last_prefixes last) v []) s) (at_place i g) b) in
              let e : length p - 1 ≡ length q - 1 = omega (arith, one_longer i g, one_longer j h) in
              let d : Before (take (length q - 1) q) (take (length q - 1) p) = subst (λ (k : ℕ). Before (parent q) (take k p)) e c in
              absurd (cut_order (length q - 1) p q
              (ascending_at (prefixes_of query) (known_query n query eq).ascending i j l (omega (arith, prefixes_length query))) d)
          | no a ↦ omega arith
        ]

    -- the places of the parents do not fall
    pub places_rise : (i j : ℕ) → i ≤ j → j < prefix_count query
        → place_in (parent (get_or (prefixes_of query) i [])) (last_prefixes last) ≤ place_in (parent (get_or (prefixes_of query) j [])) (last_prefixes last)
    places_rise i j l h =
        elim (dec_lt i j) [
          | yes a ↦ rise i j a h
          | no a ↦
              let e : i ≡ j = omega arith in
              rw e (omega arith)
        ]

  -- ---- the test of a missing parent

  missing_yes : prefix_length query ≡ suc (last_length last) → parent_missing last query ≡ true → unparented last query ≡ true
  missing_yes e t =
      let w = some_pass (lacks last) (prefixes_of query) (ltb-true 0 _ t) in
      let i = in_at w.1 in
      let h : i.0 < prefix_count query = omega (arith, i.1, prefixes_length query) in
      let f : ℕ → Bool = is_parent last (packed_prefix query i.0) (last_length last) in
      let z : times (parent w.0) (last_prefixes last) ≡ 0 = eqb-true _ _ w.2 in
      one_lacks last query (prefix_length query) (last_length last) refl refl (omega arith) i.0 h
      (le-ltb (up_from f 0 (last_count last)) (last_count last)
      (elim (dec_lt (up_from f 0 (last_count last)) (last_count last)) [
        | yes a ↦
            let s : get_or (last_prefixes last) (up_from f 0 (last_count last)) [] ≡ parent (get_or (prefixes_of query) i.0 []) =
            agreed_parent (last_count last) (last_length last) (prefix_count query) (packed_prefix last) (packed_prefix query) (last_prefixes last) (prefixes_of query)
            K (longer e) i.0 h (up_from f 0 (last_count last)) a (up_passes f (last_count last) 0 (omega arith)) in
            let r : parent w.0 ∈ last_prefixes last =
            subst (λ (p : Bits). p ∈ last_prefixes last) (s ∙ ap parent i.2) (at_in (last_prefixes last) (up_from f 0 (last_count last)) (omega (arith, last_count_lem last))) in
            absurd (omega (arith, in_times (parent w.0) (last_prefixes last) r))
        | no a ↦ omega arith
      ]))

  missing_no : parent_missing last query ≡ false → unparented last query ≡ false
  missing_no t =
      all_have last query (prefix_length query) (last_length last) refl refl (omega (arith, query_longer t))
      (λ j h.
      let f : ℕ → Bool = is_parent last (packed_prefix query j) (last_length last) in
      lt-ltb (up_from f 0 (last_count last)) (last_count last)
      (omega (arith, place_below t j h, up_first f (last_count last) 0 (place t j h) (omega arith) (omega (arith, place_below t j h)) (place_passes t j h))))

  -- the bytes say exactly what the prefixes say
  pub missing_exact : unparented last query ≡ parent_missing last query
  missing_exact = go (parent_missing last query) refl
    where
      go : (b : Bool) → parent_missing last query ≡ b → unparented last query ≡ parent_missing last query
      go false t = missing_no t ∙ sym t
      go true t =
          fit (eqb (prefix_length query) (suc (last_length last))) refl ∙ sym t
        where
          fit : (b : Bool) → eqb (prefix_length query) (suc (last_length last)) ≡ b → unparented last query ≡ true
          fit true e = missing_yes (eqb-true _ _ e) t
          fit false e = other_bits last query (prefix_length query) (last_length last) refl refl (λ z. eqb-false (prefix_length query) (suc (last_length last)) e (omega arith))
