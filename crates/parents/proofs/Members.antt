-- A prefix stands in a list exactly when it stands there once or more, and the test of a missing parent is exact.
use Prim.Native.Nat.{ℕ, ◌+◌, ◌<◌}
use native.Mathlib.Omega.{arith}
use mathlib.Core.Path.{◌≡◌, refl, sym, ap, ◌∙◌, subst}
use mathlib.Core.Bool.{Bool, true, false}
use mathlib.Core.List.{List, [], ◌∷◌}
use mathlib.Core.List.Memᴰ.{head as here}
use mathlib.Core.List.Memᴰ.{tail as there}
use borrow.Author.Tests.{ltb-true, ltb-false, lt-ltb, eqb-true, eq-eqb}
use lib.Dec.{T, eqb, ltb}
use Rattle.places.specs.Lists.{digit, ◌∈◌, how_many}
use Rattle.bits.specs.Strings.{Bits}
use Rattle.query.specs.Query.{prefixes_of}
use Rattle.tree.specs.Cut.{is_same, times}
use Rattle.tree.proofs.Rearranging.{is_same_refl, is_same_eq}
use Rattle.parents.specs.Parents.{last_prefixes, parent, ParentMissing, parent_missing}

pub some_pass : (f : Bits → Bool) (xs : List Bits) → 0 < how_many f xs → (x : Bits) × (x ∈ xs) × (f x ≡ true)
some_pass f [] h = absurd (omega arith)
some_pass f (x ∷ xs) h = go (f x) refl (some_pass f xs) h
  where
    go : (b : Bool) → f x ≡ b → (0 < how_many f xs → (y : Bits) × (y ∈ xs) × (f y ≡ true)) → 0 < digit b + how_many f xs
        → (y : Bits) × (y ∈ x ∷ xs) × (f y ≡ true)
    go true e ih l = (x, here refl, e)
    go false e ih l = let w = ih (omega arith) in (w.0, there w.1, w.2)

pub pass_some : (f : Bits → Bool) {x : Bits} {xs : List Bits} → x ∈ xs → f x ≡ true → 0 < how_many f xs
pass_some f (here e) k = rw (ap f (sym e) ∙ k) (omega arith)
pass_some f (there m) k = omega (arith, pass_some f m k)

pub in_times : (p : Bits) (ps : List Bits) → p ∈ ps → 0 < times p ps
in_times p ps m = pass_some (is_same p) m (is_same_refl p)

pub times_in : (p : Bits) (ps : List Bits) → 0 < times p ps → p ∈ ps
times_in p ps h =
    let w = some_pass (is_same p) ps h in
    subst (λ (q : Bits). q ∈ ps) (sym (is_same_eq p w.0 w.2)) w.1

true-T : (b : Bool) → b ≡ true → T b
true-T b e = rw e tt

T_true : (b : Bool) → T b → b ≡ true
T_true true t = refl
T_true false t = absurd t

-- whether the parent of a prefix is not in the last query
abbrev pub lacks : List ℕ → Bits → Bool
lacks last q = eqb (times (parent q) (last_prefixes last)) 0

pub lacks_not : (last : List ℕ) (q : Bits) → (parent q ∈ last_prefixes last → ⊥) → lacks last q ≡ true
lacks_not last q h = go (ltb 0 (times (parent q) (last_prefixes last))) refl
  where
    go : (b : Bool) → ltb 0 (times (parent q) (last_prefixes last)) ≡ b → lacks last q ≡ true
    go true e = absurd (h (times_in (parent q) (last_prefixes last) (ltb-true 0 _ e)))
    go false e = eq-eqb (times (parent q) (last_prefixes last)) 0 (omega (arith, ltb-false 0 (times (parent q) (last_prefixes last)) e))

module _ (last query : List ℕ) where
  pub missing_told : T (parent_missing last query) → ParentMissing last query
  missing_told t =
      let w = some_pass (lacks last) (prefixes_of query) (ltb-true 0 _ (T_true _ t)) in
      (w.0, w.1, λ m. omega (arith, eqb-true (times (parent w.0) (last_prefixes last)) 0 w.2, in_times (parent w.0) (last_prefixes last) m))

  pub missing_test : ParentMissing last query → T (parent_missing last query)
  missing_test h = true-T _ (lt-ltb 0 _ (pass_some (lacks last) h.1 (lacks_not last h.0 h.2)))
