-- The place of a prefix in a list, and in a list that strictly ascends.
use Prim.Native.Nat.{ℕ, zero, suc, ◌<◌}
use native.Mathlib.Omega.{arith}
use mathlib.Core.Path.{◌≡◌, refl, sym, ap, ◌∙◌, subst}
use mathlib.Core.Bool.{Bool, true, false, cond, true≢false}
use mathlib.Core.List.{List, [], ◌∷◌}
use mathlib.Core.List.Memᴰ.{head as here}
use mathlib.Core.List.Memᴰ.{tail as there}
use lib.ListN.{length, get_or, take}
use Rattle.places.specs.Lists.{◌∈◌, All}
use Rattle.places.proofs.Lists.{all_mem}
use Rattle.bits.specs.Strings.{Bits, Before, Ascending}
use Rattle.tree.specs.Cut.{is_same}
use Rattle.tree.proofs.Rearranging.{is_same_refl, is_same_eq}
use Rattle.parents.specs.Parents.{place_in}

-- ---- order

pub not_before_itself : (p : Bits) → Before p p → ⊥
not_before_itself [] h = h
not_before_itself (false ∷ p) h = not_before_itself p h
not_before_itself (true ∷ p) h = not_before_itself p h

-- cutting two strings to k bits does not exchange them
pub cut_order : (k : ℕ) (p q : Bits) → Before p q → Before (take k q) (take k p) → ⊥
cut_order zero p q h b = b
cut_order (suc k) [] q h b = h
cut_order (suc k) (x ∷ p) [] h b = h
cut_order (suc k) (false ∷ p) (false ∷ q) h b = cut_order k p q h b
cut_order (suc k) (false ∷ p) (true ∷ q) h b = b
cut_order (suc k) (true ∷ p) (false ∷ q) h b = h
cut_order (suc k) (true ∷ p) (true ∷ q) h b = cut_order k p q h b

-- ---- the element at a place

pub at_in : (ps : List Bits) (i : ℕ) → i < length ps → get_or ps i [] ∈ ps
at_in [] i h = absurd (omega arith)
at_in (p ∷ ps) zero h = here refl
at_in (p ∷ ps) (suc i) h = there (at_in ps i (omega arith))

pub in_at : {p : Bits} {ps : List Bits} → p ∈ ps → (i : ℕ) × (i < length ps) × (get_or ps i [] ≡ p)
in_at (here e) = (0, omega arith, sym e)
in_at (there m) = let w = in_at m in (suc w.0, omega (arith, w.1), w.2)

pub all_at : (P : Bits → Type 0) (ps : List Bits) → All P ps → (i : ℕ) → i < length ps → P (get_or ps i [])
all_at P ps a i h = all_mem P a (at_in ps i h)

pub ascending_at : (ps : List Bits) → Ascending ps → (i j : ℕ) → i < j → j < length ps → Before (get_or ps i []) (get_or ps j [])
ascending_at [] a i j l h = absurd (omega arith)
ascending_at (p ∷ ps) a i zero l h = absurd (omega arith)
ascending_at (p ∷ ps) a zero (suc j) l h = all_at (Before p) ps a.0 j (omega arith)
ascending_at (p ∷ ps) a (suc i) (suc j) l h = ascending_at ps a.1 i j (omega arith) (omega arith)

-- ---- the place of a prefix

pub place_is : (p : Bits) (ps : List Bits) → p ∈ ps → (place_in p ps < length ps) × (get_or ps (place_in p ps) [] ≡ p)
place_is p [] m = elim m [ ]
place_is p (q ∷ qs) m = go (is_same p q) refl (place_is p qs) m
  where
    go : (b : Bool) → is_same p q ≡ b → (p ∈ qs → (place_in p qs < length qs) × (get_or qs (place_in p qs) [] ≡ p)) → p ∈ q ∷ qs
        → (cond b 0 (suc (place_in p qs)) < length (q ∷ qs)) × (get_or (q ∷ qs) (cond b 0 (suc (place_in p qs))) [] ≡ p)
    go true e ih i = (omega arith, sym (is_same_eq p q e))
    go false e ih (here s) = absurd (true≢false (sym (is_same_refl p) ∙ ap (is_same p) s ∙ e))
    go false e ih (there i) = let w = ih i in (omega (arith, w.0), w.1)

pub place_of : (ps : List Bits) → Ascending ps → (i : ℕ) → i < length ps → place_in (get_or ps i []) ps ≡ i
place_of [] a i h = absurd (omega arith)
place_of (p ∷ ps) a zero h = rw (is_same_refl p)
place_of (p ∷ ps) a (suc i) h = go (is_same (get_or ps i []) p) refl (place_of ps a.1 i (omega arith))
  where
    go : (b : Bool) → is_same (get_or ps i []) p ≡ b → place_in (get_or ps i []) ps ≡ i → cond b 0 (suc (place_in (get_or ps i []) ps)) ≡ suc i
    go true e ih =
        absurd (not_before_itself p (subst (Before p) (is_same_eq (get_or ps i []) p e) (all_at (Before p) ps a.0 i (omega arith))))
    go false e ih = ap suc ih
