-- A list with others in the place of its beginning, place by place.
use Prim.Native.Nat.{ℕ, zero, suc, ◌+◌, ◌-◌, ◌≤◌, ◌<◌}
use native.Mathlib.Omega.{arith}
use native.Mathlib.Decide.{dec_lt}
use mathlib.Core.Path.{◌≡◌, refl, sym, ap, ◌∙◌}
use mathlib.Core.List.{List, [], ◌∷◌, map}
use lib.ListN.{length, get_or, take, drop, length-map, get_or-append, get_or-map}
use lib.Seq.{take_at, take_all, drop_at, get_or-append-add, get_or-drop, ext_get_or}
use Rattle.places.specs.Places.{overlay}
use Rattle.places.proofs.Places.{overlay_length}

module _ {A : Type 0} where
  -- within a list what stands for the others does not matter
  pub get_d_any : (l : List A) (i : ℕ) (d e : A) → i < length l → get_or l i d ≡ get_or l i e
  get_d_any [] i d e h = absurd (omega arith)
  get_d_any (x ∷ l) zero d e h = refl
  get_d_any (x ∷ l) (suc i) d e h = get_d_any l i d e (omega arith)

  -- the new elements stand first
  pub overlay_first : (vs l : List A) (n : ℕ) → length vs ≡ n → take n (overlay vs l) ≡ vs
  unfolding overlay
  overlay_first vs l n h = take_at vs (drop (length vs) l) n h

  -- a list whose first n elements are at least n has as many
  pub as_long : (n : ℕ) (l m : List A) → take n l ≡ m → n ≤ length m → n ≤ length l
  as_long n l m e h =
      elim (dec_lt (length l) n) [
        | yes a ↦ absurd (omega (arith, ap length (sym (take_all n l (omega arith)) ∙ e)))
        | no a ↦ omega arith
      ]

  -- what stands past the new elements is as it was
  pub overlay_spare : (vs l : List A) (n : ℕ) → length vs ≡ n → drop n (overlay vs l) ≡ drop n l
  unfolding overlay
  overlay_spare vs l n h = drop_at vs (drop (length vs) l) n h ∙ ap (λ (m : ℕ). drop m l) h

  module _ (vs l : List A) (d : A) where
    pub overlay_below : (i : ℕ) → i < length vs → get_or (overlay vs l) i d ≡ get_or vs i d
    unfolding overlay
    overlay_below i h = get_or-append vs (drop (length vs) l) d i h

    pub overlay_above : (i : ℕ) → length vs ≤ i → get_or (overlay vs l) i d ≡ get_or l i d
    unfolding overlay
    overlay_above i h =
        let e : i ≡ length vs + (i - length vs) = omega arith in
        ap (λ (k : ℕ). get_or (overlay vs l) k d) e ∙ get_or-append-add vs (drop (length vs) l) (i - length vs) d
        ∙ get_or-drop (length vs) l (i - length vs) d ∙ ap (λ (k : ℕ). get_or l k d) (sym e)

    -- a list that has the others below and its own above
    pub overlaid : (m : List A) → length m ≡ length l → length vs ≤ length l → ((i : ℕ) → i < length vs → get_or m i d ≡ get_or vs i d)
        → ((i : ℕ) → length vs ≤ i → get_or m i d ≡ get_or l i d) → m ≡ overlay vs l
    overlaid m size fits below above =
        ext_get_or d m (overlay vs l) (size ∙ sym (overlay_length vs l fits))
        (λ i h. elim (dec_lt i (length vs)) [
          | yes a ↦ below i a ∙ sym (overlay_below i a)
          | no a ↦ above i (omega arith) ∙ sym (overlay_above i (omega arith))
        ])

-- what stands at a place of a list of images
pub mapped_at : {A B : Type 0} (f : A → B) (l : List A) (i : ℕ) (d : A) (e : B) → i < length l → get_or (map f l) i e ≡ f (get_or l i d)
mapped_at f l i d e h =
    let k : i < length (map f l) = rw (length-map l f) h in
    get_d_any (map f l) i e (f d) k ∙ get_or-map f l i d
