-- Nodes report by report: how many, and which stands where.
use Prim.Native.Nat.{ℕ, zero, suc, ◌+◌, ◌*◌, ◌<◌}
use native.Mathlib.Omega.{arith}
use native.Mathlib.Nat.{zero-mul, suc-mul, mul-le-mul_right}
use native.Mathlib.Decide.{dec_lt}
use mathlib.Core.Path.{◌≡◌, refl, sym, ap, ap₂, ◌∙◌}
use mathlib.Core.List.{List, [], ◌∷◌, ◌++◌, map}
use mathlib.Core.List.Memᴰ.{head as here}
use mathlib.Core.List.Memᴰ.{tail as there}
use lib.ListN.{length, get_or, length-append, length-map, get_or-append}
use lib.Seq.{get_or-append-add}
use Rattle.places.specs.Lists.{◌∈◌}
use Rattle.bits.specs.Strings.{Bits}
use Rattle.point.specs.Node.{Node}
use Rattle.node_lists.specs.NodeList.{report_by_report, no_node}

-- the element at a place of a mapped list
pub map_at : (f : Bits → Node) (qs : List Bits) (j : ℕ) → j < length qs → get_or (map f qs) j no_node ≡ f (get_or qs j [])
map_at f [] j h = absurd (omega arith)
map_at f (q ∷ qs) zero h = refl
map_at f (q ∷ qs) (suc j) h = map_at f qs j (omega arith)

module _ (f : ℕ → Bits → Node) (qs : List Bits) where
  pub by_report_length : (m : ℕ) → length (report_by_report m f qs) ≡ m * length qs
  unfolding report_by_report
  by_report_length zero = sym (zero-mul (length qs))
  by_report_length (suc m) =
      length-append (report_by_report m f qs) (map (f m) qs)
      ∙ omega (arith, by_report_length m, length-map qs (f m), suc-mul m (length qs))

  -- the place of report i's node at prefix j lies within those of m reports
  pub place_inside : (m i j : ℕ) → i < m → j < length qs → i * length qs + j < m * length qs
  place_inside m i j h l = omega (arith, mul-le-mul_right (length qs) h, suc-mul i (length qs))

  pub by_report_at : (m i j : ℕ) → i < m → j < length qs → get_or (report_by_report m f qs) (i * length qs + j) no_node ≡ f i (get_or qs j [])
  unfolding report_by_report
  by_report_at zero i j h l = absurd (omega arith)
  by_report_at (suc m) i j h l =
      elim (dec_lt i m) [
        | yes a ↦
            get_or-append (report_by_report m f qs) (map (f m) qs) no_node (i * length qs + j) (omega (arith, by_report_length m, place_inside m i j a l))
            ∙ by_report_at m i j a l
        | no a ↦
            let e : i ≡ m = omega arith in
            let at : i * length qs + j ≡ length (report_by_report m f qs) + j = rw e (omega (arith, by_report_length m)) in
            ap (λ (t : ℕ). get_or (report_by_report (suc m) f qs) t no_node) at
            ∙ get_or-append-add (report_by_report m f qs) (map (f m) qs) j no_node
            ∙ map_at (f m) qs j l
            ∙ ap (λ (t : ℕ). f t (get_or qs j [])) (sym e)
      ]

-- functions that agree on a list have the same images of it
pub map_same : {A : Type 0} (f g : Bits → A) (qs : List Bits) → ((q : Bits) → q ∈ qs → f q ≡ g q) → map f qs ≡ map g qs
map_same f g [] h = refl
map_same f g (q ∷ qs) h = ap₂ ◌∷◌ (h q (here refl)) (map_same f g qs (λ x m. h x (there m)))

pub by_report_same : (f g : ℕ → Bits → Node) (qs : List Bits) (m : ℕ) → ((i : ℕ) → i < m → (q : Bits) → q ∈ qs → f i q ≡ g i q)
    → report_by_report m f qs ≡ report_by_report m g qs
unfolding report_by_report
by_report_same f g qs zero h = refl
by_report_same f g qs (suc m) h =
    ap₂ ◌++◌ (by_report_same f g qs m (λ i l. h i (omega arith))) (map_same (f m) (g m) qs (h m (omega arith)))
