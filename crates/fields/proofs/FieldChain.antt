-- Fields written one after the other.
use Prim.Native.Nat.{ℕ, ◌+◌, ◌≤◌}
use native.Mathlib.Omega.{arith}
use mathlib.Core.Path.{◌≡◌, ap, ◌∙◌}
use mathlib.Core.List.{List, [], ◌∷◌, ◌++◌, append-nil, append_assoc}
use borrow.Author.Tests.{le-leb}
use lib.ListN.{length}
use Rattle.places.specs.Places.{put_at}
use Rattle.places.proofs.Places.{Grown, grown_start, grown_room, grown_more, grown_end}
use Rattle.fields.specs.Field.{place_behind}

-- vs is written into d at a place: out is what is there then, and here the place behind it
abbrev pub Wrote : List ℕ → ℕ → List ℕ → List ℕ → ℕ → Type 0
Wrote d at vs out here = (here ≡ at + length vs) × (out ≡ put_at d at vs)

-- where nothing is left, the whole text is written
pub all_written : (d : List ℕ) (at : ℕ) (out : List ℕ) (here : ℕ) (whole : List ℕ) → Grown d at out here [] whole → Wrote d at whole out here
all_written d at out here whole g =
    (omega (arith, g.2, ap length g.3, ap length (append-nil g.0)), grown_end d at out here whole g)

-- a field v was written at a place where it has room
abbrev pub FieldAt : List ℕ → ℕ → List ℕ → List ℕ → ℕ → Type 0
FieldAt o p v o' p' = (p' ≡ place_behind o p v) × (o' ≡ put_at o p v)

module _ (d : List ℕ) (at : ℕ) (whole : List ℕ) (room : at + length whole ≤ length d) (o : List ℕ) (p : ℕ) where
  -- A field with others behind it.
  pub grown_field : (v rest : List ℕ) → Grown d at o p (v ++ rest) whole → (o' : List ℕ) (p' : ℕ) → FieldAt o p v o' p' → Grown d at o' p' rest whole
  grown_field v rest g o' p' f =
      let fits = grown_room d at o p v rest whole g room in
      grown_more d at o p v rest whole g room o' p' f.1 (f.0 ∙ rw (le-leb (p + length v) (length o) fits))

  -- What is left has room.
  pub rest_room : (v : List ℕ) → Grown d at o p v whole → p + length v ≤ length o
  rest_room v g = grown_room d at o p v [] whole (rw (append-nil v) g) room

  -- What is left is written at once.
  pub rest_written : (v : List ℕ) → Grown d at o p v whole → (o' : List ℕ) (p' : ℕ) → Wrote o p v o' p' → Wrote d at whole o' p'
  rest_written v g o' p' w = all_written d at o' p' whole (grown_more d at o p v [] whole (rw (append-nil v) g) room o' p' w.1 w.0)

  -- The last field.
  pub last_field : (v : List ℕ) → Grown d at o p v whole → (o' : List ℕ) (p' : ℕ) → FieldAt o p v o' p' → Wrote d at whole o' p'
  last_field v g o' p' f = rest_written v g o' p' (f.0 ∙ rw (le-leb (p + length v) (length o) (rest_room v g)), f.1)

-- A line of two fields x and y, with the characters c and e behind them.
pub two_fields : (d : List ℕ) (at : ℕ) (x : List ℕ) (c : ℕ) (y : List ℕ) (e : ℕ) → at + length (x ++ (c ∷ y ++ (e ∷ []))) ≤ length d → (o : List ℕ) (p : ℕ)
    → FieldAt d at (x ++ (c ∷ [])) o p → (o' : List ℕ) (p' : ℕ) → FieldAt o p (y ++ (e ∷ [])) o' p' → Wrote d at (x ++ (c ∷ y ++ (e ∷ []))) o' p'
two_fields d at x c y e room o p f o' p' g =
    let whole = x ++ (c ∷ y ++ (e ∷ [])) in
    let start : Grown d at d at ((x ++ (c ∷ [])) ++ (y ++ (e ∷ []))) whole = rw (append_assoc x (c ∷ []) (y ++ (e ∷ []))) (grown_start d at whole) in
    last_field d at whole room o p (y ++ (e ∷ [])) (grown_field d at whole room d at (x ++ (c ∷ [])) (y ++ (e ∷ [])) start o p f) o' p' g
