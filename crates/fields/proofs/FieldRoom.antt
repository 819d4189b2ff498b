-- A field and the character behind it, put at a place: where they have room, and where not.
use Prim.Native.Nat.{ℕ, ◌+◌, ◌<◌}
use native.Mathlib.Omega.{arith}
use mathlib.Core.Path.{◌≡◌, sym, ◌∙◌}
use mathlib.Core.Bool.{true, false}
use mathlib.Core.List.{List, [], ◌∷◌, ◌++◌}
use borrow.Author.Tests.{leb-true, leb-false, le-leb, lt-leb}
use lib.ListN.{length, length-append}
use lib.Dec.{leb}
use Rattle.places.specs.Places.{put_at}
use Rattle.places.proofs.Places.{put_at_more, put_at_outside}
use Rattle.fields.specs.Field.{place_behind}
use Rattle.fields.proofs.FieldChain.{Wrote}

module _ (d : List ℕ) (at : ℕ) (v : List ℕ) (c size : ℕ) (same : size ≡ length v) where
  -- the field's length
  field_length : length (v ++ (c ∷ [])) ≡ size + 1
  field_length = omega (arith, same, length-append v (c ∷ []))

  -- Without room nothing is written.
  pub field_none : leb (at + (size + 1)) (length d) ≡ false → (at ≡ place_behind d at (v ++ (c ∷ []))) × (d ≡ put_at d at (v ++ (c ∷ [])))
  field_none e =
      let past : length d < at + length (v ++ (c ∷ [])) = omega (arith, field_length, leb-false (at + (size + 1)) (length d) e) in
      (rw (lt-leb (at + length (v ++ (c ∷ []))) (length d) past), sym (put_at_outside d at (v ++ (c ∷ [])) past))

  module _ (e : leb (at + (size + 1)) (length d) ≡ true) where
    -- With room the character has its place behind the field.
    pub field_room : at + size < length d
    field_room = omega (arith, leb-true (at + (size + 1)) (length d) e)

    -- A field and then the character are the field with it.
    pub field_put : (o : List ℕ) (p : ℕ) → Wrote d at v o p → (o' : List ℕ) (p' : ℕ) → Wrote o p (c ∷ []) o' p'
        → (p' ≡ place_behind d at (v ++ (c ∷ []))) × (o' ≡ put_at d at (v ++ (c ∷ [])))
    field_put o p w o' p' w' =
        let fits : leb (at + length (v ++ (c ∷ []))) (length d) ≡ true = le-leb (at + length (v ++ (c ∷ []))) (length d) (omega (arith, field_length, field_room)) in (
          rw fits (omega (arith, field_length, same, w.0, w'.0)),
          w'.1 ∙ rw (w.0, w.1) (put_at_more d at v (c ∷ []) (omega (arith, same, field_room))),
        )
