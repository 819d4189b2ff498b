-- A line of packed bits put at a place: where it has room, and where not.
use Prim.Native.Nat.{ℕ, ◌+◌, ◌≤◌}
use native.Mathlib.Omega.{arith}
use mathlib.Core.Path.{◌≡◌, refl, sym, ap, ◌∙◌}
use mathlib.Core.Bool.{Bool, true, false, cond, ◌&&◌}
use mathlib.Core.List.{List, []}
use borrow.Author.Tests.{eqb-true, leb-true, eq-eqb, le-leb}
use lib.ListN.{length}
use lib.Dec.{leb, eqb}
use Rattle.places.specs.Places.{put_at}
use Rattle.places.proofs.Lists.{and_left, and_right}
use Rattle.places.proofs.Places.{put_at_nil}
use Rattle.bits.specs.Strings.{Bits}
use Rattle.bits.specs.Packing.{packed_length, unpack}
use Rattle.bits.proofs.Packed.{unpack_length}
use Rattle.exam_text.specs.Characters.{binary}
use Rattle.exam_text.proofs.LineFields.{binary_length}
use Rattle.fields.specs.Field.{packed_line, place_behind}
use Rattle.fields.proofs.FieldChain.{Wrote}

-- the characters of packed bits
module _ (k : ℕ) (packed : List ℕ) where
  pub bits_size : length packed ≡ packed_length k → length (binary (unpack k packed)) ≡ k
  bits_size sized = binary_length (unpack k packed) ∙ unpack_length k packed sized

-- ---- whether it is written

-- behind no text is the place itself
behind_none : (out : List ℕ) (at : ℕ) → at ≡ place_behind out at []
behind_none out at = go (leb (at + 0) (length out))
  where
    go : (b : Bool) → at ≡ cond b (at + 0) at
    go true = omega arith
    go false = refl

-- a text that has no room changes nothing
outside : (out : List ℕ) (at : ℕ) (vs : List ℕ) → leb (at + length vs) (length out) ≡ false → Wrote out at [] out at × (out ≡ put_at out at vs)
unfolding put_at
outside out at vs e = ((omega arith, sym (put_at_nil out at)), rw e)

-- The text of bits that are packed so.
pub packed_text : (line : Bits → List ℕ) (k : ℕ) (packed : List ℕ) → length packed ≡ packed_length k → packed_line line k packed ≡ line (unpack k packed)
packed_text line k packed sized = rw (eq-eqb (length packed) (packed_length k) sized)

module _ (line : Bits → List ℕ) (out : List ℕ) (at k : ℕ) (packed : List ℕ) where
  -- The line, as the bits are packed so, and `rest` other characters.
  module _ (rest : ℕ) (size : length packed ≡ packed_length k → length (line (unpack k packed)) ≡ k + rest) where
    -- Without room nothing is written.
    pub not_put : (eqb (length packed) (packed_length k) && leb (at + (k + rest)) (length out)) ≡ false
        → (at ≡ place_behind out at (packed_line line k packed)) × (out ≡ put_at out at (packed_line line k packed))
    not_put e = go (eqb (length packed) (packed_length k)) refl e
      where
        go : (b : Bool) → eqb (length packed) (packed_length k) ≡ b → (b && leb (at + (k + rest)) (length out)) ≡ false
            → (at ≡ place_behind out at (cond b (line (unpack k packed)) [])) × (out ≡ put_at out at (cond b (line (unpack k packed)) []))
        go false p q = (behind_none out at, sym (put_at_nil out at))
        go true p q =
            let none : leb (at + length (line (unpack k packed))) (length out) ≡ false = rw (size (eqb-true _ _ p)) q in
            (rw none, (outside out at (line (unpack k packed)) none).1)

    -- With room it fits.
    pub has_line_room : (eqb (length packed) (packed_length k) && leb (at + (k + rest)) (length out)) ≡ true
        → (length packed ≡ packed_length k) × (at + length (line (unpack k packed)) ≤ length out)
    has_line_room e =
        let sized = eqb-true (length packed) (packed_length k) (and_left (eqb (length packed) (packed_length k)) (leb (at + (k + rest)) (length out)) e) in
        let room = leb-true (at + (k + rest)) (length out) (and_right (eqb (length packed) (packed_length k)) (leb (at + (k + rest)) (length out)) e) in
        (sized, omega (arith, size sized, room))

  -- A line that fits is written there.
  module _ (sized : length packed ≡ packed_length k) (room : at + length (line (unpack k packed)) ≤ length out) where
    same_line : packed_line line k packed ≡ line (unpack k packed)
    same_line = packed_text line k packed sized

    place : place_behind out at (packed_line line k packed) ≡ at + length (line (unpack k packed))
    place = ap (place_behind out at) same_line ∙ rw (le-leb (at + length (line (unpack k packed))) (length out) room)

    pub put_there : (here : ℕ) (new : List ℕ) → (here ≡ place_behind out at (packed_line line k packed)) × (new ≡ put_at out at (packed_line line k packed))
        → Wrote out at (line (unpack k packed)) new here
    put_there here new e = (e.0 ∙ place, e.1 ∙ ap (put_at out at) same_line)

    pub put_here : (here : ℕ) (new : List ℕ) → Wrote out at (line (unpack k packed)) new here
        → (here ≡ place_behind out at (packed_line line k packed)) × (new ≡ put_at out at (packed_line line k packed))
    put_here here new e = (e.0 ∙ sym place, e.1 ∙ ap (put_at out at) (sym same_line))
