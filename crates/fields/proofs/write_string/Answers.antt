-- `fields::write_string` meets its contract.
use Prim.Native.Nat.{ℕ, ◌+◌, ◌≤◌}
use native.Mathlib.Omega.{arith}
use mathlib.Core.Path.{◌≡◌, sym, ◌∙◌}
use mathlib.Core.List.{List, [], ◌∷◌, ◌++◌}
use borrow.Author.Tests.{not-true, not-false}
use lib.ListN.{length, length-append}
use Rattle.bits.specs.Strings.{Bits}
use Rattle.bits.specs.Packing.{packed_length, unpack}
use Rattle.places.proofs.Places.{put_at_more}
use Rattle.exam_text.specs.Characters.{binary}
use Rattle.fields.proofs.FieldChain.{Wrote}
use Rattle.fields.proofs.LineRoom.{bits_size, not_put, has_line_room, put_here}
use Rattle.fields.proofs.write_string.Goals as goal
use Rattle.fields.proofs.write_string.Goals.{Else-not-has_room}

-- the bits and the character behind them
abbrev field : ℕ → Bits → List ℕ
field then q = binary q ++ (then ∷ [])

size : (then k : ℕ) (packed : List ℕ) → length packed ≡ packed_length k → length (field then (unpack k packed)) ≡ k + 1
size then k packed sized = omega (arith, bits_size k packed sized, length-append (binary (unpack k packed)) (then ∷ []))

-- there is room
room : (e : Else-not-has_room) → let a = e.args in
    (length a.packed.now ≡ packed_length a.k) × (a.at + length (field a.then (unpack a.k a.packed.now)) ≤ length a.out.now)
room e =
    let a = e.args in
    has_line_room (field a.then) a.out.now a.at a.k a.packed.now 1 (size a.then a.k a.packed.now) (sym e.has_room.ensures ∙ not-false _ e.if-not-has_room.false-raw)

pub returns-then-not-has_room : goal.returns-then-not-has_room
returns-then-not-has_room c =
    let a = c.args in
    let both = not_put (field a.then) a.out.now a.at a.k a.packed.now 1 (size a.then a.k a.packed.now) (sym c.has_room.ensures ∙ not-true _ c.if-not-has_room.true-raw) in
    record { place = both.0; space = both.1 }

pub write_bits-here-requires : goal.write_bits-here-requires
write_bits-here-requires c =
    let a = c.args in
    ((room (goal.at.write_bits-here-requires c).Else-not-has_room).0, omega (arith, (room (goal.at.write_bits-here-requires c).Else-not-has_room).1, length-append (binary (unpack a.k a.packed.now)) (a.then ∷ [])))

pub put-requires : goal.put-requires
put-requires c =
    let a = c.args in
    omega (arith, c.write_bits-here.ensures.value, (room (goal.at.put-requires c).Else-not-has_room).1, length-append (binary (unpack a.k a.packed.now)) (a.then ∷ []))

pub returns : goal.returns
returns c =
    let a = c.args in
    let v = binary (unpack a.k a.packed.now) in
    let long = length-append v (a.then ∷ []) in
    let all : Wrote a.out.now a.at (field a.then (unpack a.k a.packed.now)) c.put.new.out c.put.result = (
      omega (arith, c.put.ensures.value, c.write_bits-here.ensures.value, long),
      c.put.ensures.out_after ∙ rw (c.write_bits-here.ensures.value, c.write_bits-here.ensures.out_after) (put_at_more a.out.now a.at v (a.then ∷ []) (omega (arith, (room (goal.at.returns c).Else-not-has_room).1, long))),
    ) in
    let both = put_here (field a.then) a.out.now a.at a.k a.packed.now (room (goal.at.returns c).Else-not-has_room).0 (room (goal.at.returns c).Else-not-has_room).1 _ _ all in
    record { place = both.0; space = both.1 }
