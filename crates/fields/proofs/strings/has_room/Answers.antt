-- `fields::strings::has_room` meets its contract.
use Prim.Native.Nat.{ℕ, ◌+◌, ◌-◌, ◌≤◌}
use native.Mathlib.Omega.{arith}
use native.Mathlib.Decide.{dec_lt}
use mathlib.Core.Path.{◌≡◌, sym, ◌∙◌}
use borrow.Author.Tests.{eq-eqb, ne_eqb, le-leb, lt-leb}
use lib.Dec.{leb}
use Rattle.bits.specs.Packing.{packed_length}
use Rattle.fields.proofs.strings.has_room.Goals as goal
use Rattle.fields.proofs.strings.has_room.Goals.{Else-bytes-packed_length}

-- the last place for a line is its size before the end
same : (at k rest room : ℕ) → k + rest ≤ room → leb at (room - k - rest) ≡ leb (at + (k + rest)) room
same at k rest room h =
    elim (dec_lt room (at + (k + rest))) [
      | yes l ↦ lt-leb at (room - k - rest) (omega arith) ∙ sym (lt-leb (at + (k + rest)) room l)
      | no l ↦ le-leb at (room - k - rest) (omega arith) ∙ sym (le-leb (at + (k + rest)) room (omega arith))
    ]

-- what is left after the first test
narrow : (c : Else-bytes-packed_length) → let a = c.args in a.bytes ≡ packed_length a.k
narrow c = c.if-bytes-packed_length.false ∙ c.packed_length.ensures

pub returns-then-bytes-packed_length : goal.returns-then-bytes-packed_length
returns-then-bytes-packed_length c =
    let a = c.args in
    rw (ne_eqb a.bytes (packed_length a.k) (λ e. c.if-bytes-packed_length.true (e ∙ sym c.packed_length.ensures)))

pub returns-then-room-k : goal.returns-then-room-k
returns-then-room-k c =
    let a = c.args in
    rw (eq-eqb a.bytes (packed_length a.k) (narrow (goal.at.returns-then-room-k c).Else-bytes-packed_length), lt-leb (a.at + (a.k + a.rest)) a.room (omega arith))

pub returns-then-left-rest : goal.returns-then-left-rest
returns-then-left-rest c =
    let a = c.args in
    rw (eq-eqb a.bytes (packed_length a.k) (narrow (goal.at.returns-then-left-rest c).Else-bytes-packed_length), lt-leb (a.at + (a.k + a.rest)) a.room (omega arith))

pub returns : goal.returns
returns c =
    let a = c.args in
    rw (eq-eqb a.bytes (packed_length a.k) (narrow (goal.at.returns c).Else-bytes-packed_length)) (same a.at a.k a.rest a.room (omega arith))
