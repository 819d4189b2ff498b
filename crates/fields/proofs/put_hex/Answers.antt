-- `fields::put_hex` meets its contract. The loop's invariant: the bytes passed are written.
use Prim.Native.Nat.{ℕ, ◌+◌, ◌/◌, ◌%◌}
use native.Mathlib.Omega.{arith}
use mathlib.Core.Path.{ap, ◌∙◌}
use mathlib.Core.List.{List, [], ◌∷◌}
use lib.ListN.{get_or, drop}
use Rattle.places.specs.Places.{put_at}
use Rattle.places.proofs.Places.{Grown, grown_start, grown_room, grown_more}
use Rattle.exam_text.specs.Characters.{glyph, hexadecimal}
use Rattle.fields.proofs.FieldChain.{all_written}
use Rattle.fields.proofs.PrintedHex.{hex_none, hex_step}
use Rattle.fields.proofs.put_hex.Goals as goal
use Rattle.fields.proofs.put_hex.Goals.{After-put-here, In-loop-byte}

-- its byte, and what is left after it
abbrev byte : In-loop-byte → ℕ
byte i = get_or i.args.bytes.now i.loop-byte.byte-index 0

abbrev others : In-loop-byte → List ℕ
others i = hexadecimal (drop (i.loop-byte.byte-index + 1) i.args.bytes.now)

abbrev whole : In-loop-byte → List ℕ
whole i = hexadecimal i.args.bytes.now

turn : (i : In-loop-byte)
    → Grown i.args.out.now i.args.at i.loop-byte.out i.loop-byte.here (glyph (byte i / 16) ∷ glyph (byte i % 16) ∷ others i) (whole i)
turn i =
    let l = i.loop-byte in
    rw (← hex_step i.args.bytes.now l.byte-index (omega arith)) l.invariant

-- after its first character
half : (p : After-put-here)
    → let x = get_or p.args.bytes.now p.loop-byte.byte-index 0 in
    Grown p.args.out.now p.args.at p.put-here.new.out p.put-here.result (glyph (x % 16) ∷ hexadecimal (drop (p.loop-byte.byte-index + 1) p.args.bytes.now)) (hexadecimal p.args.bytes.now)
half p =
    let a = p.args in
    let l = p.loop-byte in
    let x = get_or a.bytes.now l.byte-index 0 in
    let rest = hexadecimal (drop (l.byte-index + 1) a.bytes.now) in
    let turned : Grown a.out.now a.at l.out l.here (glyph (x / 16) ∷ glyph (x % 16) ∷ rest) (hexadecimal a.bytes.now) =
    rw (← hex_step a.bytes.now l.byte-index (omega arith)) l.invariant in
    grown_more a.out.now a.at l.out l.here (glyph (x / 16) ∷ []) (glyph (x % 16) ∷ rest) (hexadecimal a.bytes.now) turned p.requires _ _
    (p.put-here.ensures.out_after ∙ ap (λ (y : ℕ). put_at l.out l.here (y ∷ [])) p.hex_digit.ensures) p.put-here.ensures.value

-- ---- the needs
pub loop-byte-init : goal.loop-byte-init
loop-byte-init c = let a = c.args in grown_start a.out.now a.at _

pub put-here-requires : goal.put-here-requires
put-here-requires c =
    let a = c.args in
    let l = c.loop-byte in
    omega (arith, grown_room a.out.now a.at l.out l.here (glyph (byte (goal.at.put-here-requires c).In-loop-byte / 16) ∷ []) (glyph (byte (goal.at.put-here-requires c).In-loop-byte % 16) ∷ others (goal.at.put-here-requires c).In-loop-byte) (whole (goal.at.put-here-requires c).In-loop-byte) (turn (goal.at.put-here-requires c).In-loop-byte) c.requires)

pub put-here-requires-in-loop-byte : goal.put-here-requires-in-loop-byte
put-here-requires-in-loop-byte c =
    let a = c.args in
    omega (arith, grown_room a.out.now a.at _ _ (glyph (byte (goal.at.put-here-requires-in-loop-byte c).In-loop-byte % 16) ∷ []) (others (goal.at.put-here-requires-in-loop-byte c).In-loop-byte) (whole (goal.at.put-here-requires-in-loop-byte c).In-loop-byte) (half (goal.at.put-here-requires-in-loop-byte c).After-put-here) c.requires)

pub loop-byte-preserved : goal.loop-byte-preserved
loop-byte-preserved c =
    let a = c.args in
    grown_more a.out.now a.at _ _ (glyph (byte (goal.at.loop-byte-preserved c).In-loop-byte % 16) ∷ []) (others (goal.at.loop-byte-preserved c).In-loop-byte) (whole (goal.at.loop-byte-preserved c).In-loop-byte) (half (goal.at.loop-byte-preserved c).After-put-here) c.requires _ _
    (c.put-here-in-loop-byte.ensures.out_after ∙ ap (λ (x : ℕ). put_at c.put-here.new.out c.put-here.result (x ∷ [])) c.hex_digit-in-loop-byte.ensures) c.put-here-in-loop-byte.ensures.value

pub returns : goal.returns
returns c =
    let l = c.loop-byte in
    let a = c.args in
    let both = all_written a.out.now a.at l.out l.here _ (rw (hex_none a.bytes.now l.byte-index (omega arith)) at l.invariant) in
    record { value = both.0; out_after = both.1 }
