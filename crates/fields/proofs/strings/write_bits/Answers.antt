-- `fields::strings::write_bits` meets its contract. The loop's invariant: the bits passed are written.
use Prim.Native.Nat.{ℕ, ◌+◌}
use native.Mathlib.Omega.{arith}
use mathlib.Core.Path.{◌≡◌, ap, ◌∙◌}
use mathlib.Core.Bool.{false}
use mathlib.Core.List.{List, [], ◌∷◌}
use lib.ListN.{get_or, drop}
use Rattle.places.specs.Lists.{digit}
use Rattle.bits.specs.Packing.{bits_of, unpack}
use Rattle.places.specs.Places.{put_at}
use Rattle.places.proofs.Places.{Grown, grown_start, grown_room, grown_more}
use Rattle.exam_text.specs.Characters.{glyph, binary}
use Rattle.fields.proofs.FieldChain.{all_written}
use Rattle.fields.proofs.PrintedBits.{binary_none, binary_step}
use Rattle.fields.proofs.strings.write_bits.Goals as goal
use Rattle.fields.proofs.strings.write_bits.Goals.{In-loop-i}

-- the character, and what is left after it
abbrev character : In-loop-i → ℕ
character i = glyph (digit (get_or (bits_of i.args.packed.now) i.loop-i.i false))

abbrev others : In-loop-i → List ℕ
others i = binary (drop (i.loop-i.i + 1) (unpack i.args.k i.args.packed.now))

abbrev whole : In-loop-i → List ℕ
whole i = binary (unpack i.args.k i.args.packed.now)

turn : (i : In-loop-i)
    → Grown i.args.out.now i.args.at i.loop-i.out i.loop-i.here (character i ∷ others i) (whole i)
turn i =
    let l = i.loop-i in
    rw (← binary_step i.args.k l.i i.args.packed.now i.requires.0 (omega arith)) l.invariant

-- ---- the needs
pub loop-i-init : goal.loop-i-init
loop-i-init c = let a = c.args in grown_start a.out.now a.at _

pub put-here-requires : goal.put-here-requires
put-here-requires c =
    let a = c.args in
    let l = c.loop-i in
    omega (arith, grown_room a.out.now a.at l.out l.here (character (goal.at.put-here-requires c).In-loop-i ∷ []) (others (goal.at.put-here-requires c).In-loop-i) (whole (goal.at.put-here-requires c).In-loop-i) (turn (goal.at.put-here-requires c).In-loop-i) c.requires.1)

pub loop-i-preserved : goal.loop-i-preserved
loop-i-preserved c =
    let a = c.args in
    let l = c.loop-i in
    let e : c.bit_digit.result ≡ character (goal.at.loop-i-preserved c).In-loop-i = c.bit_digit.ensures ∙ ap (λ x. glyph (digit x)) c.bit_at.ensures in
    grown_more a.out.now a.at l.out l.here (character (goal.at.loop-i-preserved c).In-loop-i ∷ []) (others (goal.at.loop-i-preserved c).In-loop-i) (whole (goal.at.loop-i-preserved c).In-loop-i) (turn (goal.at.loop-i-preserved c).In-loop-i) c.requires.1 _ _
    (c.put-here.ensures.out_after ∙ ap (λ (x : ℕ). put_at l.out l.here (x ∷ [])) e) c.put-here.ensures.value

pub returns : goal.returns
returns c =
    let l = c.loop-i in
    let a = c.args in
    let both = all_written a.out.now a.at l.out l.here _ (rw (binary_none a.k l.i a.packed.now (omega arith)) at l.invariant) in
    record { value = both.0; out_after = both.1 }
