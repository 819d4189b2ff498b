-- `key_answering::lines::write_correction` meets its contract.
use mathlib.Core.Path.{◌≡◌, ◌∙◌}
use lib.ListN.{replicate}
use Rattle.places.proofs.Places.{grown_start, put_at_whole}
use Rattle.numbers.specs.Numbers.{little}
use Rattle.numbers.proofs.Endian.{little_length}
use Rattle.nodes.specs.NodeLayout.{correction_of}
use Rattle.exam_text.specs.Characters.{hexadecimal}
use Rattle.key_answering.specs.KeyPage.{spaced, closed, correction_text}
use Rattle.fields.proofs.FieldChain.{FieldAt, grown_field, last_field}
use Rattle.key_answering.proofs.lines.write_correction.Goals as goal

pub returns : goal.returns
unfolding correction_text
returns c =
    let a = c.args in
    let w = c.write_hex-here in
    let h = c.write_hex in
    let x = a.word.payload in
    -- the eight bytes of the payload
    let payload : c.write_le8.new.out ≡ little 8 x = c.write_le8.ensures ∙ put_at_whole (replicate 8 0) (little 8 x) (little_length 8 x) in
    let whole = correction_text (correction_of a.word) in
    let bytes = closed (hexadecimal (little 8 x)) in
    let first = grown_field a.out.now a.at whole c.requires _ _ (spaced (hexadecimal a.word.seed)) bytes (grown_start a.out.now a.at whole) _ _ (w.ensures.place, w.ensures.space) in
    let last : FieldAt w.new.out w.result bytes h.new.out h.result = rw (← payload) (h.ensures.place, h.ensures.space) in
    let both = last_field a.out.now a.at whole c.requires _ _ bytes first _ _ last in
    record { value = both.0; out_after = both.1 }
