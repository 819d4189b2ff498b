-- `key_answering::lines::write_control` meets its contract.
use Rattle.places.proofs.Places.{grown_start}
use Rattle.exam_text.specs.Characters.{hexadecimal}
use Rattle.key_answering.specs.KeyPage.{spaced, closed, control_word, control_line}
use Rattle.fields.proofs.FieldChain.{grown_field, last_field}
use Rattle.key_answering.proofs.lines.write_control.Goals as goal

pub returns : goal.returns
unfolding control_line
returns c =
    let a = c.args in
    let w = c.write_word-here in
    let h = c.write_hex in
    let whole = control_line a.bytes.now in
    let bytes = closed (hexadecimal a.bytes.now) in
    let first = grown_field a.out.now a.at whole c.requires _ _ (spaced control_word) bytes (grown_start a.out.now a.at whole) _ _ (w.ensures.place, w.ensures.space) in
    let both = last_field a.out.now a.at whole c.requires _ _ bytes first _ _ (h.ensures.place, h.ensures.space) in
    record { value = both.0; out_after = both.1 }
