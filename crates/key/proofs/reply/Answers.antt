-- In this space `respond` leaves the whole output at the beginning, and its length is that of the output.
use Rattle.std.proofs.Common.{ap, ap₂, sym, ◌∙◌, take, length-take-le}
use Rattle.std.proofs.Math.Seq.{take-append_seam}
use Rattle.places.specs.Places.{overlay}
use Rattle.calls.specs.Outcome.{Outcome, Exit, exit}
use Rattle.key_answering.specs.KeyAnswer.{key_output}
use Rattle.exam_lines.proofs.Inside.{inside, area_left, length_left}
use Rattle.key_answering.proofs.KeyOutputs.{key_respond_enough}
use Rattle.key.proofs.reply.Goals as goal

pub returns : goal.returns
unfolding overlay
returns c =
    let a = c.args in
    let is = c.respond.ensures ∙ ap (λ (o : Outcome). exit o a.out.now) (key_respond_enough a.text.now _ c.requires) in
    let size = c.unwrap_or-length.ensures ∙ length_left c.respond.result c.respond.new.out ∙ ap (λ (x : Exit). x.length) is in
    let area = area_left c.respond.result c.respond.new.out ∙ ap (λ (x : Exit). x.area) is in
    let fits = inside _ (key_output a.text.now) a.out.now _ size area in
    ((fits, sym (length-take-le _ _ fits)), ap₂ take size area ∙ take-append_seam (key_output a.text.now) _)
