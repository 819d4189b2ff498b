-- What `answer` wrote is within the space.
use Rattle.std.proofs.Common.{ap, sym, length-take-le}
use Rattle.calls.specs.Outcome.{Exit}
use Rattle.exam_lines.proofs.Inside.{inside}
use Rattle.exam_sheets.proofs.show.Goals as goal

pub slice_bounds-out-end : goal.slice_bounds-out-end
slice_bounds-out-end g c =
    let reply = c.in-Ok in
    inside _ _ _ _ (ap (λ (x : Exit). x.length) reply.ensures) (ap (λ (x : Exit). x.area) reply.ensures)

pub slice_bounds-write_all-end : goal.slice_bounds-write_all-end
slice_bounds-write_all-end g c =
    let reply = c.in-Ok in
    sym (length-take-le _ _ (inside _ _ _ _ (ap (λ (x : Exit). x.length) reply.ensures) (ap (λ (x : Exit). x.area) reply.ensures)))
