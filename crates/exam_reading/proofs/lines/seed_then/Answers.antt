-- `exam_reading::lines::seed_then` meets its contract.
use Rattle.std.proofs.Common.{arith, length-take-le}
use Rattle.exam_reading.proofs.lines.seed_then.Goals as goal

pub slice_bounds-are_hex-end : goal.slice_bounds-are_hex-end
slice_bounds-are_hex-end c = omega (arith, c.requires, length-take-le 32 c.args.part.now (omega (arith, c.requires)))
