-- `exam_answering::printing::query_length` meets its contract.
use Prim.Native.Nat.{ℕ, ◌*◌}
use native.Mathlib.Omega.{arith}
use mathlib.Core.Path.{◌≡◌, ap, ap₂, ◌∙◌}
use mathlib.Core.List.{List}
use Rattle.bits.specs.Packing.{packed_length}
use Rattle.query.specs.Query.{prefix_length, prefix_count}
use Rattle.exam_answering.proofs.printing.query_length.Goals as goal
use Rattle.exam_answering.proofs.printing.query_length.Goals.{After-packed_length}

abbrev bytes : After-packed_length → List ℕ
bytes c = c.args.round.now

size : (c : After-packed_length)
    → c.prefix_count.result * c.packed_length.result ≡ prefix_count (bytes c) * packed_length (prefix_length (bytes c))
size c =
    ap₂ ◌*◌ c.prefix_count.ensures.0 (c.packed_length.ensures ∙ ap packed_length c.prefix_length.ensures.0)

pub overflow_mul-result : goal.overflow_mul-result
overflow_mul-result c = omega (arith, size c, c.requires)

pub overflow_add-result : goal.overflow_add-result
overflow_add-result c = omega (arith, size c, c.requires)

pub returns : goal.returns
returns c = omega (arith, size c)
