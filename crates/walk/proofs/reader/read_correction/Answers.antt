-- `walk::reader::read_correction` meets its contract.
use mathlib.Core.Path.{ap, ◌∙◌}
use Prim.Native.Nat.{ℕ, ◌+◌, ◌*◌, ◌%◌}
use Rattle.numbers.specs.Numbers.{from_little}
use Rattle.places.specs.Places.{window}
use Rattle.point.specs.PublicShare.{binary_digit, read_correction}
use Rattle.walk.proofs.Descent.{same_correction}
use Rattle.walk.proofs.reader.read_correction.Goals as goal

pub returns : goal.returns
unfolding read_correction binary_digit
returns c =
    let a = c.args in
    let bytes = a.bytes.now in
    let byte = c.byte_at-control.ensures in
    let start = c.level_start-start.ensures in
    same_correction
    (c.read16.ensures ∙ ap (λ (s : ℕ). window 16 s bytes) start)
    (ap (λ (x : ℕ). binary_digit x (2 * (a.k % 4))) byte)
    (ap (λ (x : ℕ). binary_digit x (2 * (a.k % 4) + 1)) byte)
    (c.read_le8.ensures ∙ ap (λ (s : ℕ). from_little (window 8 (s + 16) bytes)) start)
