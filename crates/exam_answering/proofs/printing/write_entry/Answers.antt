-- `exam_answering::printing::write_entry` meets its contract.
use Prim.Native.Nat.{ℕ, ◌+◌, ◌-◌}
use native.Mathlib.Omega.{arith}
use mathlib.Core.Path.{◌≡◌, ap, ap₂, ◌∙◌}
use lib.ListN.{length, take, drop}
use Rattle.numbers.specs.Numbers.{from_little}
use Rattle.bits.specs.Packing.{packed_length, unpack}
use Rattle.places.proofs.Places.{window_inside}
use Rattle.query.proofs.Pieces.{part_length}
use Rattle.exam_lines.specs.Lines.{prefix_line}
use Rattle.fields.proofs.LineRoom.{put_there}
use Rattle.exam_answering.proofs.printing.write_entry.Goals as goal
use Rattle.exam_answering.proofs.printing.write_entry.Goals.{After-read_le8, Start}

width : (from w : ℕ) → from + w - from ≡ w
width from w = omega arith

-- the line is that of the prefix and of the total
line : (c : After-read_le8)
    → prefix_line (unpack c.args.k (take (c.args.from + c.args.w - c.args.from) (drop c.args.from c.args.round.now))) c.read_le8.result
    ≡ prefix_line (unpack c.args.k (take c.args.w (drop c.args.from c.args.round.now))) (from_little (take 8 (drop c.args.place c.args.round.now)))
line c =
    let a = c.args in
    ap₂ (λ (m t : ℕ). prefix_line (unpack a.k (take m (drop a.from a.round.now))) t) (width c.args.from c.args.w)
    (c.read_le8.ensures ∙ ap from_little (window_inside 8 a.place a.round.now c.requires.w_value.2))

-- the prefix is in as many bytes as its bits take
sized : (s : Start) → length (take (s.args.from + s.args.w - s.args.from) (drop s.args.from s.args.round.now)) ≡ packed_length s.args.k
sized s =
    let a = s.args in
    ap (λ (m : ℕ). length (take m (drop a.from a.round.now))) (width a.from a.w) ∙ part_length a.w a.from a.round.now s.requires.w_value.1 ∙ s.requires.w_value.0

pub returns : goal.returns
returns c =
    let a = c.args in
    let r = (goal.at.returns c).After-read_le8 in
    let both =
    rw (line r) at (put_there (λ x. prefix_line x c.read_le8.result) a.out.now a.at a.k (take (a.from + a.w - a.from) (drop a.from a.round.now)) (sized (goal.at.returns c).Start) (rw (line r) c.requires.round_in_bounds) _ _ (c.write_prefix_line.ensures.place, c.write_prefix_line.ensures.space)) in
    record { value = both.0; out_after = both.1 }
