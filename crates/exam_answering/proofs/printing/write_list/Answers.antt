-- `exam_answering::printing::write_list` meets its contract. The loop's invariant: the lines of the strings passed are written.
use Prim.Native.Nat.{ℕ, ◌+◌, ◌/◌, ◌≤◌}
use native.Mathlib.Nat.{div-eq_of_lt}
use native.Mathlib.Omega.{arith}
use mathlib.Core.Path.{◌≡◌, ◌∙◌}
use mathlib.Core.List.{List, ◌++◌}
use borrow.Author.Rules.{rules}
use lib.ListN.{length}
use Rattle.bits.specs.Packing.{packed_length, unpack}
use Rattle.places.proofs.Places.{Grown, grown_start, grown_room, grown_more}
use Rattle.exam_lines.specs.Lines.{heavy_line}
use Rattle.exam_answering.specs.Printing.{list_lines}
use Rattle.fields.proofs.FieldChain.{all_written}
use Rattle.fields.proofs.LineRoom.{put_there}
use Rattle.exam_answering.proofs.PrintedLines.{list_none, list_next}
use Rattle.exam_answering.proofs.printing.write_list.Goals as goal
use Rattle.exam_answering.proofs.printing.write_list.Goals.{In-Some}

-- the string is packed in as many bytes as it takes
sized : (c : In-Some) → length c.in-Some.string.now ≡ packed_length c.args.n
sized c = c.in-Some.ensures.steps.1.1 ∙ c.loop-string.invariant.0

-- what is left after its line
abbrev others : In-Some → List ℕ
others c = let rest = c.next.new.self.rest.now in list_lines c.args.n (length rest / packed_length c.args.n) rest

abbrev whole : In-Some → List ℕ
whole c = let a = c.args in list_lines a.n (length a.list.now / packed_length a.n) a.list.now

turn : (c : In-Some) → Grown c.args.out.now c.args.at c.loop-string.out c.loop-string.here (heavy_line (unpack c.args.n c.in-Some.string.now) ++ others c) (whole c)
turn c =
    rw (← list_next c.args.n c.in-Some.string.now c.next.new.self.rest.now (omega (arith, c.requires.0)) (sized c))
    (rw c.in-Some.ensures.steps.1.0 at c.loop-string.invariant.1)

room : (c : In-Some) → c.loop-string.here + length (heavy_line (unpack c.args.n c.in-Some.string.now)) ≤ length c.loop-string.out
room c =
    let l = c.loop-string in
    grown_room c.args.out.now c.args.at l.out l.here (heavy_line (unpack c.args.n c.in-Some.string.now)) (others c) (whole c) (turn c) c.requires.1

-- ---- the needs
pub loop-string-init : goal.loop-string-init
loop-string-init c =
    let s = c.chunks_exact-string-items in
    let same : c.into_iter-string-iterator.result ≡ s.result = search rules in
    rw same (s.ensures.size ∙ c.packed_length.ensures, rw s.ensures.rest (grown_start c.args.out.now c.args.at _))

pub loop-string-preserved : goal.loop-string-preserved
loop-string-preserved c =
    let a = c.args in
    let l = c.loop-string in
    let i = (goal.at.loop-string-preserved c).In-Some in
    let line = heavy_line (unpack a.n c.in-Some.string.now) in
    let w = c.write_heavy_line-here.ensures in
    let both = put_there heavy_line l.out l.here a.n c.in-Some.string.now (sized i) (room i) _ _ (w.place, w.space) in
    (c.in-Some.ensures.steps.0 ∙ l.invariant.0, grown_more a.out.now a.at l.out l.here line (others i) (whole i) (turn i) c.requires.1 _ _ both.1 both.0)

pub returns : goal.returns
returns c =
    let a = c.args in
    let l = c.loop-string in
    let rest = l.string-iterator.rest.now in
    let end : length rest / packed_length a.n ≡ 0 = div-eq_of_lt (omega (arith, c.in-None.ensures.steps.1.0, l.invariant.0)) in
    let both = all_written a.out.now a.at l.out l.here _ (rw (list_none a.n (length rest / packed_length a.n) rest (omega arith)) at l.invariant.1) in
    record { value = both.0; out_after = both.1 }
