-- `exam_answering::printing::print` meets its contract.
use Prim.Native.Nat.{ℕ, ◌+◌, ◌-◌, ◌/◌, ◌≤◌}
use native.Mathlib.Omega.{arith}
use mathlib.Core.Path.{◌≡◌, ◌∙◌}
use mathlib.Core.List.{List, [], ◌++◌, append-nil}
use lib.ListN.{length, take, drop, length-append}
use Rattle.bits.specs.Packing.{packed_length}
use Rattle.places.specs.Places.{put_at}
use Rattle.places.proofs.Places.{Grown, grown_start, grown_room, grown_more, put_at_overlay}
use Rattle.tree.specs.SearchRule.{heading_length}
use Rattle.exam_answering.specs.Printing.{rounds_lines, list_lines, printed}
use Rattle.fields.proofs.FieldChain.{all_written}
use Rattle.exam_answering.proofs.PrintedLines.{rest_of}
use Rattle.exam_answering.proofs.printing.print.Goals as goal
use Rattle.exam_answering.proofs.printing.print.Goals.{Start}

-- the lines of the record behind the number of reports, and those of the list
abbrev first : Start → List ℕ
first s = rounds_lines s.args.n (drop heading_length s.args.«record».now)

abbrev second : Start → List ℕ
second s = list_lines s.args.n (length s.args.list.now / packed_length s.args.n) s.args.list.now

room : (s : Start) → 0 + length (first s ++ second s) ≤ length s.args.out.now
unfolding printed
room s = omega (arith, s.requires.4)

-- the record behind the number of reports is what is lent
lent_rounds : (s : Start) → let bytes = s.args.«record».now in take (length bytes - heading_length) (drop heading_length bytes) ≡ drop heading_length bytes
lent_rounds s = rest_of heading_length s.args.«record».now

-- when the lines of the record are written, those of the list are left
grown : (s : Start) (after : List ℕ) (here : ℕ) → here ≡ 0 + length (first s) → after ≡ put_at s.args.out.now 0 (first s)
    → Grown s.args.out.now 0 after here (second s ++ []) (first s ++ second s)
grown s after here size wrote =
    rw (append-nil (second s))
    (grown_more s.args.out.now 0 s.args.out.now 0 (first s) (second s) _ (grown_start s.args.out.now 0 _) (room s) _ _ wrote size)

pub write_rounds-here-requires : goal.write_rounds-here-requires
write_rounds-here-requires c =
    let s = (goal.at.write_rounds-here-requires c).Start in
    rw (lent_rounds s) (c.requires.3, omega (arith, room s, length-append (first s) (second s)))

pub write_list-requires : goal.write_list-requires
write_list-requires c =
    let s = (goal.at.write_list-requires c).Start in
    let w = c.write_rounds-here in
    let same = lent_rounds s in
    (c.requires.0, grown_room c.args.out.now 0 _ _ (second s) [] _ (grown s w.new.out w.result (rw same at w.ensures.value) (rw same at w.ensures.out_after)) (room s))

pub returns : goal.returns
unfolding printed
returns c =
    let s = (goal.at.returns c).Start in
    let w = c.write_rounds-here in
    let same = lent_rounds s in
    let o = c.args.out.now in
    let before = grown s w.new.out w.result (rw same at w.ensures.value) (rw same at w.ensures.out_after) in
    let e =
    all_written o 0 _ _ (first s ++ second s)
    (grown_more o 0 w.new.out w.result (second s) [] _ before (room s) _ _ c.write_list.ensures.out_after c.write_list.ensures.value) in
    record { value = omega (arith, e.0); out_after = e.1 ∙ put_at_overlay o (first s ++ second s) c.requires.4 }
