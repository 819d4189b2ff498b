-- `key_answering::print` meets its contract: what is printed in space of its own is given back where it fits.
use Prim.Native.Nat.{ℕ}
use mathlib.Core.Path.{◌≡◌, sym, ap, ap₂, ◌∙◌}
use mathlib.Core.List.{List}
use lib.ListN.{length, take}
use lib.Seq.{take-append_seam}
use Rattle.places.specs.Places.{overlay}
use Rattle.calls.specs.Outcome.{exit}
use Rattle.exam_text.specs.Reader.{line_at}
use Rattle.exam_lines.specs.Lines.{written_in}
use Rattle.key_answering.specs.KeyAnswer.{line_page}
use Rattle.key_answering.proofs.print.Goals as goal
use Rattle.key_answering.proofs.print.Goals.{After-print_line-end}

-- the page
abbrev whole : After-print_line-end → List ℕ
whole p = let a = p.args in line_page a.head.n (line_at a.head.n a.head.place a.text.now) a.e

size_is : (p : After-print_line-end) → p.print_line-end.result ≡ length (whole p)
size_is p = p.print_line-end.ensures.value.0

printed_is : (p : After-print_line-end) → take p.print_line-end.result p.print_line-end.new.out ≡ whole p
unfolding overlay
printed_is p = ap₂ take (size_is p) p.print_line-end.ensures.out_after ∙ take-append_seam (whole p) _

pub slice_bounds-write_text-end : goal.slice_bounds-write_text-end
slice_bounds-write_text-end c = size_is (goal.at.slice_bounds-write_text-end c).After-print_line-end ∙ sym (ap length (printed_is (goal.at.slice_bounds-write_text-end c).After-print_line-end))

pub returns : goal.returns
returns c =
    let out = c.args.out.now in
    c.write_text.ensures ∙ ap (λ (l : List ℕ). exit (written_in l (length out)) out) (printed_is (goal.at.returns c).After-print_line-end)
