-- `exam_answering::solving::solve` meets its contract: what is printed in space of its own is given back where it fits.
use Prim.Native.Nat.{ℕ}
use mathlib.Core.Path.{◌≡◌, sym, ap, ap₂, ◌∙◌}
use mathlib.Core.List.{List}
use lib.ListN.{length, take, replicate, length-replicate}
use lib.Seq.{take-append_seam}
use Rattle.places.specs.Places.{overlay}
use Rattle.calls.specs.Outcome.{exit}
use Rattle.exam_lines.specs.Lines.{written_in}
use Rattle.exam_text.specs.Reader.{sheet_of}
use Rattle.exam_answering.specs.SheetSearch.{search_text}
use Rattle.exam_answering.proofs.solving.solve.Goals as goal
use Rattle.exam_answering.proofs.solving.solve.Goals.{After-print_answer-end}

abbrev answer : After-print_answer-end → List ℕ
answer p = search_text (sheet_of p.args.text.now)

size_is : (p : After-print_answer-end) → p.print_answer-end.result ≡ length (answer p)
size_is p = p.print_answer-end.ensures.value.0

printed_is : (p : After-print_answer-end) → take p.print_answer-end.result p.print_answer-end.new.out ≡ answer p
unfolding overlay
printed_is p = ap₂ take (size_is p) p.print_answer-end.ensures.out_after ∙ take-append_seam (answer p) _

-- zeros, as many as were written
zeros : (n : ℕ) → length {A = ℕ} (replicate n 0) ≡ n
zeros n = length-replicate {A = ℕ} n 0

-- ---- the needs
pub print_answer-end-requires : goal.print_answer-end-requires
print_answer-end-requires c =
    record { text_value = c.requires.text_value; n_value = c.requires.n_value; seeds0_len = (zeros 512, zeros 512, zeros 24832, zeros 19382, zeros 128, zeros 43232) }

pub slice_bounds-write_text-end : goal.slice_bounds-write_text-end
slice_bounds-write_text-end c = size_is (goal.at.slice_bounds-write_text-end c).After-print_answer-end ∙ sym (ap length (printed_is (goal.at.slice_bounds-write_text-end c).After-print_answer-end))

pub returns : goal.returns
returns c =
    let out = c.args.out.now in
    c.write_text.ensures ∙ ap (λ (l : List ℕ). exit (written_in l (length out)) out) (printed_is (goal.at.returns c).After-print_answer-end)
