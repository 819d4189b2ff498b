-- `exam_answering::solving::search_printed` meets its contract: what is printed is what is read of the search.
use mathlib.Core.Path.{◌≡◌, sym, ap, ap₂, ◌∙◌}
use mathlib.Core.Bool.{false}
use mathlib.Core.List.{List}
use Prim.Native.Nat.{ℕ}
use native.Mathlib.Omega.{arith}
use lib.ListN.{length, take, length-take}
use Rattle.places.specs.Places.{overlay}
use Rattle.levels.specs.Levels.{Ending, ended}
use Rattle.std.proofs.Common.{Ok}
use Rattle.calls.proofs.Judged.{numbered}
use Rattle.search.specs.Search.{Lent, lent, record_length, list_length, search_ending}
use Rattle.honest.specs.Honest.{record_read, list_read}
use Rattle.honest.proofs.Reading.{record_whole, list_whole}
use Rattle.honest.proofs.Demand3.{record_headed}
use Rattle.exam_answering.specs.Printing.{printed}
use Rattle.exam_answering.proofs.solving.search_printed.Goals as goal
use Rattle.exam_answering.proofs.solving.search_printed.Goals.{In-Ok}

-- the search
abbrev asked : In-Ok → Lent
asked k =
    let a = k.args in
    lent a.sheet.n false a.sheet.t a.sheet.expander a.seeds0.now a.shares.now a.seeds1.now a.shares.now a.area.now a.list.now

abbrev recorded : In-Ok → List ℕ
recorded k = k.search.new.record

abbrev listed : In-Ok → List ℕ
listed k = k.search.new.list

told : (k : In-Ok) → ended (Ok k.in-Ok.found) (recorded k) (listed k) ≡ search_ending (asked k)
told k = rw k.from.ensures at k.in-Ok.ensures

record_told : (k : In-Ok) → k.in-Ok.found.record ≡ record_length (asked k)
record_told k = ap (λ (x : Ending). x.record_length) (told k)

list_told : (k : In-Ok) → k.in-Ok.found.list ≡ list_length (asked k)
list_told k = ap (λ (x : Ending). x.list_length) (told k)

record_is : (k : In-Ok) → take k.in-Ok.found.record (recorded k) ≡ record_read (asked k)
record_is k = ap₂ take (record_told k) (ap (λ (x : Ending). x.record_area) (told k))

list_is : (k : In-Ok) → take k.in-Ok.found.list (listed k) ≡ list_read (asked k)
list_is k = ap₂ take (list_told k) (ap (λ (x : Ending). x.list_area) (told k))

record_size : (k : In-Ok) → length (take k.in-Ok.found.record (recorded k)) ≡ k.in-Ok.found.record
record_size k = ap length (record_is k) ∙ (record_whole (asked k) k.requires.le_n.2).0 ∙ sym (record_told k)

list_size_lem : (k : In-Ok) → length (take k.in-Ok.found.list (listed k)) ≡ k.in-Ok.found.list
list_size_lem k = ap length (list_is k) ∙ (list_whole (asked k) k.requires.le_n.2).0 ∙ sym (list_told k)

-- ---- the needs
pub slice_bounds-print-end : goal.slice_bounds-print-end
slice_bounds-print-end c =
    omega (arith, record_size (goal.at.slice_bounds-print-end c).In-Ok, length-take c.in-Ok.found.record (recorded (goal.at.slice_bounds-print-end c).In-Ok))

pub slice_bounds-print-end-2 : goal.slice_bounds-print-end-2
slice_bounds-print-end-2 c = sym (record_size (goal.at.slice_bounds-print-end-2 c).In-Ok)

pub slice_bounds-print-end-3 : goal.slice_bounds-print-end-3
slice_bounds-print-end-3 c =
    omega (arith, list_size_lem (goal.at.slice_bounds-print-end-3 c).In-Ok, length-take c.in-Ok.found.list (listed (goal.at.slice_bounds-print-end-3 c).In-Ok))

pub slice_bounds-print-end-4 : goal.slice_bounds-print-end-4
slice_bounds-print-end-4 c = sym (list_size_lem (goal.at.slice_bounds-print-end-4 c).In-Ok)

pub returns-in_default : goal.returns-in_default
returns-in_default c =
    absurd (numbered c.in_default.field-0 (ap (λ (x : Ending). x.number) (rw c.from.ensures at c.in_default.ensures) ∙ c.requires.le_n.2))

pub print-requires : goal.print-requires
print-requires c = (
  c.requires.le_n.0,
  omega (arith, c.requires.le_n.1),
  rw (record_is (goal.at.print-requires c).In-Ok) (record_headed (asked (goal.at.print-requires c).In-Ok) c.requires.le_n.2),
  rw (record_is (goal.at.print-requires c).In-Ok) c.requires.rounds,
  rw (record_is (goal.at.print-requires c).In-Ok, list_is (goal.at.print-requires c).In-Ok) c.requires.list_in_bounds,
)

pub returns : goal.returns
returns c =
    let a = c.args in record { value = c.print.ensures.value ∙ ap₂ (λ (r l : List ℕ). length (printed a.sheet.n r l)) (record_is (goal.at.returns c).In-Ok) (list_is (goal.at.returns c).In-Ok); out_after = c.print.ensures.out_after ∙ ap₂ (λ (r l : List ℕ). overlay (printed a.sheet.n r l) a.out.now) (record_is (goal.at.returns c).In-Ok) (list_is (goal.at.returns c).In-Ok) }
