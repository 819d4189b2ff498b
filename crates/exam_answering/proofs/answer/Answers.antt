-- `exam_answering::answer` meets its contract: each test is that of its cause, in their order, and the sheet that is left is answered.
use mathlib.Core.Path.{◌≡◌, sym, ap, ◌∙◌}
use mathlib.Core.Bool.{true, false}
use mathlib.Core.List.{List}
use Prim.Native.Nat.{ℕ, ◌≤◌}
use native.Mathlib.Omega.{arith}
use borrow.Author.Rules.{rules}
use borrow.Author.Tests.{not-true, not-false, ltb-true, ltb-false}
use lib.ListN.{length}
use Rattle.calls.specs.Bounds.{most_threshold, outside}
use Rattle.calls.proofs.Decisions.{bounds}
use Rattle.calls.specs.declared.Refusal.TheVariants.{StringLength, Threshold, Expander, Text}
use Rattle.expander.specs.Expander.{is_expander}
use Rattle.exam_text.specs.Sheet.{expander_number, Within}
use Rattle.exam_text.specs.Reader.{is_sheet, sheet_of, SheetSays}
use Rattle.exam_text.proofs.ReaderExact.{sheet_within}
use Rattle.exam_answering.proofs.ExamCauses.{no_sheet_lem, no_bits, bad_threshold, no_expander, last_cause, refused_reply}
use Rattle.exam_answering.proofs.SheetSearch.{search_answer}
use Rattle.exam_answering.proofs.answer.Goals as goal
use Rattle.exam_answering.proofs.answer.Goals.{After-is_expander-known, Else-no_bits, Else-outside}

abbrev text : After-is_expander-known → List ℕ
text e = e.args.text.now

abbrev out : After-is_expander-known → List ℕ
out e = e.args.out.now

-- it is a sheet
read : (e : After-is_expander-known) → is_sheet (text e) ≡ true
read e = sym e.in-Some.ensures.sheet

says : (e : After-is_expander-known) → let r = e.in-Some.sheet in SheetSays (text e) r.n r.t r.count r.expander r.lines
says e = e.in-Some.ensures.says

within : (e : After-is_expander-known) → Within (sheet_of (text e))
within e = (sheet_within (text e) (read e)).0

-- n is from 1 to 32
some_bits : (e : Else-no_bits) → 1 ≤ e.in-Some.sheet.n
some_bits e = ltb-false e.in-Some.sheet.n 1 e.if-no_bits.false-raw

from : (e : After-is_expander-known) → 1 ≤ e.in-Some.sheet.n → 1 ≤ (sheet_of (text e)).n
from e some = omega (arith, some, (says e).n_read)

to : (e : After-is_expander-known) → (sheet_of (text e)).n ≤ 32
to e = (within e).n_most

-- what the test of the threshold answers
threshold : (e : After-is_expander-known) → e.threshold_outside-outside.result ≡ outside most_threshold (sheet_of (text e)).t
threshold e = e.threshold_outside-outside.ensures ∙ ap (outside most_threshold) (says e).t_read

-- t is from 1 to 65,535
inside : (e : After-is_expander-known) → e.threshold_outside-outside.result ≡ false → outside most_threshold (sheet_of (text e)).t ≡ false
inside e within-most = sym (threshold e) ∙ within-most

bounded : (e : Else-outside) → let t = e.in-Some.sheet.t in (1 ≤ t) × (t ≤ most_threshold)
bounded e = bounds most_threshold e.in-Some.sheet.t (sym e.threshold_outside-outside.ensures ∙ e.if-outside.false)

-- what the test of the expander answers
answered : (e : After-is_expander-known) → e.is_expander-known.result ≡ is_expander (expander_number (sheet_of (text e)).expander)
answered e = e.is_expander-known.ensures ∙ ap is_expander (says e).expander_read

-- ---- the needs
pub returns-in_default : goal.returns-in_default
returns-in_default c =
    let a = c.args in
    let none : is_sheet a.text.now ≡ false = sym c.in_default.ensures.sheet in
    refused_reply a.text.now a.out.now Text (no_sheet_lem a.text.now (length a.out.now) none)

pub returns-then-no_bits : goal.returns-then-no_bits
returns-then-no_bits c =
    let a = c.args in
    let is_read : is_sheet a.text.now ≡ true = sym c.in-Some.ensures.sheet in
    let s = c.in-Some.ensures.says in
    let less = ltb-true c.in-Some.sheet.n 1 c.if-no_bits.true-raw in
    let is = no_bits a.text.now (length a.out.now) is_read (omega (arith, less, s.n_read)) in
    refused_reply a.text.now a.out.now StringLength is

pub returns-then-outside : goal.returns-then-outside
returns-then-outside c =
    let g = goal.at.returns-then-outside c in
    let e = g.After-is_expander-known in
    let beyond = sym (threshold e) ∙ c.if-outside.true in
    let is = bad_threshold (text e) (length (out e)) (read e) (from e (some_bits g.Else-no_bits)) (to e) beyond in
    refused_reply (text e) (out e) Threshold is

pub returns-then-not-known : goal.returns-then-not-known
returns-then-not-known c =
    let g = goal.at.returns-then-not-known c in
    let e = g.After-is_expander-known in
    let within-most : c.threshold_outside-outside.result ≡ false = search rules in
    let unknown = sym (answered e) ∙ not-true _ c.if-not-known.true-raw in
    let is = no_expander (text e) (length (out e)) (read e) (from e (some_bits g.Else-no_bits)) (to e) (inside e within-most) unknown in
    refused_reply (text e) (out e) Expander is

pub solve-requires : goal.solve-requires
solve-requires c =
    let g = goal.at.solve-requires c in
    let e = g.After-is_expander-known in
    let s = says e in
    record {
      text_value = (
        read e,
        some_bits g.Else-no_bits,
        omega (arith, s.n_read, (within e).n_most),
        (bounded g.Else-outside).0,
        (bounded g.Else-outside).1,
        sym c.is_expander-known.ensures ∙ not-false _ c.if-not-known.false-raw,
        omega (arith, s.count_is_read, (within e).lines_at_most),
      );
      n_value = (s.n_read, s.t_read, s.expander_read, s.count_is_read);
    }

pub returns : goal.returns
returns c =
    let g = goal.at.returns c in
    let e = g.After-is_expander-known in
    let some = from e (some_bits g.Else-no_bits) in
    let t-inside = inside e c.if-outside.false in
    let known = sym (answered e) ∙ not-false _ c.if-not-known.false-raw in
    let t-in = bounds most_threshold (sheet_of (text e)).t t-inside in
    let same = search_answer (sheet_of (text e)) (within e) some known t-in.0 t-in.1 in
    rw (last_cause (text e) (length (out e)) (read e) some (to e) t-inside known, ← same) c.solve.ensures
