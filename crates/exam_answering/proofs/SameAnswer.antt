-- On what of a sheet the answer depends, and what its heavy lines are.
use Prim.Native.Nat.{ℕ, ◌≤◌}
use mathlib.Core.Path.{◌≡◌, refl, sym, ap, ap₂, fun_ext, ◌∙◌}
use mathlib.Core.Logic.{◌↔◌}
use mathlib.Core.List.{List, ◌++◌}
use mathlib.Core.Option.{none, some}
use lib.ListN.{length}
use Rattle.places.specs.Lists.{◌∈◌}
use Rattle.bits.specs.Strings.{Bits, is_prefix, count, Ascending}
use Rattle.calls.specs.Outcome.{judged}
use Rattle.expander.specs.Expander.{is_expander}
use Rattle.kept.specs.Kept.{reaches}
use Rattle.tree.specs.SearchRule.{start, is_kept, search_list}
use Rattle.tree.specs.Cut.{Heavy, honest_list, times, Rearranged}
use Rattle.tree.proofs.Demands.{honest_exact, honest_ascending, honest_once}
use Rattle.tree.proofs.Rearranging.{rearranged_number}
use Rattle.exam_text.specs.Sheet.{Line, Sheet, strings, expander_number, text, Within}
use Rattle.exam_answering.specs.AnswerText.{prefix_lines, heavy_lines, queried_from, queried, answer_text}
use Rattle.exam_answering.specs.Exam.{exam_outcome}
use Rattle.exam_text.proofs.TextLengths.{text_most}
use Rattle.exam_answering.proofs.Exam.{sheet_causes, sheet_outcome}

-- ---- on what the answer depends

-- the answer by n, t and the number of strings that have each prefix
answer_of : ℕ → ℕ → (Bits → ℕ) → List ℕ
answer_of n t T = prefix_lines T (queried_from (is_kept (reaches t) T) n start) ++ heavy_lines (search_list (reaches t) T n)

same_counts : (s r : Sheet) → s.n ≡ r.n → s.t ≡ r.t → count (strings s) ≡ count (strings r) → answer_text s ≡ answer_text r
unfolding answer_text answer_of
same_counts s r same-n same-t same_count =
    ap₂ (λ n t. answer_of n t (count (strings s))) same-n same-t ∙ ap (answer_of r.n r.t) same_count

-- Sheets of the same n, t and strings have the same answer, whatever their seeds and their expanders.
pub same_answer : (s r : Sheet) → s.n ≡ r.n → s.t ≡ r.t → strings s ≡ strings r → answer_text s ≡ answer_text r
same_answer s r same-n same-t same_strings = same_counts s r same-n same-t (ap count same_strings)

-- Sheets of the same n and t whose strings are rearrangements of each other have the same answer: the order of the lines does not matter.
pub order_free : (s r : Sheet) → s.n ≡ r.n → s.t ≡ r.t → Rearranged (strings s) (strings r) → answer_text s ≡ answer_text r
order_free s r same-n same-t rearranged =
    same_counts s r same-n same-t (fun_ext (λ q. rearranged_number (is_prefix q) (strings s) (strings r) rearranged))

-- ---- on what the outcome depends

-- The texts of two sheets of the same n, t and strings, whose expanders are both 1 or 2 or both neither, have the same outcome.
pub same_outcome : (s r : Sheet) → Within s → Within r → s.n ≡ r.n → s.t ≡ r.t → strings s ≡ strings r
    → is_expander (expander_number s.expander) ≡ is_expander (expander_number r.expander) → (room : ℕ) → exam_outcome (text s) room ≡ exam_outcome (text r) room
same_outcome s r w v same-n same-t same_strings same_known room =
    let same : judged (sheet_causes s room) (answer_text s) ≡ judged (sheet_causes r room) (answer_text r) =
    rw (same_answer s r same-n same-t same_strings, same-n, same-t, same_known) in
    sheet_outcome s w room ∙ same ∙ sym (sheet_outcome r v room)

-- A missing expander means 2: the text without the field has the outcome of the text with ` 2`.
pub missing_field : (n t : ℕ) (lines : List Line)
    → let missing : Sheet = record { n = n; t = t; expander = none; lines = lines } in
    let two : Sheet = record { n = n; t = t; expander = some 2; lines = lines } in
    Within missing → (room : ℕ) → exam_outcome (text missing) room ≡ exam_outcome (text two) room
missing_field n t lines w room =
    let missing : Sheet = record { n = n; t = t; expander = none; lines = lines } in
    let two : Sheet = record { n = n; t = t; expander = some 2; lines = lines } in
    let w2 : Within two = record {
      n_most = w.n_most;
      lines_at_most = w.lines_at_most;
      t_digits = w.t_digits;
      expander_digits = w.expander_digits;
      n_bits = w.n_bits;
      seeds = w.seeds;
      most = text_most two w.n_most w.lines_at_most w.t_digits w.expander_digits w.n_bits w.seeds;
    } in
    same_outcome missing two w w2 refl refl refl refl room

-- ---- the heavy lines

-- An answer ends in a heavy line for exactly each string of n bits that at least t of the sheet's lines hold, strictly ascending and once each.
pub heavy_lines_lem : (s : Sheet) → 1 ≤ s.n
    → (ss : List Bits) × (answer_text s ≡ prefix_lines (count (strings s)) (queried s.n s.t (strings s)) ++ heavy_lines ss)
    × Ascending ss × ((x : Bits) → times x ss ≤ 1) × ((x : Bits) → (x ∈ ss) ↔ ((length x ≡ s.n) × Heavy s.t (strings s) x))
unfolding answer_text
heavy_lines_lem s from =
    let xs = strings s in
    (honest_list s.n s.t xs, refl, honest_ascending s.n s.t xs, honest_once s.n s.t xs, honest_exact s.n s.t xs from)
