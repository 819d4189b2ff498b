-- A search of honest reports for the strings of a sheet: it is accepted, and what is printed of it is the sheet's answer.
use Prim.Native.Nat.{◌≤◌}
use native.Mathlib.Omega.{arith}
use mathlib.Core.Path.{◌≡◌, sym, ap₂, ◌∙◌, subst}
use mathlib.Core.Bool.{Bool, true, false}
use mathlib.Core.List.{List}
use lib.ListN.{length, drop}
use lib.Dec.{leb}
use lib.IntN.{ℤ}
use Rattle.bits.specs.Strings.{Bits, count}
use Rattle.calls.specs.Bounds.{threshold_most}
use Rattle.expander.specs.Expander.{is_expander}
use Rattle.kept.specs.Kept.{reaches}
use Rattle.query.specs.Query.{OfLength, packs}
use Rattle.weights.specs.Weights.{EveryOne}
use Rattle.tree.specs.SearchRule.{heading_length, search_record, search_list}
use Rattle.tree.specs.Space.{fewest_holders, record_space, list_space}
use Rattle.search.specs.Search.{Lent, threshold_of, search_number}
use Rattle.search.proofs.Outcome.{Sound, accepted_clear}
use Rattle.honest.specs.Honest.{Accepted, record_read, list_read, Honest, counted_strings}
use Rattle.honest.proofs.Counted.{few_strings, accepted_record, accepted_list}
use Rattle.honest.proofs.Demand2.{honest_accepted}
use Rattle.exam_text.specs.Sheet.{Sheet, strings}
use Rattle.exam_answering.specs.AnswerText.{answer_text}
use Rattle.exam_text.proofs.Records.{Rounds}
use Rattle.exam_answering.specs.Printing.{printed, round_length}
use Rattle.exam_answering.proofs.Space.{exam_record, exam_list}
use Rattle.exam_answering.proofs.Printed.{printed_answer, answer_rounds}

-- A search of at most 32 honest reports for strings of 1 to 32 bits that is not weighted, in the exam program's areas, is accepted.
pub exam_accepted : (s : Lent) (xs : List Bits) (ws : List ℤ) → Honest s xs ws → s.weighted ≡ false → 1 ≤ s.n → s.n ≤ 32 → 1 ≤ threshold_of s → threshold_of s ≤ 65535 → is_expander s.expander ≡ true
    → length (counted_strings s xs) ≤ 32 → length s.record_area ≡ 19382 → length s.list_area ≡ 128 → search_number s ≡ 0
exam_accepted s xs ws honest plain from to least most known few room list =
    honest_accepted s xs ws honest from (omega arith) least
    (subst (λ (b : Bool). s.t ≤ threshold_most b) (sym plain) most) known (omega arith)
    (subst (λ (b : Bool). record_space s.n (fewest_holders b s.t) (length xs) ≤ length s.record_area) (sym plain)
    (rw room (exam_record s.n s.t (length xs) to least few)))
    (subst (λ (b : Bool). list_space s.n (fewest_holders b s.t) (length xs) ≤ length s.list_area) (sym plain)
    (rw list (exam_list s.n s.t (length xs) to least few)))

-- An accepted search of honest reports for the strings of a sheet, every weight one, whatever its areas.
module _ (s : Lent) (sheet : Sheet) (ws : List ℤ) (honest : Honest s (strings sheet) ws) (every : EveryOne ws) (same-n : s.n ≡ sheet.n) (same-t : threshold_of s ≡ sheet.t) (ok : Accepted s) where
  sound : Sound s
  sound = (accepted_clear s ok).sound

  all : OfLength sheet.n (strings sheet)
  all = rw same-n at honest.n_bits

  record_is : record_read s ≡ search_record (leb sheet.t) (count (strings sheet)) (length (strings sheet)) sheet.n
  record_is =
      accepted_record s (strings sheet) ws honest ok every
      ∙ ap₂ (λ n t. search_record (reaches t) (count (strings sheet)) (length (strings sheet)) n) same-n same-t

  list_is : list_read s ≡ packs (search_list (leb sheet.t) (count (strings sheet)) sheet.n)
  list_is = accepted_list s (strings sheet) ws honest ok every ∙ ap₂ (λ n t. packs (search_list (reaches t) (count (strings sheet)) n)) same-n same-t

  -- What is printed of its record and its list is the sheet's answer.
  pub answer_printed : printed s.n (record_read s) (list_read s) ≡ answer_text sheet
  answer_printed =
      rw (record_is, list_is, same-n)
      (printed_answer sheet all (omega (arith, sound.some_bits)) (omega (arith, sound.not_longer)) (omega (arith, sound.some_threshold))
      (few_strings s (strings sheet) ws honest ok) (length (strings sheet)))

  -- Its record is, behind the number of reports, at most n queries, each followed by its totals.
  pub answer_read_lem : Rounds round_length s.n (drop heading_length (record_read s))
  answer_read_lem =
      rw (record_is, same-n)
      (answer_rounds sheet all (omega (arith, sound.some_bits)) (omega (arith, sound.not_longer)) (omega (arith, sound.some_threshold))
      (few_strings s (strings sheet) ws honest ok) (length (strings sheet)))
