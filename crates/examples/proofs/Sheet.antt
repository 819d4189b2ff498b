-- The sheet of document 01: every row of the table holds.
use mathlib.Core.Path.{◌≡◌, refl, ap, ap₂, ◌∙◌}
use mathlib.Core.Bool.{Bool, true, false, cond, xor}
use mathlib.Core.List.{List, [], ◌∷◌}
use mathlib.Core.Option.{some}
use Prim.Native.Nat.{ℕ, ◌≤◌}
use native.Mathlib.Omega.{arith}
use lib.ListN.{length}
use borrow.Author.Tests.{le-ltb}
use lib.Dec.{ltb}
use Rattle.places.specs.Lists.{All}
use Rattle.bits.specs.Strings.{Bits}
use Rattle.numbers.specs.Numbers.{little, from_little, big, from_big}
use Rattle.bits.specs.Packing.{value, pack_in, pack, digits, bits_of, unpack, spare_zero}
use Rattle.places.specs.Places.{window, put_at}
use Rattle.calls.specs.Bounds.{most_bits, most_threshold, threshold_most, outside}
use Rattle.calls.specs.Outcome.{accepted}
use Rattle.calls.proofs.Judged.{◌&◌}
use Rattle.expander.specs.Expander.{is_expander, classroom_block, xor_bytes}
use Rattle.signed.specs.SignedReading.{embed}
use Rattle.point.specs.Node.{control_bit, cleared, child, final, payload_of}
use Rattle.point.specs.Correction.{corrected, corrected_child}
use Rattle.point.specs.Keys.{seed_correction, left_correction, right_correction, kept_child, payload_correction, correction, key_node, key_correction}
use Rattle.point.specs.Evaluation.{descend, corrected_payload, share_below, node, share}
use Rattle.point.specs.PublicShare.{joined, lowest_first, level_bit, control_byte, level_bytes, public_share, binary_digit, read_correction, every, payloads_below, spare_bits_zero}
use Rattle.point.specs.Instance.{field_scheme}
use Rattle.query.specs.Query.{packs, query, parts, spares_zero, is_ascending, is_query}
use Rattle.tree.specs.SearchRule.{search_record, search_list}
use Rattle.tree.specs.Cut.{honest_record, honest_list, cut}
use Rattle.keymaker.specs.Key.{key_bytes, key_outcome}
use Rattle.report_sums.specs.Reports.{sum_where, lent_share, server_sum}
use Rattle.idpf.specs.Share.{share_bytes, share_outcome}
use Rattle.exam_text.specs.Characters.{binary, decimal_in}
use Rattle.exam_text.specs.Sheet.{Line, Sheet, strings, expander_number, text}
use Rattle.exam_lines.specs.Lines.{output_for}
use Rattle.exam_answering.specs.Exam.{exam_outcome, answer_space, output}
use Rattle.exam_answering.specs.AnswerText.{heavy_lines, prefix_lines, queried_from, answer_text}
use Rattle.exam_answering.proofs.Exam.{sheet_outcome}
use Rattle.exam_answering.proofs.SameAnswer.{same_answer}
use Rattle.examples.specs.Marked.{Holds, search_of, number_with, output_of, table, s01, s11}
use Rattle.honest.proofs.Counted.{accepted_record, accepted_list}
use Rattle.honest.proofs.Accepting.{listed_number}

-- Naming `keys` on an `unfolding` line opens every definition that a key and a share run through.
unfoldable pub keys : Unit {0}
unfolding xor xor_bytes little from_little window classroom_block control_bit cleared child final payload_of corrected corrected_child seed_correction left_correction right_correction kept_child payload_correction correction key_node key_correction descend corrected_payload share_below node share joined lowest_first level_bit control_byte level_bytes public_share binary_digit read_correction every payloads_below spare_bits_zero field_scheme
keys = tt

-- Naming `calls` opens every definition that the calls and a query run through.
unfoldable pub calls : Unit {0}
unfolding big from_big value pack_in pack digits bits_of unpack spare_zero put_at packs query parts spares_zero is_ascending is_query key_bytes key_outcome sum_where lent_share server_sum share_bytes share_outcome embed
calls = tt

-- Naming `records` opens every definition that a record, a list and a cut string run through.
unfoldable pub records : Unit {0}
unfolding search_record search_list cut
records = tt

-- Naming `answers` opens every definition that an answer runs through.
answers : Unit {0}
unfolding binary decimal_in heavy_lines prefix_lines queried_from answer_text
answers = tt

-- A search row holds where the record and the list of its strings are those of the row.
search_row : (n t : ℕ) (xs : List Bits) (bytes : List ℕ) (ss : List Bits) → honest_record n t xs ≡ bytes → honest_list n t xs ≡ ss
    → Holds (search_of n t xs bytes ss)
search_row n t xs bytes ss record_is list_is s ws honest every bits threshold ok = (
  accepted_record s xs ws honest ok every ∙ ap₂ (λ (m u : ℕ). honest_record m u xs) bits threshold ∙ record_is,
  accepted_list s xs ws honest ok every ∙ ap packs (ap₂ (λ (m u : ℕ). honest_list m u xs) bits threshold ∙ list_is),
)

-- A number row holds where its number is 0 if the record of its strings has the room, and 11 if not.
number_row : (n t : ℕ) (xs : List Bits) (room : ℕ) → 1 ≤ n → n ≤ 256 → 1 ≤ t → t ≤ 65535 → length xs ≤ 65535
    → Holds (number_with n t xs room (cond (ltb room (length (honest_record n t xs))) 11 0))
number_row n t xs room from to least most few s ws honest every bits threshold known area list =
    listed_number s xs ws honest (rw bits from) (rw bits to) (rw threshold least) (either s.weighted (rw threshold most)) known few every (rw (bits, threshold) list)
    ∙ ap₂ (λ (r m : ℕ). cond (ltb r m) 11 0) area (ap₂ (λ (m u : ℕ). length (honest_record m u xs)) bits threshold)
  where
    -- a threshold within its bounds is also one of a weighted search
    either : (b : Bool) {u : ℕ} → u ≤ most_threshold → u ≤ threshold_most b
    either false h = h
    either true h = omega arith

-- An output row holds where n, t and the expander pass, and the answer to one sheet of these strings is that of the row.
output_row : (d : Sheet) (bytes : List ℕ) → outside most_bits d.n ≡ false → outside most_threshold d.t ≡ false → is_expander (expander_number d.expander) ≡ true
    → answer_text d ≡ bytes → length bytes ≤ answer_space → Holds (output_of d.n d.t d.expander (strings d) bytes)
unfolding output
output_row d bytes n-in t-in known answer fits s within same-n same-t same-expander same_strings =
    let same : answer_text s ≡ bytes = same_answer s d same-n same-t same_strings ∙ answer in
    let accepts : exam_outcome (text s) answer_space ≡ accepted bytes =
    sheet_outcome s within answer_space ∙ rw (same, same-n, same-t, same-expander, n-in, t-in, known, le-ltb answer_space (length bytes) fits) in
    ap output_for accepts

-- D's strings in an exam sheet; its seeds do not matter
sheet_d : Sheet
sheet_d =
    let line : Bits → Line = λ s. record { string = s; seed0 = []; seed1 = [] } in
    record { n = 2; t = 2; expander = some 2; lines = line s01 ∷ line s01 ∷ line s11 ∷ [] }

-- Every row of the table holds.
pub sheet : All Holds table
unfolding keys calls records answers sheet_d
sheet =
    -- A, B, C
    refl
    & (refl, refl)
    & (refl, refl)
    -- D
    & search_row 2 2 _ _ _ refl refl
    & refl
    & output_row sheet_d _ refl refl refl refl (omega arith)
    -- E
    & search_row 2 2 _ _ _ refl refl
    & refl
    & number_row 2 2 _ 56 (omega arith) (omega arith) (omega arith) (omega arith) (omega arith)
    -- F
    & search_row 2 2 _ _ _ refl refl
    & refl
    & number_row 2 2 _ 56 (omega arith) (omega arith) (omega arith) (omega arith) (omega arith)
    -- G
    & search_row 1 1 _ _ _ refl refl
    & number_row 1 1 _ 32 (omega arith) (omega arith) (omega arith) (omega arith) (omega arith)
    & number_row 1 1 _ 31 (omega arith) (omega arith) (omega arith) (omega arith) (omega arith)
    -- H
    & (refl, refl, refl)
    & (refl, refl, refl)
    -- I
    & (refl, refl)
    & (refl, refl)
    -- J
    & number_row 2 2 _ 56 (omega arith) (omega arith) (omega arith) (omega arith) (omega arith)
    & number_row 2 2 _ 55 (omega arith) (omega arith) (omega arith) (omega arith) (omega arith)
    & tt
