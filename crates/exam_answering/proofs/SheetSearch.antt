-- The search of a sheet's own reports: they are honest, it is accepted, and what is printed of it is the sheet's answer.
use Prim.Native.Nat.{ℕ, ◌*◌, ◌≤◌, ◌<◌}
use native.Mathlib.Nat.{mul-le-mul_left}
use native.Mathlib.Omega.{arith}
use mathlib.Core.Path.{◌≡◌, refl, sym, ap, ap₂, ◌∙◌}
use mathlib.Core.Bool.{true, false}
use mathlib.Core.List.{List, []}
use lib.ListN.{length, get_or, drop, replicate, length-map, length-replicate, get_or-map}
use lib.IntN.{pos}
use Rattle.places.specs.Places.{Bytes}
use Rattle.bits.specs.Packing.{pack}
use Rattle.expander.specs.Expander.{is_expander}
use Rattle.point.specs.PublicShare.{joined, public_share_length}
use Rattle.point.proofs.Joined.{joined_at, joined_byte}
use Rattle.keymaker.specs.Key.{key_outcome}
use Rattle.report_sums.specs.Reports.{seed_at}
use Rattle.tree.specs.SearchRule.{heading_length}
use Rattle.search.specs.Search.{Lent, lent}
use Rattle.search.proofs.Outcome.{named_expander}
use Rattle.honest.specs.Honest.{Accepted, record_read, Honest, key_at}
use Rattle.honest.proofs.Making.{made_honest}
use Rattle.weights.proofs.Ones.{ones, ones_length, ones_every, ones_weights, ones_at}
use Rattle.exam_text.specs.Sheet.{Line, Sheet, strings, expander_number, Within}
use Rattle.exam_text.specs.Reader.{no_line}
use Rattle.exam_text.proofs.Records.{Rounds}
use Rattle.exam_reports.specs.SheetReports.{each_line, public_share_for, seeds0_of, seeds1_of, public_shares_of}
use Rattle.exam_reports.proofs.EachLine.{each_joined}
use Rattle.exam_reports.proofs.PiecesPut.{joined_same}
use Rattle.exam_reports.proofs.SheetSizes.{line_sound, seeds0_size, seeds1_size}
use Rattle.exam_answering.specs.AnswerText.{answer_text}
use Rattle.exam_answering.specs.Printing.{round_length}
use Rattle.exam_answering.specs.SheetSearch.{sheet_search, searched_text, search_text}
use Rattle.exam_answering.proofs.HonestAnswer.{exam_accepted, answer_printed, answer_read_lem}

-- 32 public shares of strings of at most 32 bits take 24,832 bytes
pub shares_room : (n count w : ℕ) → w ≡ public_share_length n → n ≤ 32 → count ≤ 32 → w * count ≤ 24832
shares_room n count w size to few = let most : w * count ≤ w * 32 = mul-le-mul_left w few in omega (arith, most)

-- what is lent to a sheet's search
pub same_lent : (s : Sheet) (n t e : ℕ) (a b c record_area list_area : List ℕ) → n ≡ s.n → t ≡ s.t → e ≡ expander_number s.expander → a ≡ seeds0_of s → b ≡ seeds1_of s
    → c ≡ public_shares_of s → lent n false t e a c b c record_area list_area ≡ sheet_search s record_area list_area
same_lent s n t e a b c record_area list_area p q r x y z = rw (p, q, r, x, y, z)

-- ---- one seed of each line

module _ (seed : Line → List ℕ) (ls : List Line) (sized : (i : ℕ) → i < length ls → Bytes 16 (seed (get_or ls i no_line))) where
  each_byte : (i : ℕ) → get_or (each_line seed ls) i 0 < 256
  each_byte i = rw (each_joined seed ls no_line) (joined_byte (length ls) (λ i. seed (get_or ls i no_line)) (λ i h. (sized i h).byte) i)

  seed_at_lem : (i : ℕ) → i < length ls → seed_at (each_line seed ls) i ≡ seed (get_or ls i no_line)
  seed_at_lem i h = rw (each_joined seed ls no_line) (joined_at 16 (λ i. seed (get_or ls i no_line)) (length ls) i (λ i h. (sized i h).size) h)

-- ---- the search

module _ (s : Sheet) (w : Within s) (from : 1 ≤ s.n) (known : is_expander (expander_number s.expander) ≡ true) (record_area list_area : List ℕ) where
  abbrev search : Lent
  search = sheet_search s record_area list_area

  number : length (strings s) ≡ length s.lines
  number = length-map s.lines (λ l. l.string)

  sized0 : Bytes (16 * length (strings s)) (seeds0_of s)
  sized0 = rw number (record { size = seeds0_size s w; byte = each_byte (λ l. l.seed0) s.lines (λ i h. (line_sound s w i h).sized0) })

  sized1 : Bytes (16 * length (strings s)) (seeds1_of s)
  sized1 = rw number (record { size = seeds1_size s w; byte = each_byte (λ l. l.seed1) s.lines (λ i h. (line_sound s w i h).sized1) })

  -- the public share of line i is what the key maker writes for report i
  share_made : (i : ℕ) → i < length s.lines
      → public_share_for s.n (expander_number s.expander) (get_or s.lines i no_line) ≡ (key_at search (get_or (strings s) i []) (get_or (ones (strings s)) i (pos 0)) i).written
  share_made i h =
      let e = expander_number s.expander in
      let seed0 = seed_at_lem (λ l. l.seed0) s.lines (λ i h. (line_sound s w i h).sized0) i h in
      let seed1 = seed_at_lem (λ l. l.seed1) s.lines (λ i h. (line_sound s w i h).sized1) i h in
      ap₂ (λ (a b : List ℕ). (key_outcome s.n e (pos 1) (pack (get_or s.lines i no_line).string) a b (public_share_length s.n)).written) (sym seed0) (sym seed1)
      ∙ ap₂ (λ x v. (key_at search x v i).written) (sym (get_or-map (λ (l : Line). l.string) s.lines i no_line))
      (sym (ones_at (strings s) i (omega (arith, h, number))))

  shares_made : public_shares_of s ≡ joined (length (strings s)) (λ i. (key_at search (get_or (strings s) i []) (get_or (ones (strings s)) i (pos 0)) i).written)
  shares_made =
      each_joined (public_share_for s.n (expander_number s.expander)) s.lines no_line
      ∙ joined_same (length s.lines) (λ i. public_share_for s.n (expander_number s.expander) (get_or s.lines i no_line)) _ share_made
      ∙ ap (λ (m : ℕ). joined m (λ i. (key_at search (get_or (strings s) i []) (get_or (ones (strings s)) i (pos 0)) i).written)) (sym number)

  pub sheet_honest : Honest search (strings s) (ones (strings s))
  sheet_honest =
      let named = named_expander (expander_number s.expander) known in
      made_honest search (strings s) (ones (strings s)) w.n_bits sized0 sized1 named.0 named.1 from (omega (arith, w.n_most))
      (ones_length (strings s)) (ones_weights (strings s)) (λ e. ones_every (strings s)) shares_made shares_made

  module _ (least : 1 ≤ s.t) (most : s.t ≤ 65535) (area : length record_area ≡ 19382) (list : length list_area ≡ 128) where
    pub sheet_accepted : Accepted search
    sheet_accepted = exam_accepted search (strings s) (ones (strings s)) sheet_honest refl from w.n_most least most known (omega (arith, number, w.lines_at_most)) area list

    pub sheet_printed : searched_text s record_area list_area ≡ answer_text s
    sheet_printed = answer_printed search s (ones (strings s)) sheet_honest (ones_every (strings s)) refl refl sheet_accepted

    pub sheet_rounds : Rounds round_length s.n (drop heading_length (record_read search))
    sheet_rounds = answer_read_lem search s (ones (strings s)) sheet_honest (ones_every (strings s)) refl refl sheet_accepted

-- In the exam's own areas.
pub search_answer : (s : Sheet) → Within s → 1 ≤ s.n → is_expander (expander_number s.expander) ≡ true → 1 ≤ s.t → s.t ≤ 65535 → search_text s ≡ answer_text s
search_answer s w from known least most =
    sheet_printed s w from known (replicate 19382 0) (replicate 128 0) least most (length-replicate {A = ℕ} 19382 0) (length-replicate {A = ℕ} 128 0)
