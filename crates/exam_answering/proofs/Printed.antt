-- What is printed of a record and of a list of the search rule are the lines of that rule.
use Prim.Native.Nat.{ℕ, zero, suc, ◌+◌, ◌/◌, ◌^◌, ◌≤◌, ◌<◌}
use native.Mathlib.Omega.{arith}
use native.Mathlib.Nat.{mul-div_cancel}
use mathlib.Core.Path.{◌≡◌, refl, sym, ap, ap₂, ◌∙◌}
use mathlib.Core.Bool.{Bool, true, false}
use mathlib.Core.List.{List, [], ◌∷◌, ◌++◌, append_assoc}
use mathlib.Core.Logic.{inl, inr}
use borrow.Author.Tests.{leb-true, ne_eqb}
use lib.ListN.{length, take, drop}
use lib.Seq.{take_at, drop_at}
use lib.Dec.{leb, eqb}
use Rattle.places.specs.Lists.{select}
use Rattle.bits.specs.Strings.{Bits, count}
use Rattle.numbers.specs.Numbers.{little, from_little}
use Rattle.bits.specs.Packing.{packed_length, pack, unpack}
use Rattle.numbers.proofs.Endian.{little_length, from_little_little}
use Rattle.bits.proofs.Packed.{pack_length, unpack_pack}
use Rattle.kept.specs.Kept.{reaches}
use Rattle.query.specs.Query.{OfLength, packs, query, limit, children}
use Rattle.tree.specs.SearchRule.{start, totals, fits_from, record_from, heading, heading_length, is_kept, search_record, search_list, search_fits}
use Rattle.places.proofs.Lists.{and_left, and_right}
use Rattle.query.proofs.Children.{children_longer, kept_longer}
use Rattle.tree.proofs.Steps.{record_nothing}
use Rattle.query.proofs.Queries.{packs_length}
use Rattle.tree.proofs.Kept.{list_length_lem}
use Rattle.tree.proofs.Lengths.{heading_length_lem}
use Rattle.tree.proofs.Totals.{count_le, honest_fits_lem}
use Rattle.exam_text.specs.Sheet.{Sheet, strings}
use Rattle.exam_lines.specs.Lines.{prefix_line, heavy_line}
use Rattle.exam_answering.specs.AnswerText.{heavy_lines, prefix_lines, queried_from, answer_text}
use Rattle.exam_text.proofs.Records.{Rounds}
use Rattle.exam_answering.specs.Printing.{entry_lines, rounds_lines, list_lines, printed, round_length}
use Rattle.exam_answering.proofs.Rounds.{round_prefix_length, round_count, round_prefixes, round_totals, round_rest, round_inside, round_long}

-- ---- one string of many, packed one after the other

unpack_first : (n : ℕ) (s : Bits) (rest : List ℕ) → length s ≡ n → unpack n (take (packed_length n) (pack s ++ rest)) ≡ s
unpack_first n s rest l =
    ap (unpack n) (take_at (pack s) rest (packed_length n) (pack_length s ∙ ap packed_length l)) ∙ ap (λ m. unpack m (pack s)) (sym l) ∙ unpack_pack s

drop_first : (n : ℕ) (s : Bits) (rest : List ℕ) → length s ≡ n → drop (packed_length n) (pack s ++ rest) ≡ rest
drop_first n s rest l = drop_at (pack s) rest (packed_length n) (pack_length s ∙ ap packed_length l)

-- ---- a query and its totals

module _ (T : Bits → ℕ) (small : (q : Bits) → T q < 256 ^ 8) where
  total_first : (q : Bits) (rest : List ℕ) → from_little (take 8 (little 8 (T q) ++ rest)) ≡ T q
  total_first q rest = ap from_little (take_at (little 8 (T q)) rest 8 (little_length 8 (T q))) ∙ from_little_little 8 (T q) (small q)

  entries_printed : (n : ℕ) (qs : List Bits) (x y : List ℕ) → OfLength n qs → entry_lines n (length qs) (packs qs ++ x) (totals T qs ++ y) ≡ prefix_lines T qs
  unfolding entry_lines prefix_lines packs
  entries_printed n [] x y a = refl
  entries_printed n (q ∷ qs) x y a =
      let prefixes = append_assoc (pack q) (packs qs) x in
      let numbers = append_assoc (little 8 (T q)) (totals T qs) y in
      let line = ap₂ prefix_line (ap (λ l. unpack n (take (packed_length n) l)) prefixes ∙ unpack_first n q (packs qs ++ x) a.0)
      (ap (λ l. from_little (take 8 l)) numbers ∙ total_first q (totals T qs ++ y)) in
      let others = ap₂ (entry_lines n (length qs)) (ap (drop (packed_length n)) prefixes ∙ drop_first n q (packs qs ++ x) a.0)
      (ap (drop 8) numbers ∙ drop_at (little 8 (T q)) (totals T qs ++ y) 8 (little_length 8 (T q))) in
      ap₂ ◌++◌ line (others ∙ entries_printed n qs x y a.1)

  -- the lines of a query with its totals, and then those of the rest
  round_printed : (m k : ℕ) (qs : List Bits) (rest : List ℕ) → k < 65536 → length qs < 4294967296 → OfLength (suc k) qs
      → rounds_lines (suc m) ((query k qs ++ totals T qs) ++ rest) ≡ prefix_lines T qs ++ rounds_lines m rest
  unfolding rounds_lines
  round_printed m k qs rest short few a =
      let bytes = (query k qs ++ totals T qs) ++ rest in
      let some : eqb (length bytes) 0 ≡ false = ne_eqb (length bytes) 0 (λ e. omega (arith, round_long T k qs rest short few a)) in
      rw (
        some,
        round_totals T k qs rest short few a,
        round_rest T k qs rest short few a,
        round_prefixes T k qs rest short few a,
        round_count T k qs rest short few a,
        round_prefix_length T k qs rest short few a,
      )
      (ap (λ lines. lines ++ rounds_lines m rest) (entries_printed (suc k) qs (totals T qs ++ rest) rest a))

-- ---- a record

none_printed : (m : ℕ) → rounds_lines m [] ≡ []
unfolding rounds_lines
none_printed zero = refl
none_printed (suc m) = refl

-- The lines of prefixes and then of others are the lines of all of them.
pub lines_append : (T : Bits → ℕ) (ps qs : List Bits) → prefix_lines T (ps ++ qs) ≡ prefix_lines T ps ++ prefix_lines T qs
unfolding prefix_lines
lines_append T [] qs = refl
lines_append T (p ∷ ps) qs =
    ap (λ lines. prefix_line p (T p) ++ lines) (lines_append T ps qs) ∙ sym (append_assoc (prefix_line p (T p)) (prefix_lines T ps) (prefix_lines T qs))

module _ (keeps : Bits → Bool) (T : Bits → ℕ) where
  nothing_queried : (m : ℕ) → queried_from keeps m [] ≡ []
  unfolding queried_from
  nothing_queried zero = refl
  nothing_queried (suc m) = nothing_queried m

  lines_nothing : (m : ℕ) → prefix_lines T (queried_from keeps m []) ≡ []
  unfolding prefix_lines
  lines_nothing m = ap (prefix_lines T) (nothing_queried m)

  few_asked : (m : ℕ) (ps : List Bits) → fits_from keeps (suc m) ps ≡ true → length (children ps) < 4294967296
  few_asked m ps fits =
      let most : length (children ps) ≤ limit = leb-true (length (children ps)) limit (and_left (leb (length (children ps)) limit) _ fits) in
      omega arith

  fits_below : (m : ℕ) (ps : List Bits) → fits_from keeps (suc m) ps ≡ true → fits_from keeps m (select keeps (children ps)) ≡ true
  fits_below m ps fits = and_right (leb (length (children ps)) limit) _ fits

  -- The lines of a record of m levels below prefixes of k bits are those of the rule.
  pub record_printed : ((q : Bits) → T q < 256 ^ 8) → (m k : ℕ) (ps : List Bits) → OfLength k ps → k + m ≤ 256 → fits_from keeps m ps ≡ true
      → rounds_lines m (record_from keeps T m k ps) ≡ prefix_lines T (queried_from keeps m ps)
  unfolding queried_from prefix_lines
  record_printed small zero k ps a l fits = none_printed zero
  record_printed small (suc m) k [] a l fits = ap (rounds_lines (suc m)) (record_nothing keeps T (suc m) k) ∙ none_printed (suc m) ∙ sym (lines_nothing (suc m))
  record_printed small (suc m) k (p ∷ ps) a l fits =
      let qs = children (p ∷ ps) in
      let rest = record_from keeps T m (suc k) (select keeps qs) in
      round_printed T small m k qs rest (omega arith) (few_asked m (p ∷ ps) fits) (children_longer k (p ∷ ps) a)
      ∙ ap (λ lines. prefix_lines T qs ++ lines)
      (record_printed small m (suc k) (select keeps qs) (kept_longer keeps k (p ∷ ps) a) (omega arith) (fits_below m (p ∷ ps) fits))
      ∙ sym (lines_append T qs (queried_from keeps m (select keeps qs)))

  -- Such a record is at most m queries, each followed by its totals.
  pub record_rounds : (m k : ℕ) (ps : List Bits) → OfLength k ps → k + m ≤ 256 → fits_from keeps m ps ≡ true → Rounds round_length m (record_from keeps T m k ps)
  record_rounds zero k ps a l fits = refl
  record_rounds (suc m) k [] a l fits = rw (record_nothing keeps T m (suc k)) (inl refl)
  record_rounds (suc m) k (p ∷ ps) a l fits =
      let qs = children (p ∷ ps) in
      let rest = record_from keeps T m (suc k) (select keeps qs) in
      let short : k < 65536 = omega arith in
      let few = few_asked m (p ∷ ps) fits in
      let b = children_longer k (p ∷ ps) a in
      let ih = record_rounds m (suc k) (select keeps qs) (kept_longer keeps k (p ∷ ps) a) (omega arith) (fits_below m (p ∷ ps) fits) in
      let bound : suc k ≤ 256 = omega arith in
      inr (
        rw (round_prefix_length T k qs rest short few b) bound,
        round_inside T k qs rest short few b,
        rw (round_rest T k qs rest short few b) ih,
      )

-- ---- a list

-- The lines of packed strings of n bits are those of the strings.
pub list_printed : (n : ℕ) (ss : List Bits) → OfLength n ss → list_lines n (length ss) (packs ss) ≡ heavy_lines ss
unfolding list_lines heavy_lines packs
list_printed n [] a = refl
list_printed n (s ∷ ss) a =
    ap₂ ◌++◌ (ap heavy_line (unpack_first n s (packs ss) a.0))
    (ap (list_lines n (length ss)) (drop_first n s (packs ss) a.0) ∙ list_printed n ss a.1)

-- So many are in the list.
pub list_count : (n : ℕ) (ss : List Bits) → OfLength n ss → 1 ≤ n → length (packs ss) / packed_length n ≡ length ss
list_count n ss a some =
    let wide : 0 < packed_length n = omega arith in
    ap (λ m. m / packed_length n) (packs_length n ss a) ∙ mul-div_cancel (length ss) wide

-- ---- the answer

module _ (s : Sheet) (all : OfLength s.n (strings s)) (from : 1 ≤ s.n) (to : s.n ≤ 256) (some : 1 ≤ s.t) (most : length (strings s) ≤ 65535) where
  small : (q : Bits) → count (strings s) q < 256 ^ 8
  small q = omega (arith, count_le (strings s) q)

  fits : fits_from (is_kept (reaches s.t) (count (strings s))) s.n start ≡ true
  unfolding search_fits
  fits = honest_fits_lem s.n s.t (strings s) all some most

  -- behind the number of reports stand the queries with their totals
  behind : (C : ℕ) → let T = count (strings s) in let keeps = is_kept (reaches s.t) T in
      drop heading_length (search_record (reaches s.t) T C s.n) ≡ record_from keeps T s.n 0 start
  unfolding search_record
  behind C = drop_at (heading C) _ heading_length (heading_length_lem C)

  -- What is printed of the record and of the list of a sheet's strings is the sheet's answer.
  pub printed_answer : (C : ℕ) → printed s.n (search_record (reaches s.t) (count (strings s)) C s.n) (packs (search_list (reaches s.t) (count (strings s)) s.n)) ≡ answer_text s
  unfolding printed answer_text
  printed_answer C =
      let ss = search_list (reaches s.t) (count (strings s)) s.n in
      let bits = list_length_lem (reaches s.t) (count (strings s)) s.n in
      ap₂ ◌++◌
      (ap (rounds_lines s.n) (behind C)
      ∙ record_printed (is_kept (reaches s.t) (count (strings s))) (count (strings s)) small s.n 0 start (refl, tt) (omega arith) fits)
      (ap (λ c. list_lines s.n c (packs ss)) (list_count s.n ss bits from) ∙ list_printed s.n ss bits)

  -- That record is, behind the number of reports, at most n queries, each followed by its totals.
  pub answer_rounds : (C : ℕ) → Rounds round_length s.n (drop heading_length (search_record (reaches s.t) (count (strings s)) C s.n))
  answer_rounds C =
      rw (behind C) (record_rounds (is_kept (reaches s.t) (count (strings s))) (count (strings s)) s.n 0 start (refl, tt) (omega arith) fits)
