-- A record that begins with a query and its totals: what is read of it, and what is left behind them.
use Prim.Native.Nat.{ℕ, suc, ◌+◌, ◌*◌, ◌≤◌, ◌<◌}
use native.Mathlib.Omega.{arith}
use mathlib.Core.Path.{◌≡◌, refl, sym, ap, ap₂, ◌∙◌}
use mathlib.Core.List.{List, ◌++◌, append_assoc}
use lib.ListN.{length, take, drop, length-append, length-drop}
use lib.Seq.{take-append-le, drop-append-le, drop_at}
use Rattle.bits.specs.Strings.{Bits}
use Rattle.numbers.specs.Numbers.{big, from_big}
use Rattle.places.specs.Places.{window}
use Rattle.numbers.proofs.Endian.{big_length}
use Rattle.places.proofs.Places.{window_inside}
use Rattle.query.specs.Query.{OfLength, packs, query, prefix_length, prefix_count}
use Rattle.tree.specs.SearchRule.{totals}
use Rattle.query.proofs.Queries.{query_length_lem, read_length, read_count}
use Rattle.tree.proofs.Lengths.{totals_length}
use Rattle.exam_answering.specs.Printing.{query_length, round_length}

-- what stands within the first part is read of it alone
window_first : (n at : ℕ) (l rest : List ℕ) → at + n ≤ length l → window n at (l ++ rest) ≡ window n at l
window_first n at l rest h =
    let inside : at + n ≤ length (l ++ rest) = omega (arith, length-append l rest) in
    let left : n ≤ length (drop at l) = omega (arith, length-drop at l) in
    window_inside n at (l ++ rest) inside
    ∙ ap (take n) (drop-append-le at l rest (omega arith))
    ∙ take-append-le n (drop at l) rest left
    ∙ sym (window_inside n at l h)

-- the prefixes of a query stand behind its first 6 bytes
query_behind : (k : ℕ) (qs : List Bits) → drop 6 (query k qs) ≡ packs qs
unfolding query
query_behind k qs =
    let fields = big 2 k ++ big 4 (length qs) in
    let six : length fields ≡ 6 = length-append (big 2 k) (big 4 (length qs)) ∙ ap₂ ◌+◌ (big_length 2 k) (big_length 4 (length qs)) in
    ap (drop 6) (sym (append_assoc (big 2 k) (big 4 (length qs)) (packs qs))) ∙ drop_at fields (packs qs) 6 six

module _ (T : Bits → ℕ) (k : ℕ) (qs : List Bits) (rest : List ℕ) (short : k < 65536) (few : length qs < 4294967296) (a : OfLength (suc k) qs) where
  -- the record: a query, its totals, and the rest
  abbrev pub round : List ℕ
  round = (query k qs ++ totals T qs) ++ rest

  round_parts : round ≡ query k qs ++ (totals T qs ++ rest)
  round_parts = append_assoc (query k qs) (totals T qs) rest

  query_long : 6 ≤ length (query k qs)
  query_long = omega (arith, query_length_lem k qs a)

  pub round_prefix_length : prefix_length round ≡ suc k
  round_prefix_length =
      ap prefix_length round_parts
      ∙ ap (λ s. suc (from_big s)) (window_first 2 0 (query k qs) (totals T qs ++ rest) (omega (arith, query_long)))
      ∙ read_length k qs short

  pub round_count : prefix_count round ≡ length qs
  round_count =
      ap prefix_count round_parts ∙ ap from_big (window_first 4 2 (query k qs) (totals T qs ++ rest) query_long) ∙ read_count k qs few

  pub round_prefixes : drop 6 round ≡ packs qs ++ (totals T qs ++ rest)
  round_prefixes =
      ap (drop 6) round_parts
      ∙ drop-append-le 6 (query k qs) (totals T qs ++ rest) query_long
      ∙ ap (λ l. l ++ (totals T qs ++ rest)) (query_behind k qs)

  query_whole : query_length round ≡ length (query k qs)
  query_whole = rw (round_count, round_prefix_length) (sym (query_length_lem k qs a))

  round_whole : round_length round ≡ length (query k qs ++ totals T qs)
  round_whole =
      ap₂ (λ l m. l + m * 8) query_whole round_count
      ∙ omega (arith, length-append (query k qs) (totals T qs), totals_length T qs)

  pub round_totals : drop (query_length round) round ≡ totals T qs ++ rest
  round_totals = ap₂ drop query_whole round_parts ∙ drop_at (query k qs) (totals T qs ++ rest) (length (query k qs)) refl

  pub round_rest : drop (round_length round) round ≡ rest
  round_rest = ap (λ m. drop m round) round_whole ∙ drop_at (query k qs ++ totals T qs) rest (length (query k qs ++ totals T qs)) refl

  pub round_inside : round_length round ≤ length round
  round_inside = rw round_whole (omega (arith, length-append (query k qs ++ totals T qs) rest))

  pub round_long : 6 ≤ length round
  round_long = omega (arith, query_long, length-append (query k qs ++ totals T qs) rest, length-append (query k qs) (totals T qs))
