-- The lines of a record and of a list, one after the other: how a loop over them goes on.
use Prim.Native.Nat.{ℕ, zero, suc, ◌+◌, ◌-◌, ◌*◌, ◌/◌, ◌%◌, ◌≤◌, ◌<◌}
use native.Mathlib.Nat.{suc-mul}
use native.Mathlib.Omega.{arith}
use mathlib.Core.Path.{◌≡◌, refl}
use mathlib.Core.List.{List, [], ◌++◌}
use mathlib.Core.Logic.{inl, inr}
use borrow.Author.Tests.{eq-eqb, ne_eqb}
use lib.ListN.{length, take, drop, length-append, length-drop}
use lib.Seq.{take_all, take_at, drop_at, drop-drop}
use Rattle.std.proofs.lemmas.Nat.{div-add-mod', div-mul-add}
use Rattle.numbers.specs.Numbers.{from_little}
use Rattle.bits.specs.Packing.{packed_length, unpack}
use Rattle.query.specs.Query.{prefix_length, prefix_count}
use Rattle.exam_lines.specs.Lines.{prefix_line, heavy_line}
use Rattle.exam_text.proofs.Records.{Rounds}
use Rattle.exam_answering.specs.Printing.{entry_lines, query_length, round_length, rounds_lines, list_lines}

-- ---- the prefixes of a round

pub entries_none : (k m : ℕ) (ps ts : List ℕ) → m ≤ 0 → entry_lines k m ps ts ≡ []
unfolding entry_lines
entries_none k zero ps ts h = refl
entries_none k (suc m) ps ts h = absurd (omega arith)

pub entries_step : (k w m from place : ℕ) (bytes : List ℕ) → w ≡ packed_length k → 0 < m
    → entry_lines k m (drop from bytes) (drop place bytes)
    ≡ prefix_line (unpack k (take w (drop from bytes))) (from_little (take 8 (drop place bytes))) ++ entry_lines k (m - 1) (drop (from + w) bytes) (drop (place + 8) bytes)
unfolding entry_lines
entries_step k w zero from place bytes e h = absurd (omega arith)
entries_step k w (suc m) from place bytes e h =
    let f : suc m - 1 ≡ m = omega arith in
    rw (e, f, drop-drop (packed_length k) from bytes, drop-drop 8 place bytes)

-- ---- the strings of a list

pub list_none : (n m : ℕ) (bytes : List ℕ) → m ≤ 0 → list_lines n m bytes ≡ []
unfolding list_lines
list_none n zero bytes h = refl
list_none n (suc m) bytes h = absurd (omega arith)

-- one string more
next_count : (w m : ℕ) → 0 < w → (w + m) / w ≡ suc (m / w)
next_count w m p =
    let e : w + m ≡ suc (m / w) * w + m % w = omega (arith, div-add-mod' m w, suc-mul (m / w) w) in
    rw e (div-mul-add (suc (m / w)) w (m % w) (omega arith))

pub list_next : (n : ℕ) (x rest : List ℕ) → 0 < packed_length n → length x ≡ packed_length n
    → list_lines n (length (x ++ rest) / packed_length n) (x ++ rest) ≡ heavy_line (unpack n x) ++ list_lines n (length rest / packed_length n) rest
unfolding list_lines
list_next n x rest p e =
    rw (length-append x rest, e, next_count (packed_length n) (length rest) p, take_at x rest (packed_length n) e, drop_at x rest (packed_length n) e)

-- ---- the rounds of a record

-- the lines of the round with which a record begins
abbrev pub round_lines : List ℕ → List ℕ
round_lines bytes = entry_lines (prefix_length bytes) (prefix_count bytes) (drop 6 bytes) (drop (query_length bytes) bytes)

module _ (bytes : List ℕ) (k count totals : ℕ) (e : k ≡ prefix_length bytes) (f : count ≡ prefix_count bytes) (g : totals ≡ query_length bytes) where
  pub round_lines_lem : entry_lines k count (drop 6 bytes) (drop totals bytes) ≡ round_lines bytes
  round_lines_lem = rw (e, f, g)

  -- its prefixes and its totals lie within
  pub round_room : round_length bytes ≤ length bytes → (6 + count * packed_length k ≤ length bytes) × (totals + count * 8 ≤ length bytes)
  round_room r = rw (e, f, g) (omega arith, r)

pub record_none : (m : ℕ) (bytes : List ℕ) → m ≤ 0 → rounds_lines m bytes ≡ []
unfolding rounds_lines
record_none zero bytes h = refl
record_none (suc m) bytes h = absurd (omega arith)

pub record_end_lem : (m : ℕ) (bytes : List ℕ) → length bytes ≡ 0 → rounds_lines m bytes ≡ []
unfolding rounds_lines
record_end_lem zero bytes h = refl
record_end_lem (suc m) bytes h = rw (eq-eqb (length bytes) 0 h)

-- what stands from a place on
pub rest_of : (from : ℕ) (bytes : List ℕ) → take (length bytes - from) (drop from bytes) ≡ drop from bytes
rest_of from bytes = take_all (length bytes - from) (drop from bytes) (omega (arith, length-drop from bytes))

-- a record that is not at its end has a round, and the others after it
some : (bytes : List ℕ) → 0 < length bytes → length bytes ≡ 0 → ⊥
some bytes inside e = omega arith

pub record_step : (m size : ℕ) (bytes : List ℕ) → size ≡ round_length bytes → 0 < m → 0 < length bytes
    → rounds_lines m bytes ≡ round_lines bytes ++ rounds_lines (m - 1) (drop size bytes)
unfolding rounds_lines
record_step zero size bytes e h inside = absurd (omega arith)
record_step (suc m) size bytes e h inside =
    let f : suc m - 1 ≡ m = omega arith in
    rw (e, ne_eqb (length bytes) 0 (some bytes inside), f)

pub rounds_step : (m size : ℕ) (bytes : List ℕ) → size ≡ round_length bytes → 0 < m → 0 < length bytes → Rounds round_length m bytes
    → (round_length bytes ≤ length bytes) × Rounds round_length (m - 1) (drop size bytes)
rounds_step zero size bytes e h inside r = absurd (omega arith)
rounds_step (suc m) size bytes e h inside (inl z) = absurd (some bytes inside z)
rounds_step (suc m) size bytes e h inside (inr r) =
    let f : suc m - 1 ≡ m = omega arith in
    (r.1, rw (e, f) r.2)
