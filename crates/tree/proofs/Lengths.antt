-- Lengths in bytes of what a search writes, and space that is enough.
use Prim.Native.Nat.{ℕ, zero, suc, ◌+◌, ◌*◌, ◌/◌, ◌^◌, ◌≤◌, min}
use native.Mathlib.Omega.{arith}
use native.Mathlib.Nat.{suc-mul, mul-le-mul, mul-le-mul_right, min-le_left, min-le_right, le-min, le_trans, pow-succ'}
use mathlib.Core.Path.{◌≡◌, refl, ap₂, ◌∙◌}
use mathlib.Core.Bool.{Bool}
use mathlib.Core.List.{List, [], ◌∷◌, map}
use lib.ListN.{length, length-append, length-map}
use Rattle.places.specs.Lists.{select}
use Rattle.bits.specs.Strings.{Bits, count}
use Rattle.bits.specs.Packing.{packed_length}
use Rattle.numbers.proofs.Endian.{in_bytes_length, big_length}
use Rattle.kept.specs.Kept.{reaches}
use Rattle.query.specs.Query.{OfLength, packs, query, children}
use Rattle.tree.specs.SearchRule.{start, totals, level, record_from, heading, heading_length, is_kept, search_record, search_list}
use Rattle.tree.specs.Cut.{honest_record, honest_list}
use Rattle.tree.specs.Space.{level_length, space_from, record_space, list_space}
use Rattle.places.proofs.Lists.{select_length, number_le}
use Rattle.query.proofs.Children.{children_length, children_longer, kept_longer}
use Rattle.query.proofs.Queries.{packs_length, query_length_lem}
use Rattle.tree.proofs.Kept.{list_length_lem}
use Rattle.tree.proofs.Totals.{Held, heavy_held, Stands, stands_start, stands_kept, stands_few, kept_few}

-- ---- any totals

pub totals_length : (T : Bits → ℕ) (qs : List Bits) → length (totals T qs) ≡ 8 * length qs
totals_length T qs = in_bytes_length (map T qs) ∙ rw (length-map qs T)

-- What a level adds to the record.
pub level_length_lem : (T : Bits → ℕ) (k : ℕ) (qs : List Bits) → OfLength (suc k) qs → length (level T k qs) ≡ level_length k (length qs)
unfolding level_length
level_length_lem T k [] a = refl
level_length_lem T k (q ∷ qs) a =
    length-append (query k (q ∷ qs)) (totals T (q ∷ qs)) ∙ omega (arith, query_length_lem k (q ∷ qs) a, totals_length T (q ∷ qs))

pub heading_length_lem : (C : ℕ) → length (heading C) ≡ heading_length
heading_length_lem C = big_length 8 C

module _ (keeps : Bits → Bool) where
  -- what m levels below the prefixes ps of k bits add to the record
  abbrev pub length_from : ℕ → ℕ → List Bits → ℕ
  length_from zero k ps = 0
  length_from (suc m) k ps = level_length k (length (children ps)) + length_from m (suc k) (select keeps (children ps))

  pub record_from_length : (T : Bits → ℕ) (m k : ℕ) (ps : List Bits) → OfLength k ps → length (record_from keeps T m k ps) ≡ length_from m k ps
  record_from_length T zero k ps a = refl
  record_from_length T (suc m) k ps a =
      length-append (level T k (children ps)) (record_from keeps T m (suc k) (select keeps (children ps)))
      ∙ ap₂ ◌+◌ (level_length_lem T k (children ps) (children_longer k ps a))
      (record_from_length T m (suc k) (select keeps (children ps)) (kept_longer keeps k ps a))

module _ (reaches : ℕ → Bool) (T : Bits → ℕ) where
  -- The number of bytes of a record.
  pub record_length_lem : (C n : ℕ) → length (search_record reaches T C n) ≡ heading_length + length_from (is_kept reaches T) n 0 start
  unfolding search_record
  record_length_lem C n =
      length-append (heading C) (record_from (is_kept reaches T) T n 0 start)
      ∙ ap₂ ◌+◌ (heading_length_lem C) (record_from_length (is_kept reaches T) T n 0 start (refl, tt))

  -- The number of bytes of a list.
  pub list_bytes_lem : (n : ℕ) → length (packs (search_list reaches T n)) ≡ length (search_list reaches T n) * packed_length n
  list_bytes_lem n = packs_length n (search_list reaches T n) (list_length_lem reaches T n)

-- ---- honest totals

level_grows : (k c d : ℕ) → c ≤ d → level_length k c ≤ level_length k d
unfolding level_length
level_grows k zero d h = omega arith
level_grows k (suc c) zero h = absurd (omega arith)
level_grows k (suc c) (suc d) h = omega (arith, mul-le-mul_right (packed_length (suc k) + 8) h)

-- Strings of n bits, and a test that keeps only prefixes that at least h of them have.
module _ (keeps : Bits → Bool) (h n : ℕ) (xs : List Bits) (all : OfLength n xs) (held : Held keeps h xs n) (pos : 1 ≤ h) where
  abbrev w : ℕ
  w = length xs / h

  space_from_lem : (m k : ℕ) (ps : List Bits) → Stands keeps xs k ps → k + m ≤ n → length ps ≤ w → length ps ≤ 2 ^ k → length_from keeps m k ps ≤ space_from w m k
  unfolding space_from
  space_from_lem zero k ps a l few least = omega arith
  space_from_lem (suc m) k ps a l few least =
      let kept = select keeps (children ps) in
      let v = stands_kept keeps h n xs all held k ps a (omega arith) in
      let two : length (children ps) ≤ 2 ^ suc k = omega (arith, children_length ps, pow-succ' 2 k) in
      let most : length (children ps) ≤ 2 * w = omega (arith, children_length ps) in
      let less : length kept ≤ 2 ^ suc k = omega (arith, select_length keeps (children ps), number_le keeps (children ps)) in
      let ih = space_from_lem m (suc k) kept v (omega arith) (stands_few keeps h n xs all held pos k (omega arith) kept v) less in
      omega (arith, ih, level_grows k (length (children ps)) (min (2 ^ suc k) (2 * w)) (le-min two most))

  enough_record_space : (m : ℕ) → m ≤ n → length_from keeps m 0 start + heading_length ≤ record_space m h (length xs)
  unfolding record_space
  enough_record_space zero l = omega arith
  enough_record_space (suc m) l =
      let kept = select keeps (children start) in
      let v = stands_kept keeps h n xs all held 0 start (stands_start keeps xs) (omega arith) in
      let less : length kept ≤ 2 ^ 1 = omega (arith, select_length keeps (children start), number_le keeps (children start)) in
      omega (arith, space_from_lem m 1 kept v (omega arith) (stands_few keeps h n xs all held pos 0 (omega arith) kept v) less)

-- A search over such strings, where at least h have each kept prefix.
module _ (enough : ℕ → Bool) (T : Bits → ℕ) (h n : ℕ) (xs : List Bits) (all : OfLength n xs) (held : Held (is_kept enough T) h xs n) (pos : 1 ≤ h) where
  -- Its record fits its space.
  pub held_record_space : (C : ℕ) → length (search_record enough T C n) ≤ record_space n h (length xs)
  held_record_space C = omega (arith, record_length_lem enough T C n, enough_record_space (is_kept enough T) h n xs all held pos n (omega arith))

  -- Its list fits its space.
  pub held_list_space : 1 ≤ n → length (packs (search_list enough T n)) ≤ list_space n h (length xs)
  unfolding list_space search_list
  held_list_space some = rw (list_bytes_lem enough T n) (mul-le-mul_right (packed_length n) (few n (omega arith) some))
    where
      few : (m : ℕ) → m ≤ n → 1 ≤ m → length (search_list enough T m) ≤ length xs / h
      few zero l some = absurd (omega arith)
      few (suc m) l some = kept_few (is_kept enough T) h n xs all held pos m l

-- The record of an honest search fits its space.
pub honest_record_space : (n t : ℕ) (xs : List Bits) → OfLength n xs → 1 ≤ t → length (honest_record n t xs) ≤ record_space n t (length xs)
honest_record_space n t xs all pos = held_record_space (reaches t) (count xs) t n xs all (heavy_held t xs n) pos (length xs)

-- The list of an honest search fits its space.
pub honest_list_space : (n t : ℕ) (xs : List Bits) → OfLength n xs → 1 ≤ t → 1 ≤ n → length (packs (honest_list n t xs)) ≤ list_space n t (length xs)
honest_list_space n t xs all pos = held_list_space (reaches t) (count xs) t n xs all (heavy_held t xs n) pos

-- ---- space grows

space_grows : (v w m n k : ℕ) → v ≤ w → m ≤ n → space_from v m k ≤ space_from w n k
unfolding space_from
space_grows v w zero n k h l = omega arith
space_grows v w (suc m) zero k h l = absurd (omega arith)
space_grows v w (suc m) (suc n) k h l =
    let two : 2 * v ≤ 2 * w = omega arith in
    let most = le-min (min-le_left (2 ^ suc k) (2 * v)) (le_trans (min-le_right (2 ^ suc k) (2 * v)) two) in
    omega (arith, level_grows k (min (2 ^ suc k) (2 * v)) (min (2 ^ suc k) (2 * w)) most, space_grows v w m n (suc k) h (omega arith))

-- Longer strings and more kept prefixes take no less space.
pub record_space_grows : (m n t C u D : ℕ) → m ≤ n → C / t ≤ D / u → record_space m t C ≤ record_space n u D
unfolding record_space
record_space_grows zero zero t C u D h l = omega arith
record_space_grows zero (suc n) t C u D h l = omega arith
record_space_grows (suc m) zero t C u D h l = absurd (omega arith)
record_space_grows (suc m) (suc n) t C u D h l = omega (arith, space_grows (C / t) (D / u) m n 1 l (omega arith))

-- ---- the same by one product

space_product : (w m k n : ℕ) → k + m ≤ n → space_from w m k ≤ m * (6 + 2 * w * (packed_length n + 8))
unfolding space_from level_length
space_product w zero k n l = omega arith
space_product w (suc m) k n l =
    let c = min (2 ^ suc k) (2 * w) in
    let wide : packed_length (suc k) + 8 ≤ packed_length n + 8 = omega arith in
    omega (arith, level_most k c, mul-le-mul (min-le_right (2 ^ suc k) (2 * w)) wide, space_product w m (suc k) n (omega arith), suc-mul m (6 + 2 * w * (packed_length n + 8)))
  where
    level_most : (k c : ℕ) → level_length k c ≤ 6 + c * (packed_length (suc k) + 8)
    level_most k zero = omega arith
    level_most k (suc c) = omega arith

-- The record of an honest search takes 8 bytes for the number of reports, 24 for the first query with its totals, and at most 6 + 2 × (C / t) × (⌈n ÷ 8⌉ + 8)
-- for each later one.
pub record_space_product : (n t C : ℕ) → record_space (suc n) t C ≤ heading_length + (24 + n * (6 + 2 * (C / t) * (packed_length (suc n) + 8)))
unfolding record_space level_length
record_space_product n t C = omega (arith, space_product (C / t) n 1 (suc n) (omega arith))
