-- One level of a search and those below it, as bytes in the record area: words for the contracts of the functions that write them.
use Prim.Native.Nat.{ℕ, ◌+◌, ◌≤◌, ◌<◌}
use mathlib.Core.Path.{◌≡◌}
use mathlib.Core.Bool.{Bool, true}
use mathlib.Core.List.{List, ◌++◌}
use mathlib.Core.Logic.{◌⊎◌}
use lib.ListN.{length}
use Rattle.places.specs.Lists.{All, select}
use Rattle.bits.specs.Strings.{Bits}
use Rattle.bits.specs.Packing.{pack, unpack}
use Rattle.places.specs.Places.{put_at}
use Rattle.query.specs.Query.{packs}
use Rattle.query.proofs.Pieces.{numbers_at}
use Rattle.kept.proofs.Onward.{kept_at}
use Rattle.tree.specs.SearchRule.{start, totals, kept_from, fits_from, record_from, heading, is_kept}

-- ---- one level

-- of m strings of k bits each from place `from` on, those whose numbers, from `place` on, pass
abbrev pub reaching_at : (ℕ → Bool) → ℕ → List ℕ → ℕ → ℕ → ℕ → List Bits
reaching_at passes k bytes m from place = kept_at passes k bytes m from (numbers_at m place bytes)

-- each of these is what packing gives for its first k bits
abbrev pub Packed : ℕ → List (List ℕ) → Type 0
Packed k ss = All (λ s. pack (unpack k s) ≡ s) ss

-- The list of the strings, packed, is written and the number is 0; or it does not fit its area, and the number is 11.
abbrev pub Listed : List ℕ → List ℕ → List ℕ → ℕ → ℕ → ℕ → ℕ → Type 0
Listed strings list_area list_after end number record_length list_length =
    ((number ≡ 0) × (length strings ≤ length list_area) × (record_length ≡ end) × (list_length ≡ length strings) × (list_after ≡ put_at list_area 0 strings))
    ⊎ ((number ≡ 11) × (length list_area < length strings) × (record_length ≡ 0) × (list_length ≡ 0) × (list_after ≡ list_area))

-- ---- what is to be written, and how that ends

-- The bytes fit the record area from a place on, the strings, packed, fit the list area, and no query passes the limit.
pub record Fits (bytes strings : List ℕ) (within : Bool) (place : ℕ) (record_area list_area : List ℕ) : Type 0 where
  pub record_room : place + length bytes ≤ length record_area
  pub list_room_lem : length strings ≤ length list_area
  pub queries : within ≡ true

-- Both are written: the lengths and the two areas.
pub record Written (bytes strings : List ℕ) (place : ℕ) (record_area list_area record_after list_after : List ℕ) (record_length list_length : ℕ) : Type 0 where
  pub record_end_lem : record_length ≡ place + length bytes
  pub list_end_lem : list_length ≡ length strings
  pub record_area_lem : record_after ≡ put_at record_area place bytes
  pub list_area_lem : list_after ≡ put_at list_area 0 strings

-- They do not fit: the lengths are 0 and the list area is as it was.
pub record Refused (bytes strings : List ℕ) (within : Bool) (place : ℕ) (record_area list_area record_after list_after : List ℕ) (record_length list_length : ℕ) : Type 0 where
  pub no_room_lem : Fits bytes strings within place record_area list_area → ⊥
  pub no_record : record_length ≡ 0
  pub no_list : list_length ≡ 0
  pub record_area_lem : length record_after ≡ length record_area
  pub list_area_lem : list_after ≡ list_area

-- One of the two, with its number.
abbrev pub Answered : List ℕ → List ℕ → Bool → ℕ → List ℕ → List ℕ → List ℕ → List ℕ → ℕ → ℕ → ℕ → Type 0
Answered bytes strings within place record_area list_area record_after list_after number record_length list_length =
    ((number ≡ 0) × Fits bytes strings within place record_area list_area × Written bytes strings place record_area list_area record_after list_after record_length list_length)
    ⊎ ((number ≡ 11) × Refused bytes strings within place record_area list_area record_after list_after record_length list_length)

-- ---- this level and those below it

-- A search that has written its query for the prefixes qs, of k bits each, and has m levels to go below them.
module _ (enough : ℕ → Bool) (T : Bits → ℕ) where
  -- what the record is yet to get
  abbrev pub record_left : ℕ → ℕ → List Bits → List ℕ
  record_left m k qs = totals T qs ++ record_from (is_kept enough T) T m k (select (is_kept enough T) qs)

  -- what the list is to get
  abbrev pub list_left : ℕ → List Bits → List ℕ
  list_left m qs = packs (kept_from (is_kept enough T) m (select (is_kept enough T) qs))

  -- whether the queries to come are within the limit
  abbrev pub queries_left : ℕ → List Bits → Bool
  queries_left m qs = fits_from (is_kept enough T) m (select (is_kept enough T) qs)

  -- how it ends
  abbrev pub AnsweredBelow : ℕ → ℕ → List Bits → ℕ → List ℕ → List ℕ → List ℕ → List ℕ → ℕ → ℕ → ℕ → Type 0
  AnsweredBelow m k qs = Answered (record_left m k qs) (list_left m qs) (queries_left m qs)

  -- how a whole search over C reports for strings of n bits ends
  abbrev pub AnsweredAll : ℕ → ℕ → List ℕ → List ℕ → List ℕ → List ℕ → ℕ → ℕ → ℕ → Type 0
  AnsweredAll C n =
      Answered (heading C ++ record_from (is_kept enough T) T n 0 start) (packs (kept_from (is_kept enough T) n start)) (fits_from (is_kept enough T) n start) 0
