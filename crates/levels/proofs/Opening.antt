-- The number of reports and the first query, and the whole search from them.
use Prim.Native.Nat.{ℕ, suc, ◌+◌, ◌-◌, ◌*◌, ◌%◌, ◌≤◌, ◌<◌}
use native.Mathlib.Omega.{arith}
use mathlib.Core.Path.{◌≡◌, refl, sym, ap, ap₂, ◌∙◌}
use mathlib.Core.Bool.{Bool}
use mathlib.Core.List.{List, [], ◌∷◌, ◌++◌, append_assoc}
use mathlib.Core.Logic.{inl, inr, ⊎_elim}
use lib.ListN.{length, drop, length-append}
use Rattle.places.specs.Lists.{select}
use Rattle.bits.specs.Strings.{Bits}
use Rattle.numbers.specs.Numbers.{big}
use Rattle.bits.specs.Packing.{packed_length, value, pack_in, pack}
use Rattle.places.specs.Places.{put_at}
use Rattle.places.proofs.Places.{put_at_length, put_at_more}
use Rattle.query.specs.Query.{packs, query, parts, children}
use Rattle.tree.specs.SearchRule.{start, totals, kept_from, fits_from, record_from, heading, heading_length, is_kept}
use Rattle.tree.proofs.Lengths.{totals_length, heading_length_lem}
use Rattle.tree.proofs.Levels.{Packed, Fits, Written, record_left, list_left, queries_left, AnsweredBelow, AnsweredAll}
use Rattle.query.proofs.Pieces.{strings_at}
use Rattle.levels.proofs.Reading.{query_strings, query_packed}
use Rattle.levels.proofs.Below.{level_next}

-- the first query's prefixes
abbrev cs : List Bits
cs = children start

-- its bytes
pub first_bytes : query 0 cs ≡ 0 ∷ 0 ∷ 0 ∷ 0 ∷ 0 ∷ 2 ∷ 0 ∷ 128 ∷ []
unfolding query big packs pack pack_in value
first_bytes = refl

first_size : length (query 0 cs) ≡ 8
first_size = ap length first_bytes

module _ (enough : ℕ → Bool) (T : Bits → ℕ) (C n : ℕ) (some : 1 ≤ n) (d l : List ℕ) where
  -- what a whole search writes
  abbrev whole : List ℕ
  whole = heading C ++ record_from (is_kept enough T) T n 0 start

  abbrev strings : List ℕ
  strings = packs (kept_from (is_kept enough T) n start)

  abbrev within : Bool
  within = fits_from (is_kept enough T) n start

  -- the number of reports and the first query
  abbrev begun : List ℕ
  begun = heading C ++ query 0 cs

  -- what is left after the first query
  abbrev rest : List ℕ
  rest = record_left enough T (n - 1) 1 cs

  one_more : n ≡ suc (n - 1)
  one_more = omega arith

  begun_size : length begun ≡ 16
  begun_size = length-append (heading C) (query 0 cs) ∙ omega (arith, heading_length_lem C, first_size)

  whole_rest : whole ≡ begun ++ rest
  whole_rest =
      ap (λ (r : List ℕ). heading C ++ r) (ap (λ (m : ℕ). record_from (is_kept enough T) T m 0 start) one_more ∙ level_next enough T (n - 1) 0 start (omega arith))
      ∙ sym (append_assoc (heading C) (query 0 cs) rest)

  same_strings : strings ≡ list_left enough T (n - 1) cs
  same_strings = ap (λ (m : ℕ). packs (kept_from (is_kept enough T) m start)) one_more

  same_within : within ≡ queries_left enough T (n - 1) cs
  same_within = ap (λ (m : ℕ). fits_from (is_kept enough T) m start) one_more

  whole_length : length whole ≡ 16 + length rest
  whole_length = ap length whole_rest ∙ length-append begun rest ∙ ap (λ (m : ℕ). m + length rest) begun_size

  -- the area does not hold the number of reports, the first query and its totals
  pub first_refused : length d < 32 → AnsweredAll enough T C n d l d l 11 0 0
  first_refused h =
      inr (
        refl,
        record {
          no_room_lem = λ x. let r : 0 + length whole ≤ length d = x.record_room in
              omega (arith, whole_length, length-append (totals T cs) (record_from (is_kept enough T) T (n - 1) 1 (select (is_kept enough T) cs)), totals_length T cs);
          no_record = refl;
          no_list = refl;
          record_area_lem = refl;
          list_area_lem = refl;
        },
      )

  -- or it does, and d₁ is the area with the number of reports and the first query
  module _ (room : 32 ≤ length d) (d₁ : List ℕ) (f : d₁ ≡ put_at (put_at d 0 (heading C)) heading_length (query 0 cs)) where
    -- the area with the number of reports alone
    abbrev d₀ : List ℕ
    d₀ = put_at d 0 (heading C)

    d₀_length : length d₀ ≡ length d
    d₀_length = put_at_length d 0 (heading C)

    area_length : length d₁ ≡ length d
    area_length = ap length f ∙ put_at_length d₀ heading_length (query 0 cs) ∙ d₀_length

    query_room : heading_length + length (query 0 cs) ≤ length d₀
    query_room = omega (arith, first_size, d₀_length)

    both_put : d₁ ≡ put_at d 0 begun
    both_put =
        let place : heading_length ≡ 0 + length (heading C) = omega (arith, heading_length_lem C) in
        let r : 0 + length (heading C) + length (query 0 cs) ≤ length d = omega (arith, heading_length_lem C, first_size) in
        f ∙ ap (λ (i : ℕ). put_at d₀ i (query 0 cs)) place ∙ put_at_more d 0 (heading C) (query 0 cs) r

    pub first_asked : ((1 ≤ n) × (14 + 2 * packed_length 1 + 8 * 2 ≤ length d₁) × (◌≡◌ {A = ℕ} (2 % 2) 0)) × Packed 1 (parts (packed_length 1) 2 (drop 14 d₁))
    first_asked = ((some, omega (arith, area_length), refl), query_packed 0 cs (refl, (refl, tt)) d₀ heading_length query_room d₁ f 1 2 refl refl)

    first_strings : strings_at 1 2 14 d₁ ≡ cs
    first_strings = query_strings 0 cs (refl, (refl, tt)) d₀ heading_length query_room d₁ f 1 2 refl refl

    module _ (d' l' : List ℕ) (number record_length list_length : ℕ) where
      fits_all : Fits rest (list_left enough T (n - 1) cs) (queries_left enough T (n - 1) cs) 16 d₁ l → Fits whole strings within 0 d l
      fits_all x =
          let r : 16 + length rest ≤ length d₁ = x.record_room in
          record { record_room = omega (arith, whole_length, area_length); list_room_lem = rw same_strings x.list_room_lem; queries = same_within ∙ x.queries }

      fits_rest : Fits whole strings within 0 d l → Fits rest (list_left enough T (n - 1) cs) (queries_left enough T (n - 1) cs) 16 d₁ l
      fits_rest x =
          let r : 0 + length whole ≤ length d = x.record_room in
          record { record_room = omega (arith, whole_length, area_length); list_room_lem = rw (← same_strings) x.list_room_lem; queries = sym same_within ∙ x.queries }

      written_all : Fits rest (list_left enough T (n - 1) cs) (queries_left enough T (n - 1) cs) 16 d₁ l
          → Written rest (list_left enough T (n - 1) cs) 16 d₁ l d' l' record_length list_length → Written whole strings 0 d l d' l' record_length list_length
      written_all x y =
          let r : 16 + length rest ≤ length d₁ = x.record_room in
          let q : 0 + length begun + length rest ≤ length d = omega (arith, area_length, begun_size) in
          let e : 16 ≡ 0 + length begun = omega (arith, begun_size) in
          record {
            record_end_lem = omega (arith, y.record_end_lem, whole_length);
            list_end_lem = y.list_end_lem ∙ ap length (sym same_strings);
            record_area_lem =
                y.record_area_lem ∙ ap₂ (λ (o : List ℕ) (i : ℕ). put_at o i rest) both_put e ∙ put_at_more d 0 begun rest q ∙ ap (put_at d 0) (sym whole_rest);
            list_area_lem = y.list_area_lem ∙ ap (put_at l 0) (sym same_strings);
          }

      pub first_answered : AnsweredBelow enough T (n - 1) 1 (strings_at 1 2 14 d₁) (14 + 2 * packed_length 1) d₁ l d' l' number record_length list_length
          → AnsweredAll enough T C n d l d' l' number record_length list_length
      first_answered a = go (rw first_strings at a)
        where
          go : AnsweredBelow enough T (n - 1) 1 cs 16 d₁ l d' l' number record_length list_length → AnsweredAll enough T C n d l d' l' number record_length list_length
          go =
              ⊎_elim (λ x. inl (x.0, fits_all x.1, written_all x.1 x.2))
              (λ x. inr (
                x.0,
                record {
                  no_room_lem = λ y. x.1.no_room_lem (fits_rest y);
                  no_record = x.1.no_record;
                  no_list = x.1.no_list;
                  record_area_lem = x.1.record_area_lem ∙ area_length;
                  list_area_lem = x.1.list_area_lem;
                },
              ))
