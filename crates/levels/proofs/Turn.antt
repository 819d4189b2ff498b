-- One level of a search, from what its function requires to what it ensures.
use Prim.Native.Nat.{ℕ, suc, ◌+◌, ◌-◌, ◌*◌, ◌%◌, ◌^◌, ◌≤◌, ◌<◌}
use native.Mathlib.Omega.{arith}
use native.Mathlib.Numerals.{add-one}
use native.Mathlib.Nat.{mul-add}
use mathlib.Core.Path.{◌≡◌, refl, sym, ap, ◌∙◌}
use mathlib.Core.Bool.{Bool, true, false, ◌&&◌}
use mathlib.Core.List.{List, [], ◌∷◌}
use borrow.Author.Tests.{leb-true}
use lib.ListN.{length, drop}
use lib.Dec.{leb}
use Rattle.places.specs.Lists.{select, how_many}
use Rattle.bits.specs.Strings.{Bits}
use Rattle.bits.specs.Packing.{packed_length}
use Rattle.places.specs.Places.{put_at}
use Rattle.places.proofs.Places.{put_at_length}
use Rattle.group.specs.Modular.{p}
use Rattle.group.proofs.Modular.{field_laws}
use Rattle.query.specs.Query.{OfLength, packs, query, parts, children}
use Rattle.tree.specs.SearchRule.{totals, is_kept}
use Rattle.places.proofs.Lists.{and_left, and_right, select_length, number_le}
use Rattle.query.proofs.Children.{children_length, children_longer}
use Rattle.query.proofs.Pieces.{strings_at, strings_length}
use Rattle.query.proofs.Queries.{packs_length}
use Rattle.kept.specs.Kept.{reaches_by}
use Rattle.levels.specs.Levels.{total_in}
use Rattle.levels.specs.declared.Search.{Search}
use Rattle.tree.proofs.Levels.{reaching_at, Packed, Listed, AnsweredBelow}
use Rattle.levels.proofs.Reading.{same_parts, reaching_kept, kept_bits, query_strings, query_packed}
use Rattle.levels.proofs.Below.{last_answered, ended_answered, next_size_lem, next_refused, next_answered}

-- a total is below p, and so fits 8 bytes
total_small : (s : Search) (q : Bits) → total_in s q < 256 ^ 8
total_small s q = let h : total_in s q < p = field_laws.in_add _ _ in omega arith

nothing : (qs : List Bits) → length qs ≡ 0 → qs ≡ []
nothing [] h = refl
nothing (q ∷ qs) h = absurd (omega arith)

-- The level of the query for `count` prefixes of k bits, from place `from` of the area d on, of a search for strings of n bits: the totals stand from
-- `place` on, which makes it d₁, and `kept` of the prefixes are kept.
pub record Totalled (s : Search) (k count from : ℕ) (d : List ℕ) (place : ℕ) (d₁ : List ℕ) (kept : ℕ) : Type 0 where
  pub room_lem : from + count * packed_length k + 8 * count ≤ length d
  pub at : place ≡ from + count * packed_length k
  pub written : d₁ ≡ put_at d place (totals (total_in s) (strings_at k count from d))
  pub counted : kept ≡ how_many (is_kept (reaches_by s.rule) (total_in s)) (strings_at k count from d)

module _ {s : Search} {k count from : ℕ} {d : List ℕ} {place : ℕ} {d₁ : List ℕ} {kept : ℕ} (t : Totalled s k count from d place d₁ kept) (l : List ℕ) where
  abbrev enough : ℕ → Bool
  enough = reaches_by s.rule

  abbrev T : Bits → ℕ
  T = total_in s

  abbrev n : ℕ
  n = s.last + 1

  small : (q : Bits) → T q < 256 ^ 8
  small = total_small s

  room : from + count * packed_length k + 8 * count ≤ length d
  room = t.room_lem

  e : place ≡ from + count * packed_length k
  e = t.at

  f : d₁ ≡ put_at d place (totals T (strings_at k count from d))
  f = t.written

  g : kept ≡ how_many (is_kept enough T) (strings_at k count from d)
  g = t.counted

  abbrev qs : List Bits
  qs = strings_at k count from d

  abbrev ps : List Bits
  ps = select (is_kept enough T) qs

  fits : place + 8 * count ≤ length d
  fits = omega arith

  area_length : length d₁ ≡ length d
  area_length = ap length f ∙ put_at_length d place (totals T qs)

  size : length qs ≡ count
  size = strings_length k count from d

  many : kept ≡ length ps
  many = g ∙ sym (select_length (is_kept enough T) qs)

  reached : reaching_at enough k d₁ count from place ≡ ps
  reached = reaching_kept enough T small k count from place d e fits d₁ f

  bits : OfLength k ps
  bits = kept_bits enough T small k count from place d e fits d₁ f

  -- ---- at length n

  pub list_asked : Packed k (parts (packed_length k) count (drop from d))
      → ((from + count * packed_length k ≤ length d₁) × (place + 8 * count ≤ length d₁) × (kept ≤ count))
      × (Packed k (parts (packed_length k) count (drop from d₁)) × (kept * packed_length k ≡ length (packs (reaching_at enough k d₁ count from place))))
  list_asked p = (
    (omega (arith, area_length), omega (arith, area_length), omega (arith, number_le (is_kept enough T) qs, size)),
    (rw (same_parts enough T small k count from place d e fits d₁ f) p, rw (reached, many) (sym (packs_length k ps bits))),
  )

  pub at_last : k ≡ n → (l' : List ℕ) (how_many record_length list_length : ℕ)
      → Listed (packs (reaching_at enough k d₁ count from place)) l l' (place + 8 * count) how_many record_length list_length
      → AnsweredBelow enough T (n - k) k qs (from + count * packed_length k) d l d₁ l' how_many record_length list_length
  at_last h l' how_many record_length list_length x =
      let z : n - k ≡ 0 = omega arith in
      rw (z, ← e) (last_answered enough T k qs count size place d l fits d₁ f l' how_many record_length list_length (rw reached at x))

  -- ---- where nothing is kept

  pub at_end : kept ≡ 0 → AnsweredBelow enough T (n - k) k qs (from + count * packed_length k) d l d₁ l 0 (place + 8 * count) 0
  at_end h = rw (← e) (ended_answered enough T k qs count size place d l fits d₁ f (n - k) (place + 8 * count) (nothing ps (omega (arith, many))) refl)

  -- ---- the next query

  module _ (below : k < n) (some : kept ≡ 0 → ⊥) (len : ℕ) (whole : len ≡ length d) where
    one_more : n - k ≡ suc (n - (k + 1))
    one_more = omega arith

    pub not_next : (leb kept 65535 && leb (place + 8 * count + (6 + 2 * kept * (packed_length (k + 1) + 8))) len) ≡ false
        → AnsweredBelow enough T (n - k) k qs (from + count * packed_length k) d l d₁ l 11 0 0
    not_next h = rw (one_more, ← e) (next_refused enough T k qs count size place d l fits d₁ f (n - (k + 1)) bits kept many (omega arith) (rw whole at h))

    module _ (yes : (leb kept 65535 && leb (place + 8 * count + (6 + 2 * kept * (packed_length (k + 1) + 8))) len) ≡ true) where
      pub few : kept ≤ 65535
      few = leb-true kept 65535 (and_left (leb kept 65535) _ yes)

      pub next_room : place + 8 * count + (6 + 2 * kept * (packed_length (k + 1) + 8)) ≤ length d
      next_room = rw whole at (leb-true _ len (and_right (leb kept 65535) _ yes))

      -- the query alone finds room
      query_room : place + 8 * count + length (query k (children ps)) ≤ length d₁
      query_room =
          omega (arith, next_room, area_length, next_size_lem enough T k qs count size place d l fits d₁ f (n - (k + 1)) bits kept many (omega arith), mul-add (2 * kept) (packed_length (k + 1)) 8)

      pub next_asked : k ≤ 256
          → ((k ≤ 256) × (from + count * packed_length k ≤ place + 8 * count) × (place + 8 * count ≤ place + 8 * count) × (kept ≤ 65535))
          × ((kept ≡ length (reaching_at enough k d₁ count from place))
          × (place + 8 * count + length (query k (children (reaching_at enough k d₁ count from place))) ≤ length d₁))
      next_asked h = ((h, omega arith, omega arith, few), (rw reached many, rw reached query_room))

      -- d₂ is the area with the next query
      module _ (d₂ : List ℕ) (w : d₂ ≡ put_at d₁ (place + 8 * count) (query k (children (reaching_at enough k d₁ count from place)))) where
        asked : d₂ ≡ put_at d₁ (place + 8 * count) (query k (children ps))
        asked = w ∙ rw reached

        long : OfLength (suc k) (children ps)
        long = children_longer k ps bits

        twice : 2 * kept ≡ length (children ps)
        twice = omega (arith, many, children_length ps)

        next_strings : strings_at (k + 1) (2 * kept) (place + 8 * count + 6) d₂ ≡ children ps
        next_strings = query_strings k (children ps) long d₁ (place + 8 * count) query_room d₂ asked (k + 1) (2 * kept) (add-one k) twice

        pub level_asked : ((k + 1 ≤ n) × (place + 8 * count + 6 + 2 * kept * packed_length (k + 1) + 8 * (2 * kept) ≤ length d₂) × (2 * kept % 2 ≡ 0))
            × Packed (k + 1) (parts (packed_length (k + 1)) (2 * kept) (drop (place + 8 * count + 6) d₂))
        level_asked = (
          (
            omega arith,
            omega (arith, next_room, area_length, ap length asked, put_at_length d₁ (place + 8 * count) (query k (children ps)), mul-add (2 * kept) (packed_length (k + 1)) 8),
            omega arith,
          ),
          query_packed k (children ps) long d₁ (place + 8 * count) query_room d₂ asked (k + 1) (2 * kept) (add-one k) twice,
        )

        pub at_next : (d' l' : List ℕ) (how_many record_length list_length : ℕ)
            → AnsweredBelow enough T (n - (k + 1)) (k + 1) (strings_at (k + 1) (2 * kept) (place + 8 * count + 6) d₂)
            (place + 8 * count + 6 + 2 * kept * packed_length (k + 1)) d₂ l d' l' how_many record_length list_length
            → AnsweredBelow enough T (n - k) k qs (from + count * packed_length k) d l d' l' how_many record_length list_length
        at_next d' l' how_many record_length list_length x =
            rw (one_more, ← e)
            (next_answered enough T k qs count size place d l fits d₁ f (n - (k + 1)) bits kept many (omega arith) few d₂ asked
            (place + 8 * count + 6 + 2 * kept * packed_length (k + 1)) refl d' l' how_many record_length list_length (level x))
          where
            level : AnsweredBelow enough T (n - (k + 1)) (k + 1) (strings_at (k + 1) (2 * kept) (place + 8 * count + 6) d₂)
                (place + 8 * count + 6 + 2 * kept * packed_length (k + 1)) d₂ l d' l' how_many record_length list_length
                → AnsweredBelow enough T (n - (k + 1)) (suc k) (children ps) (place + 8 * count + 6 + 2 * kept * packed_length (k + 1)) d₂ l d' l' how_many record_length list_length
            level y = rw (← add-one k) (rw next_strings at y)
