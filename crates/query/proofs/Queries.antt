-- Queries as bytes: reading gives back what was written, and the check of cause 9 is exact.
use Prim.Native.Nat.{ℕ, zero, suc, ◌+◌, ◌*◌, ◌≤◌, ◌<◌}
use native.Mathlib.Omega.{arith}
use native.Mathlib.Nat.{zero-mul, suc-mul, mul-le-mul_right}
use mathlib.Core.Path.{◌≡◌, refl, sym, ap, ap₂, ◌∙◌}
use mathlib.Core.Logic.{◌↔◌}
use mathlib.Core.Bool.{Bool, true, false, ◌&&◌}
use mathlib.Core.List.{List, [], ◌∷◌, ◌++◌, map}
use borrow.Author.Tests.{leb-true, le-leb, eqb-true, eq-eqb}
use lib.ListN.{length, get_or, take, drop, length-append, length-drop, length-map, take-append-drop}
use lib.Seq.{take_at, drop_at, drop-drop, get_or-drop, length-take-le}
use lib.Dec.{T, leb, eqb}
use Rattle.bits.specs.Strings.{Bits, is_before, Before, Ascending}
use Rattle.places.specs.Places.{Bytes, window}
use Rattle.numbers.specs.Numbers.{big, from_big}
use Rattle.bits.specs.Packing.{packed_length, pack, unpack, spare_zero, bytes_before}
use Rattle.numbers.proofs.Endian.{big_length, from_big_big, big_from_big, from_big_below}
use Rattle.places.proofs.Places.{window_inside, window_bytes}
use Rattle.bits.proofs.Order.{before_transitive, before_pack}
use Rattle.bits.proofs.Packed.{pack_length, unpack_length, unpack_pack, pack_unpack, pack_spare_zero}
use Rattle.query.specs.Query.{OfLength, packs, query, limit, IsQuery, prefix_length, prefix_count, parts, packed_prefixes, prefixes_of, spares_zero, is_ascending, is_query}
use Rattle.places.proofs.Lists.{and_left, and_right, all_map}

-- ---- packed strings, one after the other

pub packs_length : (n : ℕ) (qs : List Bits) → OfLength n qs → length (packs qs) ≡ length qs * packed_length n
unfolding packs
packs_length n [] a = sym (zero-mul (packed_length n))
packs_length n (q ∷ qs) a =
    length-append (pack q) (packs qs)
    ∙ rw (pack_length q, a.0, packs_length n qs a.1, suc-mul) (omega arith)

pub parts_length : (w m : ℕ) (bytes : List ℕ) → length (parts w m bytes) ≡ m
unfolding parts
parts_length w zero bytes = refl
parts_length w (suc m) bytes = ap suc (parts_length w m (drop w bytes))

parts_packs : (n : ℕ) (qs : List Bits) → OfLength n qs → parts (packed_length n) (length qs) (packs qs) ≡ map pack qs
unfolding packs parts
parts_packs n [] a = refl
parts_packs n (q ∷ qs) a =
    let l : length (pack q) ≡ packed_length n = pack_length q ∙ ap packed_length a.0 in
    ap₂ ◌∷◌ (take_at (pack q) (packs qs) (packed_length n) l)
    (ap (parts (packed_length n) (length qs)) (drop_at (pack q) (packs qs) (packed_length n) l) ∙ parts_packs n qs a.1)

unpack_packs : (n : ℕ) (qs : List Bits) → OfLength n qs → map (unpack n) (map pack qs) ≡ qs
unpack_packs n [] a = refl
unpack_packs n (q ∷ qs) a = ap₂ ◌∷◌ (ap (λ m. unpack m (pack q)) (sym a.0) ∙ unpack_pack q) (unpack_packs n qs a.1)

spares_packs : (n : ℕ) (qs : List Bits) → OfLength n qs → spares_zero n (map pack qs) ≡ true
unfolding spares_zero
spares_packs n [] a = refl
spares_packs n (q ∷ qs) a = rw (ap (λ m. spare_zero m (pack q)) (sym a.0) ∙ pack_spare_zero q) (spares_packs n qs a.1)

-- six tests that pass together
and_six : (a b c d e f : Bool) → (a && b && c && d && e && f) ≡ true → (a ≡ true) × (b ≡ true) × (c ≡ true) × (d ≡ true) × (e ≡ true) × (f ≡ true)
and_six a b c d e f h =
    let h₅ = and_left (a && b && c && d && e) f h in
    let h₄ = and_left (a && b && c && d) e h₅ in
    let h₃ = and_left (a && b && c) d h₄ in
    let h₂ = and_left (a && b) c h₃ in (
      and_left a b h₂,
      and_right a b h₂,
      and_right (a && b) c h₃,
      and_right (a && b && c) d h₄,
      and_right (a && b && c && d) e h₅,
      and_right (a && b && c && d && e) f h,
    )

pub drop_byte : (w : ℕ) (bytes : List ℕ) → ((i : ℕ) → get_or bytes i 0 < 256) → (i : ℕ) → get_or (drop w bytes) i 0 < 256
drop_byte w bytes byte i = rw (get_or-drop w bytes i 0) (byte (w + i))

pub take_bytes : (w : ℕ) (bytes : List ℕ) → ((i : ℕ) → get_or bytes i 0 < 256) → w ≤ length bytes → Bytes w (take w bytes)
take_bytes w bytes byte h = let k : 0 + w ≤ length bytes = omega arith in rw (window_inside w 0 bytes k) at (window_bytes w 0 bytes byte)

module _ (n : ℕ) where
  abbrev w : ℕ
  w = packed_length n

  unpack_parts : (m : ℕ) (rest : List ℕ) → length rest ≡ m * w → OfLength n (map (unpack n) (parts w m rest))
  unfolding parts
  unpack_parts zero rest l = tt
  unpack_parts (suc m) rest l =
      let s : suc m * w ≡ m * w + w = suc-mul m w in (
        unpack_length n (take w rest) (length-take-le w rest (omega arith)),
        unpack_parts m (drop w rest) (length-drop w rest ∙ omega arith),
      )

  packs_parts : (m : ℕ) (rest : List ℕ) → ((i : ℕ) → get_or rest i 0 < 256) → length rest ≡ m * w → spares_zero n (parts w m rest) ≡ true
      → packs (map (unpack n) (parts w m rest)) ≡ rest
  unfolding packs parts spares_zero
  packs_parts zero [] byte l z = refl
  packs_parts zero (b ∷ rest) byte l z = absurd (omega (arith, zero-mul w))
  packs_parts (suc m) rest byte l z =
      let s : suc m * w ≡ m * w + w = suc-mul m w in
      ap₂ ◌++◌ (pack_unpack n (take w rest) (take_bytes w rest byte (omega arith)) (and_left (spare_zero n (take w rest)) _ z))
      (packs_parts m (drop w rest) (drop_byte w rest byte) (length-drop w rest ∙ omega arith) (and_right (spare_zero n (take w rest)) _ z))
      ∙ take-append-drop w rest

-- ---- the order

true-T : (b : Bool) → b ≡ true → T b
true-T b e = rw e tt

T_true : (b : Bool) → T b → b ≡ true
T_true true t = refl
T_true false t = absurd t

-- each string stands before the next exactly when it stands before all that follow
pub ascending_test : (ps : List Bits) → (is_ascending ps ≡ true) ↔ Ascending ps
unfolding is_ascending
ascending_test [] = (λ e. tt, λ a. refl)
ascending_test (p ∷ []) = (λ e. (tt, tt), λ a. refl)
ascending_test (p ∷ q ∷ ps) =
    let ih = ascending_test (q ∷ ps) in (
      λ e. let h = true-T (is_before p q) (and_left (is_before p q) _ e) in
          let a = ih.0 (and_right (is_before p q) _ e) in
          ((h, all_map (Before q) (Before p) (λ r k. before_transitive p q r h k) ps a.0), a),
      λ a. rw (T_true (is_before p q) a.0.0) (ih.1 a.1),
    )

-- packed strings of n bits stand in the order of the strings
pub before_unpack : (n : ℕ) (s q : List ℕ) → Bytes (packed_length n) s → Bytes (packed_length n) q → spare_zero n s ≡ true → spare_zero n q ≡ true
    → bytes_before s q ≡ is_before (unpack n s) (unpack n q)
before_unpack n s q bs bq zs zq =
    ap₂ bytes_before (sym (pack_unpack n s bs zs)) (sym (pack_unpack n q bq zq))
    ∙ before_pack (unpack n s) (unpack n q) (unpack_length n s bs.size ∙ sym (unpack_length n q bq.size))

-- ---- reading a query that was written

module _ (k : ℕ) (qs : List Bits) where
  length_6 : length (query k qs) ≡ 6 + length (packs qs)
  unfolding query
  length_6 =
      length-append (big 2 k) (big 4 (length qs) ++ packs qs)
      ∙ rw (length-append (big 4 (length qs)) (packs qs), big_length 2 k, big_length 4 (length qs)) (omega arith)

  drop_2 : drop 2 (query k qs) ≡ big 4 (length qs) ++ packs qs
  unfolding query
  drop_2 = drop_at (big 2 k) (big 4 (length qs) ++ packs qs) 2 (big_length 2 k)

  drop_6 : drop 6 (query k qs) ≡ packs qs
  drop_6 = sym (drop-drop 4 2 (query k qs)) ∙ rw drop_2 (drop_at (big 4 (length qs)) (packs qs) 4 (big_length 4 (length qs)))

  -- the number of bytes of a query
  pub query_length_lem : OfLength (suc k) qs → length (query k qs) ≡ 6 + length qs * packed_length (suc k)
  query_length_lem a = length_6 ∙ ap (λ m. 6 + m) (packs_length (suc k) qs a)

  pub read_length : k < 65536 → prefix_length (query k qs) ≡ suc k
  unfolding query
  read_length h =
      let inside : 0 + 2 ≤ length (query k qs) = omega (arith, length_6) in
      ap (λ s. suc (from_big s)) (window_inside 2 0 (query k qs) inside ∙ take_at (big 2 k) (big 4 (length qs) ++ packs qs) 2 (big_length 2 k))
      ∙ ap suc (from_big_big 2 k h)

  pub read_count : length qs < 4294967296 → prefix_count (query k qs) ≡ length qs
  read_count h =
      let inside : 2 + 4 ≤ length (query k qs) = omega (arith, length_6) in
      ap from_big (window_inside 4 2 (query k qs) inside ∙ ap (take 4) drop_2 ∙ take_at (big 4 (length qs)) (packs qs) 4 (big_length 4 (length qs)))
      ∙ from_big_big 4 (length qs) h

  module _ (short : k < 65536) (few : length qs < 4294967296) (a : OfLength (suc k) qs) where
    read_packed : packed_prefixes (query k qs) ≡ map pack qs
    read_packed = rw (read_length short, read_count few, drop_6) (parts_packs (suc k) qs a)

    pub read_prefixes : prefixes_of (query k qs) ≡ qs
    read_prefixes = rw (read_packed, read_length short) (unpack_packs (suc k) qs a)

    read_spares : spares_zero (prefix_length (query k qs)) (packed_prefixes (query k qs)) ≡ true
    read_spares = rw (read_packed, read_length short) (spares_packs (suc k) qs a)

-- ---- the check is exact

module _ (n : ℕ) (bytes : List ℕ) where
  pub query_passes : IsQuery n bytes → is_query n bytes ≡ true
  unfolding is_query
  query_passes q =
      let k = q.k in
      let qs = q.prefixes in
      let short = q.in_field in
      let few : length qs < 4294967296 = omega (arith, q.not_more) in
      rw (
        q.written,
        read_spares k qs short few q.one_length,
        read_prefixes k qs short few q.one_length,
        read_length k qs short,
        read_count k qs few,
        query_length_lem k qs q.one_length,
        (ascending_test qs).1 q.ascending,
        le-leb (suc k) n q.not_longer,
        le-leb 1 (length qs) q.some,
        le-leb (length qs) limit q.not_more,
      )
      (rw (eq-eqb (6 + length qs * packed_length (suc k)) (6 + length qs * packed_length (suc k)) refl))

  module _ (byte : (i : ℕ) → get_or bytes i 0 < 256) (e : is_query n bytes ≡ true) where
    abbrev len : ℕ
    len = prefix_length bytes

    abbrev m : ℕ
    m = prefix_count bytes

    passed_query : IsQuery n bytes
    unfolding is_query query
    passed_query =
        let t =
        and_six (leb len n) (leb 1 m) (leb m limit) (eqb (length bytes) (6 + m * packed_length len)) (spares_zero len (packed_prefixes bytes))
        (is_ascending (prefixes_of bytes)) e in
        let whole : length bytes ≡ 6 + m * packed_length len = eqb-true (length bytes) (6 + m * packed_length len) t.3 in
        let rest : length (drop 6 bytes) ≡ m * packed_length len = length-drop 6 bytes ∙ omega arith in
        let many : length (prefixes_of bytes) ≡ m = length-map (packed_prefixes bytes) (unpack len) ∙ parts_length (packed_length len) m (drop 6 bytes) in
        let two : window 2 0 bytes ≡ take 2 bytes = window_inside 2 0 bytes (omega arith) in
        let four : window 4 2 bytes ≡ take 4 (drop 2 bytes) = window_inside 4 2 bytes (omega arith) in
        record {
          k = from_big (window 2 0 bytes);
          prefixes = prefixes_of bytes;
          not_longer = leb-true len n t.0;
          in_field = from_big_below 2 (window 2 0 bytes) (window_bytes 2 0 bytes byte);
          one_length = unpack_parts len m (drop 6 bytes) rest;
          some = rw many (leb-true 1 m t.1);
          not_more = rw many (leb-true m limit t.2);
          ascending = (ascending_test (prefixes_of bytes)).0 t.5;
          written =
              sym (take-append-drop 2 bytes)
              ∙ ap₂ ◌++◌ (sym two ∙ sym (big_from_big 2 (window 2 0 bytes) (window_bytes 2 0 bytes byte)))
              (sym (take-append-drop 4 (drop 2 bytes))
              ∙ ap₂ ◌++◌ (sym four ∙ sym (big_from_big 4 (window 4 2 bytes) (window_bytes 4 2 bytes byte)) ∙ ap (big 4) (sym many))
              (drop-drop 4 2 bytes ∙ sym (packs_parts len m (drop 6 bytes) (drop_byte 6 bytes byte) rest t.4)));
        }

  -- bytes pass the check exactly when they are a query for strings of n bits
  pub query_exact : ((i : ℕ) → get_or bytes i 0 < 256) → (is_query n bytes ≡ true) ↔ IsQuery n bytes
  query_exact byte = (passed_query byte, query_passes)

-- ---- one prefix after the other

parts_at : (w m i : ℕ) (bytes : List ℕ) → i < m → get_or (parts w m bytes) i [] ≡ take w (drop (i * w) bytes)
unfolding parts
parts_at w zero i bytes h = absurd (omega arith)
parts_at w (suc m) zero bytes h = rw zero-mul
parts_at w (suc m) (suc i) bytes h =
    let e : w + i * w ≡ suc i * w = omega (arith, suc-mul i w) in
    parts_at w m i (drop w bytes) (omega arith) ∙ ap (take w) (drop-drop (i * w) w bytes ∙ ap (λ j. drop j bytes) e)

map_at : (f : List ℕ → Bits) (l : List (List ℕ)) (i : ℕ) → i < length l → get_or (map f l) i [] ≡ f (get_or l i [])
map_at f [] i h = absurd (omega arith)
map_at f (s ∷ l) zero h = refl
map_at f (s ∷ l) (suc i) h = map_at f l i (omega arith)

-- prefix i of bytes that have the length of a query
pub prefix_at_lem : (bytes : List ℕ) (i : ℕ) → length bytes ≡ 6 + prefix_count bytes * packed_length (prefix_length bytes) → i < prefix_count bytes
    → get_or (prefixes_of bytes) i [] ≡ unpack (prefix_length bytes) (window (packed_length (prefix_length bytes)) (6 + i * packed_length (prefix_length bytes)) bytes)
prefix_at_lem bytes i whole h =
    let len = prefix_length bytes in
    let w = packed_length len in
    let m = prefix_count bytes in
    let inside : 6 + i * w + w ≤ length bytes = omega (arith, mul-le-mul_right w h, suc-mul i w) in
    map_at (unpack len) (packed_prefixes bytes) i (rw (parts_length w m (drop 6 bytes)) h)
    ∙ ap (unpack len) (parts_at w m i (drop 6 bytes) h ∙ ap (take w) (drop-drop (i * w) 6 bytes) ∙ sym (window_inside w (6 + i * w) bytes inside))
