-- What callers have of a query that passes, and of each of its prefixes.
use Prim.Native.Nat.{ℕ, ◌+◌, ◌*◌, ◌≤◌, ◌<◌}
use native.Mathlib.Omega.{arith}
use native.Mathlib.Nat.{suc-mul, mul-le-mul_right}
use mathlib.Core.Path.{◌≡◌, refl, sym, ap, ◌∙◌}
use mathlib.Core.Bool.{Bool, true, ◌&&◌}
use mathlib.Core.List.{List, []}
use borrow.Author.Tests.{leb-true, eqb-true}
use lib.ListN.{length, get_or, take, drop}
use lib.Dec.{leb, eqb}
use Rattle.bits.specs.Packing.{packed_length, unpack}
use Rattle.places.proofs.Places.{window_inside}
use Rattle.query.specs.Query.{limit, prefix_length, prefix_count, packed_prefixes, prefixes_of, spares_zero, is_ascending, is_query}
use Rattle.places.proofs.Lists.{and_left, and_right}
use Rattle.query.proofs.Queries.{prefix_at_lem}
use Rattle.query.specs.Prefix.{packed_prefix}
use Rattle.query.proofs.Pieces.{part_size}
use Rattle.query.proofs.Place.{prefix_inside}

-- what follows of bytes that pass as a query for strings of n bits
pub record Ready (n : ℕ) (q : List ℕ) : Type 0 where
  pub some_bits : 1 ≤ prefix_length q
  pub not_longer : prefix_length q ≤ n
  pub some : 1 ≤ prefix_count q
  pub not_more : prefix_count q ≤ limit
  pub whole : length q ≡ 6 + prefix_count q * packed_length (prefix_length q)
  pub no_spares : spares_zero (prefix_length q) (packed_prefixes q) ≡ true
  pub ascending : is_ascending (prefixes_of q) ≡ true

module _ (n : ℕ) (q : List ℕ) where
  abbrev length_fits : Bool
  length_fits = leb (prefix_length q) n

  abbrev not_none : Bool
  not_none = leb 1 (prefix_count q)

  abbrev within_limit : Bool
  within_limit = leb (prefix_count q) limit

  abbrev right_size : Bool
  right_size = eqb (length q) (6 + prefix_count q * packed_length (prefix_length q))

  abbrev spares : Bool
  spares = spares_zero (prefix_length q) (packed_prefixes q)

  pub ready : is_query n q ≡ true → Ready n q
  unfolding is_query
  ready e =
      let h₅ = and_left (length_fits && not_none && within_limit && right_size && spares) (is_ascending (prefixes_of q)) e in
      let h₄ = and_left (length_fits && not_none && within_limit && right_size) spares h₅ in
      let h₃ = and_left (length_fits && not_none && within_limit) right_size h₄ in
      let h₂ = and_left (length_fits && not_none) within_limit h₃ in
      record {
        some_bits = omega arith;
        not_longer = leb-true (prefix_length q) n (and_left length_fits not_none h₂);
        some = leb-true 1 (prefix_count q) (and_right length_fits not_none h₂);
        not_more = leb-true (prefix_count q) limit (and_right (length_fits && not_none) within_limit h₃);
        whole = eqb-true _ _ (and_right (length_fits && not_none && within_limit) right_size h₄);
        no_spares = and_right (length_fits && not_none && within_limit && right_size) spares h₅;
        ascending = and_right (length_fits && not_none && within_limit && right_size && spares) (is_ascending (prefixes_of q)) e;
      }

-- ---- each prefix

module _ (n : ℕ) (q : List ℕ) (i : ℕ) (e : is_query n q ≡ true) (h : i < prefix_count q) where
  abbrev len : ℕ
  len = prefix_length q

  abbrev w : ℕ
  w = packed_length len

  -- it lies within the query
  pub prefix_room : 6 + i * w + w ≤ length q
  prefix_room = omega (arith, (ready n q e).whole, mul-le-mul_right w h, suc-mul i w)

  prefix_part : packed_prefix q i ≡ take w (drop (6 + i * w) q)
  prefix_part = prefix_inside q i len w refl refl prefix_room w refl

  -- it is as many bytes as its bits take
  pub prefix_size : length (packed_prefix q i) ≡ w
  prefix_size = part_size w (6 + i * w) q prefix_room

  -- its bits are entry i of the prefixes
  pub prefix_unpack : unpack len (packed_prefix q i) ≡ get_or (prefixes_of q) i []
  prefix_unpack =
      ap (unpack len) (prefix_part ∙ sym (window_inside w (6 + i * w) q prefix_room)) ∙ sym (prefix_at_lem q i (ready n q e).whole h)
