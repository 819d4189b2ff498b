-- A server's sums for the prefixes of a query, one after the other.
use Prim.Native.Nat.{ℕ, ◌+◌, ◌*◌, ◌≤◌, ◌<◌}
use native.Mathlib.Numerals.{add-one}
use native.Mathlib.Omega.{arith}
use mathlib.Core.Path.{◌≡◌, refl, sym, ap, ◌∙◌}
use mathlib.Core.Bool.{Bool, true}
use mathlib.Core.List.{List, [], ◌++◌, map}
use lib.ListN.{length, get_or, drop, drop_of_length-le}
use lib.Seq.{drop-cons}
use Rattle.bits.specs.Strings.{Bits}
use Rattle.numbers.specs.Numbers.{little, in_bytes}
use Rattle.bits.specs.Packing.{bits_of, unpack}
use Rattle.places.specs.Places.{put_at, overlay}
use Rattle.numbers.proofs.Endian.{little_length}
use Rattle.bits.proofs.Packed.{unpack_length}
use Rattle.places.proofs.Places.{put_at_overlay, Grown, grown_start, grown_more, grown_end}
use Rattle.expander.specs.declared.Expander.{Expander}
use Rattle.point.specs.Evaluation.{bit_of}
use Rattle.query.specs.Query.{prefix_length, prefix_count, prefixes_of, is_query}
use Rattle.query.specs.Prefix.{packed_prefix}
use Rattle.query.proofs.Ready.{prefix_size, prefix_unpack}
use Rattle.report_sums.specs.Reports.{all_count, server_sum}
use Rattle.idpf.specs.Share.{share_bytes}
use Rattle.report_sums.proofs.LentPrefix.{server_sum_unpack}
use Rattle.idpf.proofs.ShareOutcome.{prefixes_length, bytes_length}

module _ (e : Expander) (n : ℕ) (b : Bool) (seeds shares : List ℕ) where
  -- the sum at a prefix
  abbrev pub sum_at : Bits → ℕ
  sum_at q = server_sum e n b seeds shares all_count (bit_of q) (length q)

  -- the sums at all prefixes of a query
  abbrev pub all : List ℕ → List ℕ
  all q = in_bytes (map sum_at (prefixes_of q))

  -- those that are left after i of them
  abbrev pub left : List ℕ → ℕ → List ℕ
  left q i = in_bytes (map sum_at (drop i (prefixes_of q)))

  -- A query that passes.
  module _ (q : List ℕ) (r : is_query n q ≡ true) where
    left_more : (i : ℕ) → i < prefix_count q → left q i ≡ little 8 (sum_at (get_or (prefixes_of q) i [])) ++ left q (i + 1)
    left_more i h =
        let k : i < length (prefixes_of q) = rw (prefixes_length q) h in
        rw (add-one i, drop-cons (prefixes_of q) i [] k)

    sum_next : (i k : ℕ) → i < prefix_count q → k ≡ prefix_length q → server_sum e n b seeds shares all_count (bit_of (bits_of (packed_prefix q i))) k ≡ sum_at (get_or (prefixes_of q) i [])
    sum_next i k h l =
        let size : length (unpack k (packed_prefix q i)) ≡ k = unpack_length k (packed_prefix q i) (rw l (prefix_size n q i r h)) in
        let same : unpack k (packed_prefix q i) ≡ get_or (prefixes_of q) i [] = rw l (prefix_unpack n q i r h) in
        server_sum_unpack e n b seeds shares all_count k (packed_prefix q i)
        ∙ ap (server_sum e n b seeds shares all_count (bit_of (unpack k (packed_prefix q i)))) (sym size)
        ∙ ap sum_at same

    -- Space enough for all of them.
    module _ (d : List ℕ) (room : 8 * prefix_count q ≤ length d) where
      all_room : 0 + length (all q) ≤ length d
      unfolding share_bytes
      all_room = omega (arith, bytes_length n b seeds shares q e)

      pub sums_start : Grown d 0 d (8 * 0) (left q 0) (all q)
      sums_start = grown_start d 0 (all q)

      pub sums_more : (out out' : List ℕ) (i k : ℕ) → i < prefix_count q → k ≡ prefix_length q → Grown d 0 out (8 * i) (left q i) (all q)
          → out' ≡ put_at out (8 * i) (little 8 (server_sum e n b seeds shares all_count (bit_of (bits_of (packed_prefix q i))) k)) → Grown d 0 out' (8 * (i + 1)) (left q (i + 1)) (all q)
      sums_more out out' i k h l g f =
          let x : List ℕ = little 8 (sum_at (get_or (prefixes_of q) i [])) in
          grown_more d 0 out (8 * i) x (left q (i + 1)) (all q) (rw (left_more i h) at g) all_room out' (8 * (i + 1))
          (f ∙ ap (λ (s : ℕ). put_at out (8 * i) (little 8 s)) (sum_next i k h l))
          (omega (arith, little_length 8 (sum_at (get_or (prefixes_of q) i []))))

      pub sums_two : (out out' : List ℕ) (i k : ℕ) → i + 1 < prefix_count q → k ≡ prefix_length q → Grown d 0 out (8 * i) (left q i) (all q)
          → out' ≡ put_at (put_at out (8 * i) (little 8 (server_sum e n b seeds shares all_count (bit_of (bits_of (packed_prefix q i))) k)))
          (8 * (i + 1)) (little 8 (server_sum e n b seeds shares all_count (bit_of (bits_of (packed_prefix q (i + 1)))) k))
          → Grown d 0 out' (8 * (i + 2)) (left q (i + 2)) (all q)
      sums_two out out' i k h l g f =
          let next : i + 1 + 1 ≡ i + 2 = omega arith in
          rw next at (sums_more _ out' (i + 1) k h l (sums_more out _ i k (omega arith) l g refl) f)

      pub sums_end : (out : List ℕ) (i : ℕ) → prefix_count q ≤ i → Grown d 0 out (8 * i) (left q i) (all q) → out ≡ overlay (share_bytes n b seeds shares q e) d
      unfolding share_bytes
      sums_end out i h g =
          let k : length (prefixes_of q) ≤ i = rw (prefixes_length q) h in
          let none : left q i ≡ [] = rw (drop_of_length-le (prefixes_of q) k) in
          grown_end d 0 out (8 * i) (all q) (rw none at g) ∙ put_at_overlay d (all q) (omega (arith, all_room))
