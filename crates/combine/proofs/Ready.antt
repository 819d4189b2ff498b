-- What follows where no cause of what is lent applies.
use Prim.Native.Nat.{ℕ, suc, ◌+◌, ◌*◌, ◌≤◌, ◌<◌}
use native.Mathlib.Omega.{arith}
use mathlib.Core.Path.{◌≡◌, sym, ◌∙◌}
use mathlib.Core.Bool.{Bool, true, false, not}
use mathlib.Core.List.{List}
use borrow.Author.Tests.{eqb-true, not-false}
use lib.ListN.{length, get_or}
use lib.Dec.{eqb}
use Rattle.places.specs.Lists.{how_many}
use Rattle.bits.specs.Packing.{packed_length}
use Rattle.calls.specs.Bounds.{most_bits}
use Rattle.calls.specs.Causes.{number_due}
use Rattle.calls.proofs.Decisions.{neither, bounds}
use Rattle.calls.proofs.Judged.{Clear, number_clear, threshold_numbered}
use Rattle.group.specs.Modular.{field}
use Rattle.kept.proofs.Kept.{kept_all, kept_length}
use Rattle.query.specs.Query.{OfLength, packs, query, is_query, prefix_length, prefix_count, prefixes_of, children}
use Rattle.query.proofs.Pieces as pieces
use Rattle.query.proofs.Children.{children_length, children_longer}
use Rattle.query.proofs.Queries.{packs_length, query_length_lem, query_exact, read_length, read_prefixes}
use Rattle.shares.specs.ShareNumbers.{numbers, unmatched}
use Rattle.shares.proofs.Numbers.{added_length, numbers_length}
use Rattle.shares.proofs.Matching.{matched}
use Rattle.combine.specs.Combine.{share_totals, passing, lent_causes}

-- The query passes, and each share has a number for each prefix.
pub record Ready (n : ℕ) (weighted : Bool) (t : ℕ) (q s0 s1 : List ℕ) : Type 0 where
  pub some_bits : 1 ≤ n
  pub not_longer : n ≤ 256
  pub clear : Clear (lent_causes n weighted t q s0 s1)
  pub a_query_lem : is_query n q ≡ true
  pub first : length s0 ≡ 8 * prefix_count q
  pub second : length s1 ≡ 8 * prefix_count q

module _ (n : ℕ) (weighted : Bool) (t : ℕ) (q s0 s1 : List ℕ) where
  pub clear_ready : Clear (lent_causes n weighted t q s0 s1) → Ready n weighted t q s0 s1
  clear_ready z =
      let inside = bounds most_bits n z.0 in
      let passes : is_query n q ≡ true = not-false (is_query n q) z.1.1.1.1.0 in
      let l = neither (unmatched s0 s1) _ z.1.1.0 in
      let other : not (eqb (length s0) (8 * prefix_count q)) ≡ false = rw passes at l.1 in
      let counted : length s0 ≡ 8 * prefix_count q = eqb-true (length s0) (8 * prefix_count q) (not-false _ other) in
      record {
        some_bits = inside.0;
        not_longer = inside.1;
        clear = z;
        a_query_lem = passes;
        first = counted;
        second = sym (matched s0 s1 l.0).0 ∙ counted;
      }

  pub ready : number_due (lent_causes n weighted t q s0 s1) ≡ 0 → Ready n weighted t q s0 s1
  ready h = clear_ready (number_clear (lent_causes n weighted t q s0 s1) (omega arith, (threshold_numbered weighted, (omega arith, (omega arith, (omega arith, tt))))) h)

-- ---- the kept prefixes

prefixes_length : (q : List ℕ) → length (prefixes_of q) ≡ prefix_count q
prefixes_length q = pieces.strings_length (prefix_length q) (prefix_count q) 6 q

-- the prefixes of a query that passes have its prefix length
pub prefixes_long : (n : ℕ) (q : List ℕ) → ((i : ℕ) → get_or q i 0 < 256) → is_query n q ≡ true → OfLength (prefix_length q) (prefixes_of q)
prefixes_long n q byte e =
    let is = (query_exact n q byte).0 e in
    rw (
      is.written,
      read_prefixes is.k is.prefixes is.in_field (omega (arith, is.not_more)) is.one_length,
      read_length is.k is.prefixes is.in_field,
    ) is.one_length

module _ (n : ℕ) (weighted : Bool) (t : ℕ) (q s0 s1 : List ℕ) (byte : (i : ℕ) → get_or q i 0 < 256) (r : Ready n weighted t q s0 s1) (passes : ℕ → Bool) where
  pub kept_long : OfLength (prefix_length q) (passing passes q s0 s1)
  kept_long = kept_all passes _ (prefixes_of q) (share_totals s0 s1) (prefixes_long n q byte r.a_query_lem)

  module _ (m : ℕ) (e : m ≡ how_many passes (share_totals s0 s1)) where
    pub kept_count : length (passing passes q s0 s1) ≡ m
    kept_count =
        let l : length (numbers s0) ≡ length (numbers s1) = omega (arith, numbers_length s0, numbers_length s1, r.first, r.second) in
        kept_length passes (prefixes_of q) (share_totals s0 s1)
        (omega (arith, prefixes_length q, added_length field (numbers s0) (numbers s1) l, numbers_length s0, r.first)) ∙ sym e

    -- the bytes of the list
    pub list_size_lem : length (packs (passing passes q s0 s1)) ≡ m * packed_length (prefix_length q)
    list_size_lem = packs_length (prefix_length q) (passing passes q s0 s1) kept_long ∙ rw kept_count

    pub next_count : length (children (passing passes q s0 s1)) ≡ 2 * m
    next_count = children_length (passing passes q s0 s1) ∙ rw kept_count

    next_long : OfLength (suc (prefix_length q)) (children (passing passes q s0 s1))
    next_long = children_longer (prefix_length q) (passing passes q s0 s1) kept_long

    -- the bytes of the next query, and of its prefixes alone
    pub next_size_lem : length (query (prefix_length q) (children (passing passes q s0 s1))) ≡ 6 + 2 * m * packed_length (suc (prefix_length q))
    next_size_lem = query_length_lem (prefix_length q) (children (passing passes q s0 s1)) next_long ∙ rw next_count

    pub children_size : length (packs (children (passing passes q s0 s1))) ≡ 2 * m * packed_length (suc (prefix_length q))
    children_size = packs_length (suc (prefix_length q)) (children (passing passes q s0 s1)) next_long ∙ rw next_count
