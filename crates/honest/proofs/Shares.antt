-- A server's outcome for honest reports: no cause applies.
use Rattle.std.specs.Prelude.{Option, Some}
use mathlib.Core.Path.{◌≡◌, sym, ap, ◌∙◌}
use mathlib.Core.Bool.{Bool, true, false, not, ◌&&◌}
use mathlib.Core.List.{List, [], map}
use Prim.Native.Nat.{ℕ, ◌+◌, ◌*◌, ◌/◌, ◌%◌, ◌≤◌, ◌<◌}
use native.Mathlib.Nat.{mul-mod_right}
use native.Mathlib.Omega.{arith}
use borrow.Author.Tests.{le-ltb, eq-eqb, leb-true, eqb-true}
use lib.Dec.{leb, eqb}
use lib.ListN.{length, get_or, drop, length-map}
use Rattle.places.specs.Lists.{All}
use Rattle.bits.specs.Strings.{Bits}
use Rattle.bits.specs.Packing.{packed_length, unpack}
use Rattle.bits.proofs.Packed.{unpack_length}
use Rattle.places.proofs.Places.{window_length}
use Rattle.calls.specs.Bounds.{most_reports}
use Rattle.calls.specs.Outcome.{accepted}
use Rattle.calls.proofs.Decisions.{neither_test, in_bounds}
use Rattle.calls.proofs.Judged.{judged_accepted, ◌&◌}
use Rattle.expander.specs.Expander.{choice_of, under}
use Rattle.expander.specs.declared.Expander.{Expander}
use Rattle.expander.proofs.Chosen.{known}
use Rattle.group.specs.Modular.{p}
use Rattle.point.specs.Evaluation.{bit_of}
use Rattle.point.specs.PublicShare.{public_share_length, payloads_below, spare_bits_zero}
use Rattle.point.specs.Totals.{Report, report_public_share}
use Rattle.point.specs.Instance.{scheme}
use Rattle.point.proofs.Joined.{every_true}
use Rattle.query.specs.Query.{limit, prefix_length, prefix_count, packed_prefixes, prefixes_of, spares_zero, is_ascending, is_query}
use Rattle.numbers.specs.Numbers.{in_bytes}
use Rattle.places.proofs.Lists.{and_left, and_right, all_map}
use Rattle.query.proofs.Queries.{parts_length, prefix_at_lem}
use Rattle.report_sums.specs.Reports.{report_count, public_share_at, all_count, server_sum}
use Rattle.report_sums.specs.Checks.{wrong_lengths, payload_too_large, spare_bits_set}
use Rattle.idpf.specs.Share.{share_causes, share_bytes, share_outcome}
use Rattle.honest.proofs.Made.{MadeReport, lent_seeds, lent_shares, sum_at}
use Rattle.honest.proofs.Pieces.{all_at, all_from}
use Rattle.honest.proofs.Keys.{key_passes}
use Rattle.honest.proofs.Sums.{shares_length, shares_number, seeds_length, seeds_number, lent_count, lent_public}

-- of six tests that pass together, the first and the fourth
first_and_fourth : (a b c d e f : Bool) → (a && b && c && d && e && f) ≡ true → (a ≡ true) × (d ≡ true)
first_and_fourth a b c d e f h =
    let four = and_left (a && b && c && d) e (and_left (a && b && c && d && e) f h) in
    (and_left a b (and_left (a && b) c (and_left (a && b && c) d four)), and_right (a && b && c) d four)

-- the prefixes of a query have from 1 to n bits
pub query_prefixes : (n : ℕ) (query : List ℕ) → is_query n query ≡ true → All (λ q. (0 < length q) × (length q ≤ n)) (prefixes_of query)
unfolding is_query
query_prefixes n query asks =
    let len = prefix_length query in
    let m = prefix_count query in
    let tests =
    first_and_fourth (leb len n) (leb 1 m) (leb m limit) (eqb (length query) (6 + m * packed_length len)) (spares_zero len (packed_prefixes query))
    (is_ascending (prefixes_of query)) asks in
    let short : len ≤ n = leb-true len n tests.0 in
    let whole : length query ≡ 6 + m * packed_length len = eqb-true (length query) (6 + m * packed_length len) tests.1 in
    let many : length (prefixes_of query) ≡ m = length-map (packed_prefixes query) (unpack len) ∙ parts_length (packed_length len) m (drop 6 query) in
    all_from (λ q. (0 < length q) × (length q ≤ n)) (prefixes_of query) [] (λ i h.
    let size : length (get_or (prefixes_of query) i []) ≡ len =
    ap length (prefix_at_lem query i whole (omega arith)) ∙ unpack_length len _ (window_length (packed_length len) _ query) in
    (omega arith, omega arith))

-- At most 65,535 honest reports in a search of 1 to 256 bits, and the number of its expander.
module _ (e : Expander) (number : ℕ) (named : choice_of number ≡ Some e) (n : ℕ) (from : 1 ≤ n) (to : n ≤ 256)
    (rs : List (Report ℕ)) (made : All (MadeReport n) rs) (few : length rs ≤ 65535) where
  -- what server b is lent has the right lengths
  pub lent_lengths : (b : Bool) → wrong_lengths n (lent_seeds b rs) (lent_shares e n rs) ≡ false
  lent_lengths b =
      let seeds : length (lent_seeds b rs) % 16 ≡ 0 = omega (arith, seeds_length e n from rs made b) in
      let shares : length (lent_shares e n rs) % public_share_length n ≡ 0 =
      ap (λ (l : ℕ). l % public_share_length n) (shares_length e n from rs made) ∙ mul-mod_right (public_share_length n) (length rs) in
      neither_test (ap not (eq-eqb _ 0 seeds))
      (neither_test (ap not (eq-eqb _ 0 shares)) (ap not (eq-eqb _ _ (seeds_number e n from rs made b ∙ sym (shares_number e n from rs made)))))

  -- a test that every report's public share passes, every lent one does
  lent_pass : (b : Bool) (test : List ℕ → Bool) → All (λ r. test (report_public_share (scheme e) n r) ≡ true) rs → (i : ℕ)
      → i < report_count n (lent_seeds b rs) (lent_shares e n rs) → test (public_share_at n (lent_shares e n rs) i) ≡ true
  lent_pass b test a i h =
      let d : Report ℕ = record { string = []; seed0 = []; seed1 = []; weight = 0 } in
      let l : i < length rs = omega (arith, lent_count e n from rs made b) in
      ap test (lent_public e n from rs made d i l) ∙ all_at (λ r. test (report_public_share (scheme e) n r) ≡ true) rs d i a l

  -- its payload corrections are below p, and its spare bits zero
  pub lent_payloads : (b : Bool) → payload_too_large n (report_count n (lent_seeds b rs) (lent_shares e n rs)) (lent_shares e n rs) ≡ false
  lent_payloads b = ap not (every_true _ _ (lent_pass b (payloads_below p n) (all_map (MadeReport n) _ (λ r h. (key_passes e n r h).1) rs made)))

  pub lent_spares : (b : Bool) → spare_bits_set n (report_count n (lent_seeds b rs) (lent_shares e n rs)) (lent_shares e n rs) ≡ false
  lent_spares b = ap not (every_true _ _ (lent_pass b (spare_bits_zero n) (all_map (MadeReport n) _ (λ r h. (key_passes e n r h).2) rs made)))

  -- For a query and room for 8 bytes a prefix, server b succeeds and writes its sum at each prefix.
  share_accepted : (b : Bool) (query : List ℕ) → is_query n query ≡ true → (room : ℕ) → 8 * prefix_count query ≤ room
      → share_outcome n number b (lent_seeds b rs) (lent_shares e n rs) query room ≡ accepted (in_bytes (map (sum_at e n rs b) (prefixes_of query)))
  unfolding share_outcome share_bytes
  share_accepted b query asks room fits =
      let reports : length (lent_seeds b rs) / 16 ≤ most_reports = omega (arith, seeds_number e n from rs made b) in
      judged_accepted (share_causes n number (lent_seeds b rs) (lent_shares e n rs) query room) _
      (in_bounds 256 n from to & ap not (known number e named) & lent_lengths b & le-ltb most_reports _ reports
      & lent_payloads b & lent_spares b & ap not asks & le-ltb room (8 * prefix_count query) fits & tt)
      ∙ ap (λ (c : Option Expander). accepted (under c (share_bytes n b (lent_seeds b rs) (lent_shares e n rs) query))) named

  -- So it does where it is lent what is equal.
  pub share_lent : (b : Bool) (seeds shares : List ℕ) → seeds ≡ lent_seeds b rs → shares ≡ lent_shares e n rs
      → (query : List ℕ) → is_query n query ≡ true → (room : ℕ) → 8 * prefix_count query ≤ room
      → share_outcome n number b seeds shares query room ≡ accepted (in_bytes (map (λ (q : Bits). server_sum e n b seeds shares all_count (bit_of q) (length q)) (prefixes_of query)))
  share_lent b seeds shares these those query asks room fits = rw (these, those) (share_accepted b query asks room fits)
