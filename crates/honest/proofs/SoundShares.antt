-- Whatever reports were lent, if no cause before 11 applies to the search: both servers succeed for each query, and write their sums.
use Rattle.std.specs.Prelude.{Option, Some, None}
use mathlib.Core.Path.{◌≡◌, sym, ap, ◌∙◌}
use mathlib.Core.Bool.{Bool, true, false, cond, not}
use mathlib.Core.List.{List}
use Prim.Native.Nat.{ℕ, zero, suc, ◌*◌, ◌/◌, ◌%◌, ◌≤◌, ◌<◌}
use native.Mathlib.Nat.{mul-mod_right, mul-div_right, mod-lt}
use native.Mathlib.Omega.{arith}
use borrow.Author.Tests.{le-ltb, eq-eqb}
use lib.ListN.{length}
use Rattle.bits.specs.Strings.{Bits}
use Rattle.calls.specs.Bounds.{most_reports}
use Rattle.calls.specs.Outcome.{accepted}
use Rattle.calls.proofs.Decisions.{neither_test, in_bounds}
use Rattle.calls.proofs.Judged.{judged_accepted, ◌&◌}
use Rattle.expander.specs.Expander.{choice_of, under}
use Rattle.expander.specs.declared.Expander.{Expander}
use Rattle.expander.proofs.Chosen.{known}
use Rattle.group.specs.Modular.{p, field}
use Rattle.point.specs.Evaluation.{bit_of}
use Rattle.point.specs.PublicShare.{public_share_length}
use Rattle.point.proofs.Joined.{every_true}
use Rattle.query.specs.Query.{is_query, prefix_count, prefixes_of}
use Rattle.tree.specs.SearchRule.{totals}
use Rattle.report_sums.specs.Reports.{report_count, all_count, sum_where, server_sum}
use Rattle.report_sums.specs.Checks.{wrong_lengths, payload_too_large, spare_bits_set}
use Rattle.idpf.specs.Share.{share_causes, share_bytes, share_outcome}
use Rattle.search.specs.Search.{Lent, total_under, total}
use Rattle.search.proofs.Outcome.{Whole}

-- a sum in the group is below p
pub sum_below : (test : ℕ → Bool) (m : ℕ) (f : ℕ → ℕ) → sum_where field test m f < p
unfolding sum_where
sum_below test zero f = omega arith
sum_below test (suc m) f = go (test m) (sum_below test m f)
  where
    go : (b : Bool) {s : ℕ} → s < p → cond b (field.add s (f m)) s < p
    go true h = mod-lt _ (omega arith)
    go false h = h

-- so a server's sum is
pub server_below : (e : Expander) (n : ℕ) (b : Bool) (seeds shares : List ℕ) (test q : ℕ → Bool) (k : ℕ) → server_sum e n b seeds shares test q k < p
unfolding server_sum
server_below e n b seeds shares test q k = sum_below test (report_count n seeds shares) _

-- and so a total is, whatever was lent
pub total_below : (s : Lent) (q : Bits) → total s q < p
unfolding total_under
total_below s q = go (choice_of s.expander)
  where
    go : (c : Option Expander) → total_under c s q < p
    go (Some e) = mod-lt _ (omega arith)
    go None = omega arith

-- What a server is lent for C reports of 1 to 256 bits, at most 65,535, is whole; and the number of the expander.
module _ (n number : ℕ) (e : Expander) (named : choice_of number ≡ Some e) (from : 1 ≤ n) (to : n ≤ 256)
    (seeds shares : List ℕ) (C : ℕ) (lent : Whole n seeds shares C) (few : C ≤ 65535) where
  seeds_count : length seeds / 16 ≡ C
  seeds_count = omega (arith, lent.seeds_length)

  right_lengths : wrong_lengths n seeds shares ≡ false
  right_lengths =
      let no_rest : length seeds % 16 ≡ 0 = omega (arith, lent.seeds_length) in
      let none_left : length shares % public_share_length n ≡ 0 =
      ap (λ (l : ℕ). l % public_share_length n) lent.shares_length ∙ mul-mod_right (public_share_length n) C in
      let as_many : length shares / public_share_length n ≡ C =
      ap (λ (l : ℕ). l / public_share_length n) lent.shares_length ∙ mul-div_right C (omega arith) in
      neither_test (ap not (eq-eqb _ 0 no_rest))
      (neither_test (ap not (eq-eqb _ 0 none_left)) (ap not (eq-eqb _ _ (seeds_count ∙ sym as_many))))

  payloads_small : payload_too_large n (report_count n seeds shares) shares ≡ false
  payloads_small = ap not (every_true (report_count n seeds shares) _ (λ i h. lent.payloads i (rw lent.count at h)))

  spares_zero_lem : spare_bits_set n (report_count n seeds shares) shares ≡ false
  spares_zero_lem = ap not (every_true (report_count n seeds shares) _ (λ i h. lent.spares i (rw lent.count at h)))

  -- For a query and room for 8 bytes a prefix, server b succeeds and writes its sum at each prefix.
  pub whole_share : (b : Bool) (query : List ℕ) → is_query n query ≡ true → (room : ℕ) → 8 * prefix_count query ≤ room
      → share_outcome n number b seeds shares query room ≡ accepted (totals (λ (q : Bits). server_sum e n b seeds shares all_count (bit_of q) (length q)) (prefixes_of query))
  unfolding share_outcome share_bytes
  whole_share b query asks room fits =
      let most : length seeds / 16 ≤ most_reports = omega (arith, seeds_count) in
      judged_accepted (share_causes n number seeds shares query room) _
      (in_bounds 256 n from to & ap not (known number e named) & right_lengths & le-ltb most_reports _ most
      & payloads_small & spares_zero_lem & ap not asks & le-ltb room (8 * prefix_count query) fits & tt)
      ∙ ap (λ (c : Option Expander). accepted (under c (share_bytes n b seeds shares query))) named
