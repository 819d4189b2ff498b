-- The outcome of `share`, case by case, and what follows where no cause applies.
use Prim.Native.Nat.{ℕ, ◌*◌, ◌/◌, ◌%◌, ◌≤◌, ◌<◌}
use native.Mathlib.Omega.{arith}
use native.Mathlib.Nat.{min-eq_left, mul_comm, div-add-mod'}
use mathlib.Core.Path.{◌≡◌, ap, ◌∙◌}
use mathlib.Core.Bool.{Bool, true, not}
use mathlib.Core.List.{List, []}
use borrow.Author.Tests.{eqb-true, ltb-false, not-false}
use lib.ListN.{length, drop, length-map}
use lib.Dec.{eqb}
use Rattle.bits.specs.Strings.{Bits}
use Rattle.bits.specs.Packing.{packed_length, unpack}
use Rattle.calls.specs.Bounds.{most_bits, most_reports, outside}
use Rattle.calls.specs.Causes.{Cause}
use Rattle.calls.specs.Outcome.{accepted, judged}
use Rattle.calls.proofs.Decisions.{neither, bounds}
use Rattle.calls.proofs.Judged.{Clear, judged_number, judged_refused, judged_accepted, judged_clear}
use Rattle.expander.specs.Expander.{is_expander, choice_of}
use Rattle.expander.specs.declared.Expander.{Expander}
use Rattle.std.specs.Prelude.{Some}
use Rattle.group.specs.Modular.{p}
use Rattle.point.specs.Evaluation.{bit_of}
use Rattle.point.specs.PublicShare.{public_share_length, payloads_below, spare_bits_zero}
use Rattle.point.proofs.Joined.{every_at}
use Rattle.query.specs.Query.{prefix_length, prefix_count, packed_prefixes, prefixes_of, is_query}
use Rattle.query.proofs.Queries.{parts_length}
use Rattle.tree.proofs.Lengths.{totals_length}
use Rattle.report_sums.specs.Reports.{report_count, public_share_at, all_count, server_sum}
use Rattle.idpf.specs.Share.{share_causes, share_bytes, share_outcome}

-- ---- the first cause that applies

module _ (n e : ℕ) (seeds shares query : List ℕ) (room : ℕ) where
  abbrev pub causes : List Cause
  causes = share_causes n e seeds shares query room

  pub cause_1 : outside most_bits n ≡ true → 1 ≡ (judged causes []).number
  cause_1 h = rw h

-- ---- what follows where no cause applies

-- What was lent for n bits is whole reports, not too many, each with payloads below p and without spare bits; the expander is one; the query is one;
-- and the sums fit.
pub record Ready (n e : ℕ) (seeds shares query : List ℕ) (room : ℕ) : Type 0 where
  pub some_bits : 1 ≤ n
  pub not_longer : n ≤ 256
  pub known : is_expander e ≡ true
  pub whole_seeds : length seeds ≡ 16 * report_count n seeds shares
  pub whole_shares : length shares ≡ public_share_length n * report_count n seeds shares
  pub few : report_count n seeds shares ≤ most_reports
  pub payloads : (i : ℕ) → i < report_count n seeds shares → payloads_below p n (public_share_at n shares i) ≡ true
  pub spares : (i : ℕ) → i < report_count n seeds shares → spare_bits_zero n (public_share_at n shares i) ≡ true
  pub a_query_lem : is_query n query ≡ true
  pub fits : 8 * prefix_count query ≤ room

-- a length without remainder
whole : (len w : ℕ) → len % w ≡ 0 → len ≡ w * (len / w)
whole len w h = omega (arith, div-add-mod' len w, mul_comm w (len / w))

module _ (n e : ℕ) (seeds shares query : List ℕ) (room : ℕ) where
  pub clear : (judged (causes n e seeds shares query room) []).number ≡ 0 → Clear (causes n e seeds shares query room)
  clear = judged_clear (causes n e seeds shares query room) []
      (omega arith, (omega arith, (omega arith, (omega arith, (omega arith, (omega arith, (omega arith, (omega arith, tt))))))))

  pub ready : (judged (causes n e seeds shares query room) []).number ≡ 0 → Ready n e seeds shares query room
  ready h =
      let t = clear h in
      let inside = bounds most_bits n t.0 in
      let l = neither (not (eqb (length seeds % 16) 0)) _ t.1.1.0 in
      let m = neither (not (eqb (length shares % public_share_length n) 0)) _ l.1 in
      let same : length seeds / 16 ≡ length shares / public_share_length n = eqb-true _ _ (not-false _ m.1) in
      let count : report_count n seeds shares ≡ length seeds / 16 = min-eq_left (omega (arith, same)) in
      record {
        some_bits = inside.0;
        not_longer = inside.1;
        known = not-false _ t.1.0;
        whole_seeds = rw count (whole (length seeds) 16 (eqb-true _ 0 (not-false _ l.0)));
        whole_shares = rw (count, same) (whole (length shares) (public_share_length n) (eqb-true _ 0 (not-false _ m.0)));
        few = rw count (ltb-false most_reports (length seeds / 16) t.1.1.1.0);
        payloads = every_at (report_count n seeds shares) (λ i. payloads_below p n (public_share_at n shares i)) (not-false _ t.1.1.1.1.0);
        spares = every_at (report_count n seeds shares) (λ i. spare_bits_zero n (public_share_at n shares i)) (not-false _ t.1.1.1.1.1.0);
        a_query_lem = not-false _ t.1.1.1.1.1.1.0;
        fits = ltb-false room (8 * prefix_count query) t.1.1.1.1.1.1.1.0;
      }

-- ---- the outcome

module _ (n e : ℕ) (b : Bool) (seeds shares query : List ℕ) (room : ℕ) where
  pub outcome_number : {k : ℕ} → k ≡ (judged (causes n e seeds shares query room) []).number → k ≡ (share_outcome n e b seeds shares query room).number
  unfolding share_outcome
  outcome_number h = h ∙ judged_number (causes n e seeds shares query room) [] _

  -- a refusal
  pub outcome_refused : {k : ℕ} → k ≡ (judged (causes n e seeds shares query room) []).number → (k ≡ 0 → ⊥) → (share_outcome n e b seeds shares query room).written ≡ []
  unfolding share_outcome
  outcome_refused h z = judged_refused (causes n e seeds shares query room) _ (λ y. z (h ∙ judged_number (causes n e seeds shares query room) [] _ ∙ y))

  -- success
  pub outcome_accepted : (x : Expander) → choice_of e ≡ Some x → (judged (causes n e seeds shares query room) []).number ≡ 0
      → share_outcome n e b seeds shares query room ≡ accepted (share_bytes n b seeds shares query x)
  unfolding share_outcome
  outcome_accepted x c h =
      judged_accepted (causes n e seeds shares query room) _ (clear n e seeds shares query room h) ∙ rw c

pub prefixes_length : (query : List ℕ) → length (prefixes_of query) ≡ prefix_count query
prefixes_length query =
    length-map (packed_prefixes query) (unpack (prefix_length query))
    ∙ parts_length (packed_length (prefix_length query)) (prefix_count query) (drop 6 query)

-- 8 bytes for each prefix
pub bytes_length : (n : ℕ) (b : Bool) (seeds shares query : List ℕ) (x : Expander) → length (share_bytes n b seeds shares query x) ≡ 8 * prefix_count query
unfolding share_bytes
bytes_length n b seeds shares query x =
    totals_length (λ (q : Bits). server_sum x n b seeds shares all_count (bit_of q) (length q)) (prefixes_of query) ∙ ap (λ (m : ℕ). 8 * m) (prefixes_length query)
