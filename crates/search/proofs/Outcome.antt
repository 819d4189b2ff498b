-- What the number of a search tells of its causes.
use Prim.Native.Nat.{ℕ, ◌*◌, ◌/◌, ◌%◌, ◌≤◌, ◌<◌}
use native.Mathlib.Omega.{arith}
use native.Mathlib.Nat.{min-eq_left, mul_comm, div-add-mod'}
use mathlib.Core.Path.{◌≡◌, refl, sym, ◌∙◌}
use mathlib.Core.Bool.{Bool, true, false, cond, not, true≢false}
use mathlib.Core.List.{List, [], ◌∷◌, ◌++◌}
use mathlib.Core.Logic.{◌≢◌}
use borrow.Author.Tests.{eqb-true, ltb-false, not-false}
use Rattle.std.specs.Prelude.{Option, Some, None}
use lib.ListN.{length}
use lib.Dec.{eqb, ltb}
use Rattle.calls.specs.Bounds.{most_bits, threshold_most, threshold_number, most_reports}
use Rattle.calls.specs.Causes.{Cause, number_due}
use Rattle.calls.proofs.Decisions.{neither, bounds}
use Rattle.calls.proofs.Judged.{◌&◌}
use Rattle.calls.proofs.Judged as calls
use Rattle.expander.specs.Expander.{choice_of, is_expander}
use Rattle.expander.specs.declared.Expander.{Expander}
use Rattle.expander.proofs.Chosen.{unknown}
use Rattle.group.specs.Modular.{p}
use Rattle.point.specs.PublicShare.{public_share_length, payloads_below, spare_bits_zero}
use Rattle.point.proofs.Joined.{every_at}
use Rattle.report_sums.specs.Reports.{report_count, public_share_at}
use Rattle.report_sums.specs.Checks.{wrong_lengths, payload_too_large, spare_bits_set}
use Rattle.search.specs.Search.{Lent, reports, record_bytes, list_bytes, queries_fit, lent_causes, space_causes, search_number}
use Rattle.search.proofs.SameBytes.{same_equal}

-- ---- the number that is due

-- each bears another number than k
abbrev pub Bearing : ℕ → List Cause → Type 0
Bearing k [] = Unit {0}
Bearing k (c ∷ cs) = (c.number ≢ k) × Bearing k cs

-- the number of the threshold's cause is neither 0 nor 11
threshold_not_0 : (weighted : Bool) → threshold_number weighted ≢ 0
threshold_not_0 false = omega arith
threshold_not_0 true = omega arith

pub threshold_other : (weighted : Bool) → threshold_number weighted ≢ 11
threshold_other false = omega arith
threshold_other true = omega arith

-- where a number is due, none of the causes that bear another and stand before it applies
pub none_before : (k : ℕ) (cs ds : List Cause) → Bearing k cs → number_due (cs ++ ds) ≡ k
    → calls.Clear cs × (number_due ds ≡ k)
none_before k [] ds other h = (tt, h)
none_before k (c ∷ cs) ds other h = go c.test h (none_before k cs ds other.1)
  where
    go : (b : Bool) → cond b c.number (number_due (cs ++ ds)) ≡ k
        → (number_due (cs ++ ds) ≡ k → calls.Clear cs × (number_due ds ≡ k))
        → ((b ≡ false) × calls.Clear cs) × (number_due ds ≡ k)
    go true h f = absurd (other.0 h)
    go false h f = let r = f h in ((refl, r.0), r.1)

-- ---- what is lent for a server

-- What a server is lent for C reports of n bits is whole, each with payload corrections below p and spare bits zero.
pub record Whole (n : ℕ) (seeds shares : List ℕ) (C : ℕ) : Type 0 where
  pub seeds_length : length seeds ≡ 16 * C
  pub shares_length : length shares ≡ public_share_length n * C
  pub count : report_count n seeds shares ≡ C
  pub payloads : (i : ℕ) → i < C → payloads_below p n (public_share_at n shares i) ≡ true
  pub spares : (i : ℕ) → i < C → spare_bits_zero n (public_share_at n shares i) ≡ true

-- a length without remainder
whole : (len w : ℕ) → len % w ≡ 0 → len ≡ w * (len / w)
whole len w h = omega (arith, div-add-mod' len w, mul_comm w (len / w))

whole_lent : (n : ℕ) (seeds shares : List ℕ) → wrong_lengths n seeds shares ≡ false → payload_too_large n (report_count n seeds shares) shares ≡ false
    → spare_bits_set n (report_count n seeds shares) shares ≡ false → Whole n seeds shares (length seeds / 16)
whole_lent n seeds shares w f b =
    let l = neither (not (eqb (length seeds % 16) 0)) _ w in
    let m = neither (not (eqb (length shares % public_share_length n) 0)) _ l.1 in
    let same : length seeds / 16 ≡ length shares / public_share_length n = eqb-true _ _ (not-false _ m.1) in
    let count : report_count n seeds shares ≡ length seeds / 16 = min-eq_left (omega (arith, same)) in
    record {
      seeds_length = whole (length seeds) 16 (eqb-true _ 0 (not-false _ l.0));
      shares_length = rw same (whole (length shares) (public_share_length n) (eqb-true _ 0 (not-false _ m.0)));
      count = count;
      payloads = λ i h. every_at (report_count n seeds shares) (λ i. payloads_below p n (public_share_at n shares i)) (not-false _ f) i (rw count h);
      spares = λ i h. every_at (report_count n seeds shares) (λ i. spare_bits_zero n (public_share_at n shares i)) (not-false _ b) i (rw count h);
    }

-- ---- the facts

-- None of the causes before 11 applies to the search.
pub record Sound (s : Lent) : Type 0 where
  pub some_bits : 1 ≤ s.n
  pub not_longer : s.n ≤ 256
  pub some_threshold : 1 ≤ s.t
  pub not_higher : s.t ≤ threshold_most s.weighted
  pub expander : Expander
  pub named : choice_of s.expander ≡ Some expander
  pub lent0 : Whole s.n s.seeds0 s.shares0 (reports s)
  pub lent1 : Whole s.n s.seeds1 s.shares1 (reports s)
  pub few : reports s ≤ 65535
  pub same_shares : s.shares0 ≡ s.shares1

-- No cause applies to the search.
pub record Clear (s : Lent) : Type 0 where
  pub sound : Sound s
  pub record_fits : length (record_bytes s) ≤ length s.record_area
  pub list_fits : length (list_bytes s) ≤ length s.list_area
  pub queries_fit_lem : queries_fit s ≡ true

-- a number that is an expander's names it
pub named_expander : (e : ℕ) → is_expander e ≡ true → (x : Expander) × (choice_of e ≡ Some x)
named_expander e h = go (choice_of e) refl
  where
    go : (c : Option Expander) → choice_of e ≡ c → (x : Expander) × (choice_of e ≡ Some x)
    go (Some x) q = (x, q)
    go None q = absurd (true≢false (sym h ∙ unknown e q))

module _ (s : Lent) where
  sound : calls.Clear (lent_causes s) → Sound s
  sound a =
      let bits = bounds most_bits s.n a.0 in
      let threshold = bounds (threshold_most s.weighted) s.t a.1.0 in
      let e = named_expander s.expander (not-false _ a.1.1.0) in
      let lengths = neither (wrong_lengths s.n s.seeds0 s.shares0) _ a.1.1.1.0 in
      let other = neither (wrong_lengths s.n s.seeds1 s.shares1) _ lengths.1 in
      let seeds : length s.seeds0 ≡ length s.seeds1 = eqb-true _ _ (not-false _ other.1) in
      let payloads = neither (payload_too_large s.n (report_count s.n s.seeds0 s.shares0) s.shares0) _ a.1.1.1.1.1.0 in
      let spares = neither (spare_bits_set s.n (report_count s.n s.seeds0 s.shares0) s.shares0) _ a.1.1.1.1.1.1.0 in
      record {
        some_bits = bits.0;
        not_longer = bits.1;
        some_threshold = threshold.0;
        not_higher = threshold.1;
        expander = e.0;
        named = e.1;
        lent0 = whole_lent s.n s.seeds0 s.shares0 lengths.0 payloads.0 spares.0;
        lent1 = rw seeds (whole_lent s.n s.seeds1 s.shares1 other.0 payloads.1 spares.1);
        few = ltb-false most_reports (reports s) a.1.1.1.1.0;
        same_shares = same_equal s.shares0 s.shares1 (not-false _ a.1.1.1.1.1.1.1.0);
      }

  -- a number that none of them bears
  past : (k : ℕ) → Bearing k (lent_causes s) → search_number s ≡ k → Sound s × (number_due (space_causes s) ≡ k)
  unfolding search_number
  past k other h = let r = none_before k (lent_causes s) (space_causes s) other h in (sound r.0, r.1)

  -- what follows from 0
  pub accepted_clear : search_number s ≡ 0 → Clear s
  accepted_clear h =
      let r = past 0 (omega arith & threshold_not_0 s.weighted & omega arith & omega arith & omega arith & omega arith & omega arith & omega arith & tt) h in
      let last = (none_before 0 (space_causes s) [] (omega arith & tt) r.1).0 in
      let room = neither (ltb (length s.record_area) (length (record_bytes s))) _ last.0 in
      let list = neither (ltb (length s.list_area) (length (list_bytes s))) _ room.1 in
      record {
        sound = r.0;
        record_fits = ltb-false _ _ room.0;
        list_fits = ltb-false _ _ list.0;
        queries_fit_lem = not-false _ list.1;
      }

  -- what follows from 11
  pub not_before_11 : search_number s ≡ 11 → Sound s
  not_before_11 h = (past 11 (omega arith & threshold_other s.weighted & omega arith & omega arith & omega arith & omega arith & omega arith & omega arith & tt) h).0
