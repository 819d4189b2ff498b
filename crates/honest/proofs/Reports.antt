-- The reports of an honest search as the theory has them, that what is lent is what they are lent, and each server's sum.
use Rattle.std.specs.Prelude.{Some}
use mathlib.Core.Path.{◌≡◌, refl, sym, ap, ap₂, ◌∙◌}
use mathlib.Core.Bool.{true, false}
use mathlib.Core.List.{List, [], ◌∷◌}
use Prim.Native.Nat.{ℕ, zero, suc, ◌*◌, ◌/◌, ◌≤◌, ◌<◌}
use native.Mathlib.Nat.{mul-div_right, min-eq_left}
use native.Mathlib.Omega.{arith}
use lib.ListN.{length, get_or}
use lib.IntN.{ℤ, pos}
use Rattle.places.specs.Lists.{All}
use Rattle.bits.specs.Strings.{Bits}
use Rattle.places.specs.Places.{Bytes}
use Rattle.places.proofs.Places.{window_inside, window_bytes}
use Rattle.calls.specs.Outcome.{Outcome, accepted}
use Rattle.expander.specs.Expander.{choice_of}
use Rattle.expander.specs.declared.Expander.{Expander}
use Rattle.group.specs.Modular.{modulus, field}
use Rattle.signed.specs.SignedReading.{embed}
use Rattle.point.specs.Evaluation.{bit_of, share}
use Rattle.point.specs.PublicShare.{public_share_length, read_correction}
use Rattle.point.specs.Totals.{Report, root_seed, strings, report_share, report_public_share}
use Rattle.point.specs.Instance.{scheme}
use Rattle.point.proofs.Honest.{report_read}
use Rattle.point.proofs.Instance.{scheme_lawful, p_fits}
use Rattle.query.specs.Query.{OfLength}
use Rattle.weights.specs.Weights.{IsWeight}
use Rattle.weights.proofs.WeightedTotals.{Weighing}
use Rattle.report_sums.specs.Reports.{report_count, seed_at, public_share_at, all_count, sum_where, lent_share, server_sum}
use Rattle.report_sums.proofs.LentPrefix.{sum_same}
use Rattle.search.specs.Search.{Lent}
use Rattle.honest.specs.Honest.{key_at, Honest}
use Rattle.honest.proofs.Made.{MadeReport, lent_seeds, lent_shares}
use Rattle.honest.proofs.Pieces.{all_at, pieces_whole}
use Rattle.honest.proofs.Keys.{made_report, key_accepted}

-- f 0, f 1, .., f (m − 1)
module _ {A : Type 0} where
  pub tabled : ℕ → (ℕ → A) → List A
  tabled zero f = []
  tabled (suc m) f = f 0 ∷ tabled m (λ i. f (suc i))

  pub tabled_length : (m : ℕ) (f : ℕ → A) → length (tabled m f) ≡ m
  unfolding tabled
  tabled_length zero f = refl
  tabled_length (suc m) f = ap suc (tabled_length m (λ i. f (suc i)))

  pub tabled_at : (m : ℕ) (f : ℕ → A) (d : A) (i : ℕ) → i < m → get_or (tabled m f) i d ≡ f i
  unfolding tabled
  tabled_at zero f d i h = absurd (omega arith)
  tabled_at (suc m) f d zero h = refl
  tabled_at (suc m) f d (suc i) h = tabled_at m (λ i. f (suc i)) d i (omega arith)

  pub tabled_all : (P : A → Type 0) (m : ℕ) (f : ℕ → A) → ((i : ℕ) → i < m → P (f i)) → All P (tabled m f)
  unfolding tabled
  tabled_all P zero f h = tt
  tabled_all P (suc m) f h = (h 0 (omega arith), tabled_all P m (λ i. f (suc i)) (λ i l. h (suc i) (omega arith)))

tabled_strings : (xs : List Bits) (f : ℕ → Report ℕ) → ((i : ℕ) → i < length xs → (f i).string ≡ get_or xs i []) → strings (tabled (length xs) f) ≡ xs
unfolding tabled
tabled_strings [] f h = refl
tabled_strings (x ∷ xs) f h = ap₂ ◌∷◌ (h 0 (omega arith)) (tabled_strings xs (λ i. f (suc i)) (λ i l. h (suc i) (omega arith)))

tabled_weighing : (m : ℕ) (ws : List ℤ) (f : ℕ → Report ℕ) → length ws ≡ m → All IsWeight ws
    → ((i : ℕ) → i < m → (f i).weight ≡ embed modulus (get_or ws i (pos 0))) → Weighing (tabled m f) ws
unfolding tabled
tabled_weighing zero [] f l a h = tt
tabled_weighing zero (w ∷ ws) f l a h = absurd (omega arith)
tabled_weighing (suc m) [] f l a h = absurd (omega arith)
tabled_weighing (suc m) (w ∷ ws) f l a h =
    ((a.0, h 0 (omega arith)), tabled_weighing m ws (λ i. f (suc i)) (omega arith) a.1 (λ i k. h (suc i) (omega arith)))

-- root seed i of seeds that are 16 bytes for each of m reports
seed_bytes : (m : ℕ) (seeds : List ℕ) → Bytes (16 * m) seeds → (i : ℕ) → i < m → Bytes 16 (seed_at seeds i)
seed_bytes m seeds b i h = rw (window_inside 16 (16 * i) seeds (omega (arith, b.size))) at (window_bytes 16 (16 * i) seeds b.byte)

module _ (s : Lent) (xs : List Bits) (ws : List ℤ) where
  -- report i: its string, its root seeds as they are lent, and its weight as a group number
  abbrev pub report_at : ℕ → Report ℕ
  report_at i = record { string = get_or xs i []; seed0 = seed_at s.seeds0 i; seed1 = seed_at s.seeds1 i; weight = embed modulus (get_or ws i (pos 0)) }

  abbrev pub reports_of : List (Report ℕ)
  reports_of = tabled (length xs) report_at

  -- there are as many as strings, and they have the strings
  pub reports_length : length reports_of ≡ length xs
  reports_length = tabled_length (length xs) report_at

  pub reports_strings : strings reports_of ≡ xs
  reports_strings = tabled_strings xs report_at (λ i l. refl)

  abbrev none : Report ℕ
  none = record { string = []; seed0 = []; seed1 = []; weight = 0 }

  reports_at : (i : ℕ) → i < length reports_of → get_or reports_of i none ≡ report_at i
  reports_at i h = tabled_at (length xs) report_at none i (omega (arith, reports_length))

  -- For strings of n bits and root seeds that are bytes.
  module _ (bits : OfLength s.n xs) (sized0 : Bytes (16 * length xs) s.seeds0) (sized1 : Bytes (16 * length xs) s.seeds1) where
    pub report_made : (i : ℕ) → i < length xs → MadeReport s.n (report_at i)
    report_made i h =
        made_report (get_or ws i (pos 0)) (all_at (λ x. length x ≡ s.n) xs [] i bits h)
        (seed_bytes (length xs) s.seeds0 sized0 i h) (seed_bytes (length xs) s.seeds1 sized1 i h)

    -- what the key maker gives for report i under a known expander
    pub key_of : (e : Expander) → choice_of s.expander ≡ Some e → 1 ≤ s.n → s.n ≤ 256 → (i : ℕ) → i < length xs
        → key_at s (get_or xs i []) (get_or ws i (pos 0)) i ≡ accepted (report_public_share (scheme e) s.n (report_at i))
    key_of e named from to i h = key_accepted e s.n (report_at i) (report_made i h) (get_or ws i (pos 0)) refl s.expander named from to (public_share_length s.n) (omega arith)

  module _ (honest : Honest s xs ws) where
    -- each is made for the search
    pub reports_made_lem : All (MadeReport s.n) reports_of
    reports_made_lem = tabled_all (MadeReport s.n) (length xs) report_at (report_made honest.n_bits honest.seeds0 honest.seeds1)

    -- The root seeds lent to each server are theirs.
    pub reports_seeds0 : s.seeds0 ≡ lent_seeds false reports_of
    reports_seeds0 =
        pieces_whole 16 (root_seed false) reports_of none s.seeds0 (honest.seeds0.size ∙ ap (λ (m : ℕ). 16 * m) (sym reports_length))
        (λ i h. sym (ap (root_seed false) (reports_at i h)))

    pub reports_seeds1 : s.seeds1 ≡ lent_seeds true reports_of
    reports_seeds1 =
        pieces_whole 16 (root_seed true) reports_of none s.seeds1 (honest.seeds1.size ∙ ap (λ (m : ℕ). 16 * m) (sym reports_length))
        (λ i h. sym (ap (root_seed true) (reports_at i h)))

    -- They are made with the weights.
    pub reports_weighing : Weighing reports_of ws
    reports_weighing = tabled_weighing (length xs) ws report_at honest.weighed honest.weights (λ i h. refl)

    -- Under a known expander and for strings of 1 to 256 bits the public shares lent to each server are theirs.
    module _ (e : Expander) (named : choice_of s.expander ≡ Some e) (from : 1 ≤ s.n) (to : s.n ≤ 256) where
      public_of : (shares : List ℕ) (i : ℕ) → i < length xs → key_at s (get_or xs i []) (get_or ws i (pos 0)) i ≡ accepted (public_share_at s.n shares i)
          → public_share_at s.n shares i ≡ report_public_share (scheme e) s.n (report_at i)
      public_of shares i h made =
          ap (λ (o : Outcome). o.written) (sym made ∙ key_of honest.n_bits honest.seeds0 honest.seeds1 e named from to i h)

      shares_lent : (shares : List ℕ) → length shares ≡ public_share_length s.n * length xs
          → ((i : ℕ) → i < length xs → key_at s (get_or xs i []) (get_or ws i (pos 0)) i ≡ accepted (public_share_at s.n shares i)) → shares ≡ lent_shares e s.n reports_of
      shares_lent shares sized made =
          pieces_whole (public_share_length s.n) (report_public_share (scheme e) s.n) reports_of none shares
          (sized ∙ ap (λ (m : ℕ). public_share_length s.n * m) (sym reports_length))
          (λ i h. let l : i < length xs = omega (arith, h, reports_length) in
          public_of shares i l (made i l) ∙ sym (ap (report_public_share (scheme e) s.n) (reports_at i h)))

      pub reports_shares0 : s.shares0 ≡ lent_shares e s.n reports_of
      reports_shares0 = shares_lent s.shares0 honest.shares0 honest.made0

      pub reports_shares1 : s.shares1 ≡ lent_shares e s.n reports_of
      reports_shares1 = shares_lent s.shares1 honest.shares1 honest.made1

      -- Each server's share of report i is the one that the theory speaks of.
      module _ (i : ℕ) (h : i < length xs) (q : Bits) (fits : length q ≤ s.n) where
        report : MadeReport s.n (report_at i)
        report = report_made honest.n_bits honest.seeds0 honest.seeds1 i h

        pub share_of0 : lent_share e s.n false s.seeds0 s.shares0 (bit_of q) (length q) i ≡ report_share (scheme e) false q (report_at i)
        unfolding lent_share
        share_of0 =
            ap (λ (c : List ℕ). share (scheme e) (read_correction s.n c) (seed_at s.seeds0 i) false (bit_of q) (length q))
            (public_of s.shares0 i h (honest.made0 i h))
            ∙ report_read (scheme e) (scheme_lawful e) p_fits s.n (report_at i) report false q fits

        pub share_of1 : lent_share e s.n true s.seeds1 s.shares1 (bit_of q) (length q) i ≡ report_share (scheme e) true q (report_at i)
        unfolding lent_share
        share_of1 =
            ap (λ (c : List ℕ). share (scheme e) (read_correction s.n c) (seed_at s.seeds1 i) true (bit_of q) (length q))
            (public_of s.shares1 i h (honest.made1 i h))
            ∙ report_read (scheme e) (scheme_lawful e) p_fits s.n (report_at i) report true q fits

      -- Each server is lent as many reports as there are strings.
      lent_number : (seeds shares : List ℕ) → length seeds ≡ 16 * length xs → length shares ≡ public_share_length s.n * length xs
          → report_count s.n seeds shares ≡ length xs
      lent_number seeds shares sized sized' =
          let C = length xs in
          let as_many : length seeds / 16 ≡ C = omega (arith, sized) in
          let shares-many : length shares / public_share_length s.n ≡ C =
          ap (λ (l : ℕ). l / public_share_length s.n) sized' ∙ mul-div_right C (omega arith) in
          min-eq_left (omega (arith, as_many, shares-many)) ∙ as_many

      -- Each server's sum is the sum over all of them.
      module _ (q : Bits) (fits : length q ≤ s.n) where
        pub sum_of0 : server_sum e s.n false s.seeds0 s.shares0 all_count (bit_of q) (length q)
            ≡ sum_where field all_count (length xs) (λ i. report_share (scheme e) false q (report_at i))
        unfolding server_sum
        sum_of0 =
            ap (λ (m : ℕ). sum_where field all_count m (lent_share e s.n false s.seeds0 s.shares0 (bit_of q) (length q)))
            (lent_number s.seeds0 s.shares0 honest.seeds0.size honest.shares0)
            ∙ sum_same all_count (length xs) (λ i h. share_of0 i h q fits)

        pub sum_of1 : server_sum e s.n true s.seeds1 s.shares1 all_count (bit_of q) (length q)
            ≡ sum_where field all_count (length xs) (λ i. report_share (scheme e) true q (report_at i))
        unfolding server_sum
        sum_of1 =
            ap (λ (m : ℕ). sum_where field all_count m (lent_share e s.n true s.seeds1 s.shares1 (bit_of q) (length q)))
            (lent_number s.seeds1 s.shares1 honest.seeds1.size honest.shares1)
            ∙ sum_same all_count (length xs) (λ i h. share_of1 i h q fits)
