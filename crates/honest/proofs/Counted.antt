-- The totals of an honest search are what the holders' weights add to; where every weight is one, they are the numbers of strings that have the
-- prefix, and record and list are those of the strings.
use Rattle.std.specs.Prelude.{Some}
use mathlib.Core.Path.{◌≡◌, refl, sym, ap, ap₂, ◌∙◌}
use mathlib.Core.Bool.{Bool, true, false}
use mathlib.Core.List.{List}
use Prim.Native.Nat.{ℕ, ◌+◌, ◌%◌, ◌≤◌, ◌<◌}
use native.Mathlib.Nat.{mod-eq_of_lt}
use native.Mathlib.Omega.{arith}
use lib.ListN.{length}
use lib.IntN.{ℤ, pos}
use lib.Signed.{le_z}
use Rattle.bits.specs.Strings.{Bits, count}
use Rattle.expander.specs.Expander.{choice_of}
use Rattle.expander.specs.declared.Expander.{Expander}
use Rattle.group.specs.Modular.{p, modulus}
use Rattle.signed.specs.SignedReading.{embed, signed_in}
use Rattle.kept.specs.Kept.{reaches, reaches_as}
use Rattle.point.specs.Evaluation.{bit_of}
use Rattle.point.specs.Totals.{reports_total}
use Rattle.point.specs.Instance.{scheme}
use Rattle.weights.specs.Weights.{EveryOne, held_weight}
use Rattle.weights.proofs.HeldWeights.{held_count}
use Rattle.weights.proofs.WeightedTotals.{weighted_whole, weighted_signed}
use Rattle.query.specs.Query.{packs}
use Rattle.tree.specs.SearchRule.{search_list}
use Rattle.tree.specs.Cut.{honest_record, honest_list, honest_fits}
use Rattle.tree.proofs.Totals.{count_le}
use Rattle.report_sums.specs.Reports.{all_count, server_sum}
use Rattle.search.specs.Search.{Lent, reports, threshold_of, total, record_bytes, list_bytes, queries_fit, reaches_of}
use Rattle.search.proofs.Outcome.{Sound, accepted_clear}
use Rattle.search.proofs.Rule.{total_sum, kept_held, record_held, list_held, fits_held}
use Rattle.honest.specs.Honest.{Accepted, record_read, list_read, Honest}
use Rattle.honest.proofs.Made.{sum_at}
use Rattle.honest.proofs.Sums.{sums_total}
use Rattle.honest.proofs.Reading.{record_read_lem, list_read_lem}
use Rattle.honest.proofs.Reports.{reports_of, reports_length, reports_strings, reports_made_lem, reports_weighing, reports_seeds0, reports_seeds1, reports_shares0, reports_shares1}

-- as many reports as strings
pub reports_number : (s : Lent) (xs : List Bits) (ws : List ℤ) → Honest s xs ws → reports s ≡ length xs
reports_number s xs ws honest = omega (arith, honest.seeds0.size)

-- An honest search for strings of 1 to 256 bits under a known expander.
module _ (s : Lent) (xs : List Bits) (ws : List ℤ) (honest : Honest s xs ws) (e : Expander) (named : choice_of s.expander ≡ Some e)
    (from : 1 ≤ s.n) (to : s.n ≤ 256) where
  -- Each server's sum over what it is lent is that of the reports.
  sum0 : (q : Bits) → server_sum e s.n false s.seeds0 s.shares0 all_count (bit_of q) (length q) ≡ sum_at e s.n (reports_of s xs ws) false q
  sum0 q =
      ap₂ (λ (seeds shares : List ℕ). server_sum e s.n false seeds shares all_count (bit_of q) (length q))
      (reports_seeds0 s xs ws honest) (reports_shares0 s xs ws honest e named from to)

  sum1 : (q : Bits) → server_sum e s.n true s.seeds1 s.shares1 all_count (bit_of q) (length q) ≡ sum_at e s.n (reports_of s xs ws) true q
  sum1 q =
      ap₂ (λ (seeds shares : List ℕ). server_sum e s.n true seeds shares all_count (bit_of q) (length q))
      (reports_seeds1 s xs ws honest) (reports_shares1 s xs ws honest e named from to)

  -- They add to the total over the reports,
  sums_reports : (q : Bits) → length q ≤ s.n
      → (server_sum e s.n false s.seeds0 s.shares0 all_count (bit_of q) (length q)
      + server_sum e s.n true s.seeds1 s.shares1 all_count (bit_of q) (length q)) % p ≡ reports_total (scheme e) q (reports_of s xs ws)
  sums_reports q fits =
      ap₂ (λ (x y : ℕ). (x + y) % p) (sum0 q) (sum1 q) ∙ sums_total e s.n from (reports_of s xs ws) (reports_made_lem s xs ws honest) q fits

  -- which at a prefix of 1 to n bits is what its holders' weights add to, as a group number.
  pub sums_add : (q : Bits) → 0 < length q → length q ≤ s.n
      → (server_sum e s.n false s.seeds0 s.shares0 all_count (bit_of q) (length q)
      + server_sum e s.n true s.seeds1 s.shares1 all_count (bit_of q) (length q)) % p ≡ embed modulus (held_weight xs ws q)
  sums_add q some fits =
      sums_reports q fits
      ∙ weighted_whole e s.n (reports_of s xs ws) (reports_made_lem s xs ws honest) ws (reports_weighing s xs ws honest) q some fits
      ∙ ap (λ (ys : List Bits). embed modulus (held_weight ys ws q)) (reports_strings s xs ws)

  -- That is the total.
  pub total_held : (q : Bits) → 0 < length q → length q ≤ s.n → total s q ≡ embed modulus (held_weight xs ws q)
  total_held q some fits = total_sum s e named q ∙ sums_add q some fits

  -- At most 65,535 strings.
  module _ (few : length xs ≤ 65535) where
    -- The total, read as a signed number, is what the holders' weights add to.
    pub total_weighs : (q : Bits) → 0 < length q → length q ≤ s.n → signed_in modulus (total s q) ≡ held_weight xs ws q
    total_weighs q some fits =
        ap (signed_in modulus) (total_sum s e named q ∙ sums_reports q fits)
        ∙ weighted_signed e s.n (reports_of s xs ws) (reports_made_lem s xs ws honest) ws (reports_weighing s xs ws honest)
        (omega (arith, few, reports_length s xs ws)) q some fits
        ∙ ap (λ (ys : List Bits). held_weight ys ws q) (reports_strings s xs ws)

    -- Every weight is one.
    module _ (ones : EveryOne ws) where
      -- The total is the number of strings that have the prefix.
      pub total_count : (q : Bits) → 0 < length q → length q ≤ s.n → total s q ≡ count xs q
      unfolding embed
      total_count q some fits =
          total_held q some fits ∙ ap (embed modulus) (held_count xs ws q honest.weighed ones)
          ∙ mod-eq_of_lt (omega (arith, few, count_le xs q))

      -- So the kept prefixes of each length, the record, the list and whether every query is within the limit are those of the strings.
      pub kept_count : (k : ℕ) → k ≤ s.n → search_list (reaches_of s) (total s) k ≡ honest_list k s.t xs
      kept_count = kept_held s xs total_count (reports_number s xs ws honest) few

      pub record_count : record_bytes s ≡ honest_record s.n s.t xs
      record_count = record_held s xs total_count (reports_number s xs ws honest) few

      pub list_count : list_bytes s ≡ packs (honest_list s.n s.t xs)
      list_count = list_held s xs total_count (reports_number s xs ws honest) few

      pub fits_count : queries_fit s ≡ honest_fits s.n s.t xs
      fits_count = fits_held s xs total_count (reports_number s xs ws honest) few

    -- Whether a prefix of 1 to n bits is kept: its holders' weights add to t or more.
    pub kept_weighs : (q : Bits) → 0 < length q → length q ≤ s.n → reaches_of s (total s q) ≡ le_z (pos (threshold_of s)) (held_weight xs ws q)
    kept_weighs q some fits = go s.weighted refl
      where
        read_as : {b : Bool} → s.weighted ≡ b → reaches_of s (total s q) ≡ reaches_as b (threshold_of s) (total s q)
        read_as w = ap (λ (b : Bool). reaches_as b (threshold_of s) (total s q)) w

        go : (b : Bool) → s.weighted ≡ b → reaches_of s (total s q) ≡ le_z (pos (threshold_of s)) (held_weight xs ws q)
        go true w = read_as w ∙ ap (le_z (pos (threshold_of s))) (total_weighs q some fits)
        go false w =
            let ones = honest.unweighted w in
            read_as w ∙ ap (reaches (threshold_of s)) (total_count ones q some fits)
            ∙ sym (ap (le_z (pos (threshold_of s))) (held_count xs ws q honest.weighed ones))

-- So it is for every accepted search of honest reports.
module _ (s : Lent) (xs : List Bits) (ws : List ℤ) (honest : Honest s xs ws) (ok : Accepted s) where
  sound : Sound s
  sound = (accepted_clear s ok).sound

  pub few_strings : length xs ≤ 65535
  few_strings = omega (arith, sound.few, reports_number s xs ws honest)

  pub accepted_weighs : (q : Bits) → 0 < length q → length q ≤ s.n → signed_in modulus (total s q) ≡ held_weight xs ws q
  accepted_weighs = total_weighs s xs ws honest sound.expander sound.named sound.some_bits sound.not_longer few_strings

  module _ (ones : EveryOne ws) where
    pub accepted_total : (q : Bits) → 0 < length q → length q ≤ s.n → total s q ≡ count xs q
    accepted_total = total_count s xs ws honest sound.expander sound.named sound.some_bits sound.not_longer few_strings ones

    pub accepted_kept : (k : ℕ) → k ≤ s.n → search_list (reaches_of s) (total s) k ≡ honest_list k s.t xs
    accepted_kept = kept_count s xs ws honest sound.expander sound.named sound.some_bits sound.not_longer few_strings ones

    pub accepted_record : record_read s ≡ honest_record s.n s.t xs
    accepted_record =
        record_read_lem s ok ∙ record_count s xs ws honest sound.expander sound.named sound.some_bits sound.not_longer few_strings ones

    pub accepted_list : list_read s ≡ packs (honest_list s.n s.t xs)
    accepted_list = list_read_lem s ok ∙ list_count s xs ws honest sound.expander sound.named sound.some_bits sound.not_longer few_strings ones
