-- The search rule at what was lent: totals are sums of shares, and where they are the numbers of strings that have a prefix, record and list are
-- those of the strings.
use Prim.Native.Nat.{ℕ, ◌+◌, ◌%◌, ◌≤◌, ◌<◌}
use native.Mathlib.Omega.{arith}
use mathlib.Core.Path.{◌≡◌, ap, ◌∙◌}
use mathlib.Core.Bool.{true, false}
use mathlib.Core.List.{List}
use Rattle.std.specs.Prelude.{Option, Some}
use lib.ListN.{length}
use Rattle.bits.specs.Strings.{Bits, count}
use Rattle.expander.specs.Expander.{choice_of}
use Rattle.expander.specs.declared.Expander.{Expander}
use Rattle.group.specs.Modular.{p}
use Rattle.point.specs.Evaluation.{bit_of}
use Rattle.kept.specs.Kept.{reaches}
use Rattle.kept.proofs.Weightless.{reaches_either}
use Rattle.query.specs.Query.{packs, limit, children}
use Rattle.tree.specs.SearchRule.{search_record, search_list}
use Rattle.tree.specs.Cut.{honest_record, honest_list, honest_fits}
use Rattle.tree.proofs.Limit.{fits_within}
use Rattle.tree.proofs.Totals.{count_le}
use Rattle.tree.proofs.Agree.{list_agrees, fits_agree, record_agrees}
use Rattle.report_sums.specs.Reports.{all_count, server_sum}
use Rattle.search.specs.Search.{Lent, reports, threshold_of, total_under, total, record_bytes, list_bytes, queries_fit, reaches_of}

-- The total of a prefix is the sum of what server 0 and server 1 add up over their own seeds and public shares.
pub total_sum : (s : Lent) (e : Expander) → choice_of s.expander ≡ Some e → (q : Bits)
    → total s q
    ≡ (server_sum e s.n false s.seeds0 s.shares0 all_count (bit_of q) (length q)
    + server_sum e s.n true s.seeds1 s.shares1 all_count (bit_of q) (length q)) % p
unfolding total_under
total_sum s e named q = ap (λ (c : Option Expander). total_under c s q) named

-- Where every query fits, the children of the kept prefixes of each length below n are within the limit.
pub queries_within : (s : Lent) → queries_fit s ≡ true → (k : ℕ) → k < s.n → length (children (search_list (reaches_of s) (total s) k)) ≤ limit
unfolding queries_fit
queries_within s fits = fits_within (reaches_of s) (total s) s.n fits

-- Where the total of each prefix of 1 to n bits is the number of strings that have it, and there are as many reports as strings:
module _ (s : Lent) (xs : List Bits) (held : (q : Bits) → 0 < length q → length q ≤ s.n → total s q ≡ count xs q) (as_many : reports s ≡ length xs)
    (few : length xs ≤ 65535) where
  -- a total is kept where it is in a search that is not weighted
  tests : (q : Bits) → 0 < length q → length q ≤ s.n → reaches_of s (total s q) ≡ reaches (threshold_of s) (count xs q)
  tests q some fits =
      ap (reaches_of s) (held q some fits) ∙ reaches_either s.weighted (threshold_of s) (count xs q) (omega (arith, count_le xs q))

  -- the kept prefixes of each length are those of the strings
  pub kept_held : (k : ℕ) → k ≤ s.n → search_list (reaches_of s) (total s) k ≡ honest_list k s.t xs
  kept_held k l = list_agrees (reaches_of s) (reaches s.t) (total s) (count xs) s.n held tests k l

  pub record_held : record_bytes s ≡ honest_record s.n s.t xs
  unfolding record_bytes
  record_held =
      record_agrees (reaches_of s) (reaches s.t) (total s) (count xs) s.n held tests (reports s)
      ∙ ap (λ (C : ℕ). search_record (reaches s.t) (count xs) C s.n) as_many

  pub list_held : list_bytes s ≡ packs (honest_list s.n s.t xs)
  unfolding list_bytes
  list_held = ap packs (kept_held s.n (omega arith))

  pub fits_held : queries_fit s ≡ honest_fits s.n s.t xs
  unfolding queries_fit
  fits_held = fits_agree (reaches_of s) (reaches s.t) (total s) (count xs) s.n held tests
