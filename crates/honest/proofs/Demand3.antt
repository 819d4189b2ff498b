-- Demand 3: what the record of an accepted search tells, and what it consists of.
use mathlib.Core.Path.{◌≡◌, sym, ap, ap₂, ◌∙◌, subst}
use mathlib.Core.Bool.{Bool}
use mathlib.Core.Logic.{◌↔◌}
use mathlib.Core.List.{List, ◌++◌, append_assoc}
use Prim.Native.Nat.{ℕ, ◌^◌, ◌≤◌, ◌<◌}
use native.Mathlib.Omega.{arith}
use lib.ListN.{length, take}
use lib.Seq.{take_at}
use lib.IntN.{ℤ}
use Rattle.bits.specs.Strings.{Bits}
use Rattle.numbers.specs.Numbers.{big}
use Rattle.numbers.proofs.Endian.{big_length}
use Rattle.kept.specs.Kept.{reaches_as}
use Rattle.point.specs.PublicShare.{joined}
use Rattle.weights.specs.Weights.{EveryOne}
use Rattle.query.specs.Query.{OfLength, packs, query, children}
use Rattle.tree.specs.SearchRule.{start, totals, level, heading, heading_length, search_record, search_list}
use Rattle.tree.specs.Cut.{honest_record, cuts, Rearranged}
use Rattle.tree.proofs.Demands.{records_tell_cuts, records_tell_lists}
use Rattle.tree.proofs.Lengths.{record_length_lem}
use Rattle.tree.proofs.Steps as steps
use Rattle.search.specs.Search.{Lent, counted_number, threshold_of, reaches_of, total, record_bytes, list_bytes, record_length}
use Rattle.search.proofs.Outcome.{accepted_clear}
use Rattle.honest.specs.Honest.{Accepted, record_read, list_read, Honest, counted_strings}
use Rattle.honest.proofs.Reading.{record_read_lem, record_whole, list_read_lem, levels_joined}
use Rattle.honest.proofs.SoundShares.{total_below}
use Rattle.honest.proofs.Counted.{few_strings, accepted_record}

-- For any two accepted searches of honest reports, every weight one, with equal string length and threshold, whatever the seeds, the expander and the
-- number of reports of each, and whether or not either is weighted, the records are equal in length and in every byte exactly when the two lists of cut
-- strings are rearrangements of each other.
pub records_alike : (s u : Lent) (xs ys : List Bits) (ws vs : List ℤ) → Honest s xs ws → Honest u ys vs → EveryOne ws → EveryOne vs
    → s.n ≡ u.n → threshold_of s ≡ threshold_of u → Accepted s → Accepted u
    → (record_read s ≡ record_read u) ↔ Rearranged (cuts (threshold_of s) (counted_strings s xs)) (cuts (threshold_of u) (counted_strings u ys))
records_alike s u xs ys ws vs honest honest' ones ones' bits threshold ok ok' =
    let n_bits : OfLength s.n ys = rw (← bits) at honest'.n_bits in
    let records = records_tell_cuts s.n (threshold_of s) xs ys (accepted_clear s ok).sound.some_bits honest.n_bits n_bits
    (few_strings s xs ws honest ok) (few_strings u ys vs honest' ok') in
    let left = accepted_record s xs ws honest ok ones in
    let right : record_read u ≡ honest_record s.n (threshold_of s) ys =
    accepted_record u ys vs honest' ok' ones' ∙ ap₂ (λ (n t : ℕ). honest_record n t ys) (sym bits) (sym threshold) in
    subst (λ (t : ℕ). (record_read s ≡ record_read u) ↔ Rearranged (cuts (threshold_of s) xs) (cuts t ys)) threshold
    (λ same. records.0 (sym left ∙ same ∙ right), λ cut. left ∙ records.1 cut ∙ sym right)

-- Whatever reports were lent, two accepted searches, both weighted or neither, with equal string length, threshold and record have equal lists.
pub records_lists : (s u : Lent) → s.n ≡ u.n → s.weighted ≡ u.weighted → threshold_of s ≡ threshold_of u → Accepted s → Accepted u
    → record_read s ≡ record_read u → list_read s ≡ list_read u
unfolding record_bytes list_bytes
records_lists s u bits weighted threshold ok ok' same =
    let records : search_record (reaches_of s) (total s) (counted_number s) s.n ≡ search_record (reaches_of s) (total u) (counted_number u) s.n =
    sym (record_read_lem s ok) ∙ same ∙ record_read_lem u ok'
    ∙ ap₂ (λ (n : ℕ) (r : ℕ → Bool). search_record r (total u) (counted_number u) n) (sym bits) (sym rule) in
    let lists : search_list (reaches_of s) (total s) s.n ≡ search_list (reaches_of u) (total u) u.n =
    records_tell_lists (reaches_of s) (total s) (total u) (small s) (small u) (counted_number s) (counted_number u) s.n records
    ∙ ap₂ (λ (n : ℕ) (r : ℕ → Bool). search_list r (total u) n) bits rule in
    list_read_lem s ok ∙ ap packs lists ∙ sym (list_read_lem u ok')
  where
    rule : reaches_of s ≡ reaches_of u
    rule = ap₂ reaches_as weighted threshold

    small : (s : Lent) (q : Bits) → total s q < 256 ^ 8
    small s q = omega (arith, total_below s q)

-- Whatever reports were lent, the record of an accepted search has the length that it returns, and lies in the record area.
pub record_inside : (s : Lent) → Accepted s → (length (record_read s) ≡ record_length s) × (record_length s ≤ length s.record_area)
record_inside s ok = record_whole s ok

-- Whatever reports were lent, the record of an accepted search begins with the number of reports that were counted, as 8 bytes, big-endian;
pub record_reports : (s : Lent) → Accepted s → take 8 (record_read s) ≡ big 8 (counted_number s)
unfolding record_bytes search_record
record_reports s ok = ap (take 8) (record_read_lem s ok) ∙ take_at (big 8 (counted_number s)) _ 8 (big_length 8 (counted_number s))

-- so it has at least these bytes;
pub record_headed : (s : Lent) → Accepted s → heading_length ≤ length (record_read s)
unfolding record_bytes
record_headed s ok = omega (arith, ap length (record_read_lem s ok), record_length_lem (reaches_of s) (total s) (counted_number s) s.n)

-- behind them stand the first query, for `0` and `1`, and its two totals.
pub record_begins : (s : Lent) → Accepted s
    → (rest : List ℕ) × (record_read s ≡ heading (counted_number s) ++ (query 0 (children start) ++ (totals (total s) (children start) ++ rest)))
unfolding record_bytes
record_begins s ok =
    let begins = steps.record_begins (reaches_of s) (total s) (counted_number s) s.n (accepted_clear s ok).sound.some_bits in
    (_, record_read_lem s ok ∙ begins ∙ ap (λ (r : List ℕ). heading (counted_number s) ++ r) (append_assoc (query 0 (children start)) (totals (total s) (children start)) _))

-- Whatever reports were lent, the record of an accepted search is the number of reports, and each query followed by its totals, level by level.
pub record_levels : (s : Lent) → Accepted s
    → record_read s ≡ heading (counted_number s) ++ joined s.n (λ k. level (total s) k (children (search_list (reaches_of s) (total s) k)))
unfolding record_bytes search_record
record_levels s ok = record_read_lem s ok ∙ ap (λ (r : List ℕ). heading (counted_number s) ++ r) (levels_joined (reaches_of s) (total s) s.n)
