-- Demands 2 and 3 on strings: what the list of an honest search holds, and what its record tells.
use Prim.Native.Nat.{ℕ, zero, suc, ◌^◌, ◌≤◌, ◌<◌}
use native.Mathlib.Omega.{arith}
use mathlib.Core.Path.{◌≡◌, sym, ap, ap₂, ◌∙◌}
use mathlib.Core.Logic.{◌↔◌}
use mathlib.Core.Bool.{Bool}
use mathlib.Core.List.{List, ◌++◌, map}
use lib.ListN.{length, drop, length-map}
use lib.Seq.{drop_at}
use Rattle.places.specs.Lists.{◌∈◌}
use Rattle.bits.specs.Strings.{Bits, ◌▹◌, is_prefix, count, Ascending}
use Rattle.kept.specs.Kept.{reaches}
use Rattle.query.specs.Query.{OfLength}
use Rattle.tree.specs.SearchRule.{start, heading, heading_length, search_record, search_list}
use Rattle.tree.specs.Cut.{Heavy, honest_record, honest_list, cut, cuts, times, Rearranged}
use Rattle.places.proofs.Lists.{all_mem}
use Rattle.tree.proofs.Rearranging.{rearranged_number, rearranged_length, ascending_once}
use Rattle.tree.proofs.Kept.{Open, open_prefixes, Survives, list_survives, list_exact, list_ascending}
use Rattle.tree.proofs.Totals.{heavy, heavy_open, survives_heavy, count_le}
use Rattle.tree.proofs.Cutting.{trim, cuts_trim, count_trim, times_trim, agree_cut}
use Rattle.tree.proofs.Records.{agree→record, record→kept, record→agree}
use Rattle.tree.proofs.Lengths.{heading_length_lem}

-- ---- demand 2

-- The list holds every string of n bits that at least t installations hold, and no other.
pub honest_exact : (n t : ℕ) (xs : List Bits) → 1 ≤ n → (s : Bits) → (s ∈ honest_list n t xs) ↔ ((length s ≡ n) × Heavy t xs s)
honest_exact zero t xs h s = absurd (omega arith)
honest_exact (suc n) t xs h s = (
  λ i. let v = all_mem (Survives (heavy t xs) (suc n)) (list_survives (reaches t) (count xs) (suc n)) i in (v.0, survives_heavy n t xs s v),
  λ c. (list_exact (reaches t) (count xs) (suc n) s).1 (c.0, (open_prefixes (heavy t xs) s).0 (heavy_open t xs s c.1)),
)

-- It is strictly ascending.
pub honest_ascending : (n t : ℕ) (xs : List Bits) → Ascending (honest_list n t xs)
honest_ascending n t xs = list_ascending (reaches t) (count xs) n

-- So no string stands in it twice.
pub honest_once : (n t : ℕ) (xs : List Bits) (s : Bits) → times s (honest_list n t xs) ≤ 1
honest_once n t xs s = ascending_once s (honest_list n t xs) (honest_ascending n t xs)

-- ---- demand 3

-- The records differ in what stands after the heading, if at all.
heading_apart : (C D : ℕ) (r s : List ℕ) → heading C ++ r ≡ heading D ++ s → r ≡ s
heading_apart C D r s e =
    sym (drop_at (heading C) r heading_length (heading_length_lem C)) ∙ ap (drop heading_length) e ∙ drop_at (heading D) s heading_length (heading_length_lem D)

-- Two honest records for strings of n bits with the threshold t are equal exactly when the two lists of cut strings are rearrangements of each other.
pub records_tell_cuts : (n t : ℕ) (xs ys : List Bits) → 1 ≤ n → OfLength n xs → OfLength n ys → length xs ≤ 65535 → length ys ≤ 65535
    → (honest_record n t xs ≡ honest_record n t ys) ↔ Rearranged (cuts t xs) (cuts t ys)
unfolding search_record
records_tell_cuts n t xs ys h ax ay cx cy = (
  λ e. rw (cuts_trim t xs, cuts_trim t ys) (λ s.
      times_trim n (heavy t xs) s xs ax
      ∙ agree_cut (reaches t) n (count xs) (count ys) s (λ z. absurd (omega arith))
      (record→agree (reaches t) (count xs) (count ys) (small xs cx) (small ys cy) n (heading_apart (length xs) (length ys) _ _ e))
      ∙ sym (times_trim n (heavy t ys) s ys ay)),
  λ r. ap₂ (λ C s. heading C ++ s) (as_many r) (agree→record (reaches t) (count xs) (count ys) (same (rw (cuts_trim t xs, cuts_trim t ys) at r)) n),
)
  where
    small : (zs : List Bits) → length zs ≤ 65535 → (q : Bits) → count zs q < 256 ^ 8
    small zs c q = omega (arith, count_le zs q)

    as_many : Rearranged (cuts t xs) (cuts t ys) → length xs ≡ length ys
    as_many r = sym (length-map xs (cut t xs)) ∙ rearranged_length (cuts t xs) (cuts t ys) r ∙ length-map ys (cut t ys)

    same : Rearranged (map (trim (heavy t xs)) xs) (map (trim (heavy t ys)) ys) → (p : Bits) (b : Bool)
        → Open (heavy t xs) p × Open (heavy t ys) p → count xs (p ▹ b) ≡ count ys (p ▹ b)
    same r p b o =
        sym (count_trim (heavy t xs) p b xs o.0)
        ∙ rearranged_number (is_prefix (p ▹ b)) (map (trim (heavy t xs)) xs) (map (trim (heavy t ys)) ys) r
        ∙ count_trim (heavy t ys) p b ys o.1

-- Where all totals fit 8 bytes, two searches for strings of n bits with the same test of a total and equal records have equal lists.
pub records_tell_lists : (reaches : ℕ → Bool) (T U : Bits → ℕ) → ((q : Bits) → T q < 256 ^ 8) → ((q : Bits) → U q < 256 ^ 8) → (C D n : ℕ)
    → search_record reaches T C n ≡ search_record reaches U D n → search_list reaches T n ≡ search_list reaches U n
unfolding search_record search_list
records_tell_lists reaches T U small small' C D n e = record→kept reaches T U small small' n 0 start (heading_apart C D _ _ e)
