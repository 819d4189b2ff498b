-- The call `search`: document 01, 'The search' and 'Causes of refusal', and document 02, [1] and [4].
use Rattle.std.specs.Prelude.{ℕ, ◌/◌, ◌<◌, Bool, true, false, cond, not, ◌&&◌, ◌||◌, List, [], ◌∷◌, ◌++◌, ◌≢◌, ◌⊎◌, length, replicate, ltb, eqb, Option, Some, None}
use Rattle.bits.specs.Strings.{Bits}
use Rattle.places.specs.Places.{overlay}
use Rattle.calls.specs.Bounds.{length_cause, threshold_cause, expander_cause, reports_cause}
use Rattle.calls.specs.Causes.{Cause, cause, number_due}
use Rattle.expander.specs.Expander.{choice_of}
use Rattle.expander.specs.declared.Expander.{Expander}
use Rattle.kept.specs.Kept.{reaches_as}
use Rattle.query.specs.Query.{packs, limit, children}
use Rattle.tree.specs.SearchRule.{search_record, search_list, search_fits}
use Rattle.levels.specs.Levels.{total_of, Ending, ending_with}
use Rattle.search.specs.declared.Found.{Found}
use Rattle.report_sums.specs.Reports.{report_count}
use Rattle.report_sums.specs.Checks.{WrongLengths, wrong_lengths, PayloadTooLarge, payload_too_large, SpareBitsSet, spare_bits_set}

-- What a search is lent: the string length, whether it is weighted, the threshold and the expander's number; each server's root seeds and public
-- shares; the record area and the list area.
pub record Lent : Type 0 where
  pub n : ℕ
  pub weighted : Bool
  pub t : ℕ
  pub expander : ℕ
  pub seeds0 : List ℕ
  pub shares0 : List ℕ
  pub seeds1 : List ℕ
  pub shares1 : List ℕ
  pub record_area : List ℕ
  pub list_area : List ℕ

-- the same, by its parts
abbrev pub lent : ℕ → Bool → ℕ → ℕ → List ℕ → List ℕ → List ℕ → List ℕ → List ℕ → List ℕ → Lent
lent n weighted t expander seeds0 shares0 seeds1 shares1 record_area list_area = record {
  n = n;
  weighted = weighted;
  t = t;
  expander = expander;
  seeds0 = seeds0;
  shares0 = shares0;
  seeds1 = seeds1;
  shares1 = shares1;
  record_area = record_area;
  list_area = list_area;
}

-- how many reports there are
abbrev pub reports : Lent → ℕ
reports s = length s.seeds0 / 16

-- C: how many of them are counted, which is all
abbrev pub counted_number : Lent → ℕ
counted_number s = reports s

-- the threshold t
abbrev pub threshold_of : Lent → ℕ
threshold_of s = s.t

-- whether a total, as a whole number and in a weighted search as a signed one, is at least t
abbrev pub reaches_of : Lent → ℕ → Bool
reaches_of s = reaches_as s.weighted (threshold_of s)

-- ---- the search

-- the total of the prefix q under the expander that was chosen; without one, 0
unfoldable pub total_under : Option Expander → Lent → Bits → ℕ
total_under (Some e) s q = total_of e s.n s.seeds0 s.shares0 s.seeds1 s.shares1 q
total_under None s q = 0

abbrev pub total : Lent → Bits → ℕ
total s = total_under (choice_of s.expander) s

-- the record: C, and each query followed by its totals
unfoldable pub record_bytes : Lent → List ℕ
record_bytes s = search_record (reaches_of s) (total s) (counted_number s) s.n

-- the list: the kept strings of n bits, packed
unfoldable pub list_bytes : Lent → List ℕ
list_bytes s = packs (search_list (reaches_of s) (total s) s.n)

-- whether every query is within 131,070 prefixes
unfoldable pub queries_fit : Lent → Bool
queries_fit s = search_fits (reaches_of s) (total s) s.n

-- ---- causes of refusal

-- a next query would pass 131,070 prefixes: for some k below n, the kept prefixes of k bits have more children than that
abbrev pub QueryTooLong : Lent → Type 0
QueryTooLong s = (k : ℕ) × (k < s.n) × (limit < length (children (search_list (reaches_of s) (total s) k)))

-- whether two lists of bytes are the same
abbrev pub same_bytes : List ℕ → List ℕ → Bool
same_bytes [] [] = true
same_bytes [] (y ∷ ys) = false
same_bytes (x ∷ xs) [] = false
same_bytes (x ∷ xs) (y ∷ ys) = eqb x y && same_bytes xs ys

-- those of the settings: n, t, which a weighted search bounds otherwise, and the expander
abbrev pub settings_causes : ℕ → Bool → ℕ → ℕ → List Cause
settings_causes n weighted t expander = length_cause n ∷ threshold_cause weighted t ∷ expander_cause expander ∷ []

-- of how much is lent
abbrev pub amount_causes : ℕ → List ℕ → List ℕ → List ℕ → List ℕ → List Cause
amount_causes n seeds0 shares0 seeds1 shares1 =
    cause 4 (WrongLengths n seeds0 shares0 ⊎ WrongLengths n seeds1 shares1 ⊎ (length seeds0 ≢ length seeds1))
    (wrong_lengths n seeds0 shares0 || (wrong_lengths n seeds1 shares1 || not (eqb (length seeds0) (length seeds1))))
    ∷ reports_cause (length seeds0 / 16)
    ∷ []

-- of the reports
abbrev pub public_share_causes : ℕ → List ℕ → List ℕ → List ℕ → List ℕ → List Cause
public_share_causes n seeds0 shares0 seeds1 shares1 =
    cause 6 (PayloadTooLarge n (report_count n seeds0 shares0) shares0 ⊎ PayloadTooLarge n (report_count n seeds1 shares1) shares1) (payload_too_large n (report_count n seeds0 shares0) shares0 || payload_too_large n (report_count n seeds1 shares1) shares1)
    ∷ cause 7 (SpareBitsSet n (report_count n seeds0 shares0) shares0 ⊎ SpareBitsSet n (report_count n seeds1 shares1) shares1) (spare_bits_set n (report_count n seeds0 shares0) shares0 || spare_bits_set n (report_count n seeds1 shares1) shares1)
    ∷ cause 8 (shares0 ≢ shares1) (not (same_bytes shares0 shares1))
    ∷ []

-- of the space
abbrev pub space_causes : Lent → List Cause
space_causes s =
    cause 11 ((length s.record_area < length (record_bytes s)) ⊎ (length s.list_area < length (list_bytes s)) ⊎ QueryTooLong s)
    (ltb (length s.record_area) (length (record_bytes s)) || (ltb (length s.list_area) (length (list_bytes s)) || not (queries_fit s)))
    ∷ []

-- those of what is lent, before the space
abbrev pub lent_causes : Lent → List Cause
lent_causes s =
    settings_causes s.n s.weighted s.t s.expander
    ++ (amount_causes s.n s.seeds0 s.shares0 s.seeds1 s.shares1 ++ public_share_causes s.n s.seeds0 s.shares0 s.seeds1 s.shares1)

-- all, in the order in which they are judged
abbrev pub search_causes : Lent → List Cause
search_causes s = lent_causes s ++ space_causes s

-- ---- the outcome

-- the number
unfoldable pub search_number : Lent → ℕ
search_number s = number_due (search_causes s)

-- what is written where the number is 0; else nothing
abbrev pub on_success : ℕ → List ℕ → List ℕ
on_success number bytes = cond (eqb number 0) bytes []

-- the lengths written
unfoldable pub record_length : Lent → ℕ
record_length s = length (on_success (search_number s) (record_bytes s))

unfoldable pub list_length : Lent → ℕ
list_length s = length (on_success (search_number s) (list_bytes s))

-- the record area at exit: zero bytes where the number is 11, else what is written in the place of its beginning
unfoldable pub record_after : Lent → List ℕ
record_after s = cond (eqb (search_number s) 11) (replicate (length s.record_area) 0) (overlay (on_success (search_number s) (record_bytes s)) s.record_area)

-- the list area at exit
unfoldable pub list_after : Lent → List ℕ
list_after s = overlay (on_success (search_number s) (list_bytes s)) s.list_area

-- what the call returns, and both areas at exit
abbrev pub search_ending : Lent → Ending
search_ending s = ending_with (search_number s) (record_length s) (list_length s) (record_after s) (list_after s)

-- what was returned, and both areas as they were left
abbrev pub returned : Found → List ℕ → List ℕ → Ending
returned r record_area list_area = ending_with r.number r.record_length r.list_length record_area list_area
