-- What several calls ask of what they are lent, and the causes where it is not so: the bounds of document 01, and of document 02, [1].
use Rattle.std.specs.Prelude.{ℕ, ◌<◌, Bool, cond, not, ◌||◌, ◌≢◌, ◌⊎◌, ltb}
use Rattle.expander.specs.Expander.{is_expander}
use Rattle.calls.specs.Causes.{Cause, cause}

-- the most bits of a string, the greatest threshold, also that of a weighted search, the most reports
abbrev pub most_bits : ℕ
most_bits = 256

abbrev pub most_threshold : ℕ
most_threshold = 65535

abbrev pub most_weighted_threshold : ℕ
most_weighted_threshold = 2147483647

abbrev pub most_reports : ℕ
most_reports = 65535

-- x is outside the bounds from 1 to `most`; and the test
abbrev pub Outside : ℕ → ℕ → Type 0
Outside most x = (x < 1) ⊎ (most < x)

abbrev pub outside : ℕ → ℕ → Bool
outside most x = ltb x 1 || ltb most x

-- 1: n is outside its bounds
abbrev pub length_cause : ℕ → Cause
length_cause n = cause 1 (Outside most_bits n) (outside most_bits n)

-- the greatest threshold of a search that is weighted or not, and the number that refuses one outside its bounds: 2, or 12 where it is weighted
abbrev pub threshold_most : Bool → ℕ
threshold_most weighted = cond weighted most_weighted_threshold most_threshold

abbrev pub threshold_number : Bool → ℕ
threshold_number weighted = cond weighted 12 2

-- 2, or 12 where the search is weighted: t is outside its bounds
abbrev pub threshold_cause : Bool → ℕ → Cause
threshold_cause weighted t = cause (threshold_number weighted) (Outside (threshold_most weighted) t) (outside (threshold_most weighted) t)

-- 3: the expander is not 1 or 2
abbrev pub expander_cause : ℕ → Cause
expander_cause e = cause 3 ((e ≢ 1) × (e ≢ 2)) (not (is_expander e))

-- 5: there are more than 65,535 reports
abbrev pub reports_cause : ℕ → Cause
reports_cause reports = cause 5 (most_reports < reports) (ltb most_reports reports)

-- 11: bytes of this size would not fit the room
abbrev pub space_cause : ℕ → ℕ → Cause
space_cause size room = cause 11 (room < size) (ltb room size)
