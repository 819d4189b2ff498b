-- The calls `record_space` and `list_space`: how much space is enough for a search over honest reports.
use Rattle.std.specs.Prelude.{ℕ, Bool, cond, ◌||◌, ltb}
use Rattle.calls.specs.Bounds.{most_bits, threshold_most, most_reports, outside}
use Rattle.tree.specs.Space.{fewest_holders, record_space, list_space}

-- whether n, t or the number of reports is outside its bounds
abbrev pub outside_bounds : ℕ → Bool → ℕ → ℕ → Bool
outside_bounds n weighted t reports = outside most_bits n || (outside (threshold_most weighted) t || ltb most_reports reports)

-- the space that is named for the record: 0 where an argument is outside its bounds, which a search refuses
abbrev pub named_record_space : ℕ → Bool → ℕ → ℕ → ℕ
named_record_space n weighted t reports = cond (outside_bounds n weighted t reports) 0 (record_space n (fewest_holders weighted t) reports)

-- and for the list
abbrev pub named_list_space : ℕ → Bool → ℕ → ℕ → ℕ
named_list_space n weighted t reports = cond (outside_bounds n weighted t reports) 0 (list_space n (fewest_holders weighted t) reports)
