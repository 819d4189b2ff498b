-- `Search::write_total_pair` meets its contract. Both prefixes are read before anything is written.
use mathlib.Core.Path.{◌∙◌}
use Rattle.kept.specs.Kept.{reaches_by}
use Rattle.tree.specs.SearchRule.{is_kept}
use Rattle.levels.specs.Levels.{total_in}
use Rattle.levels.proofs.LevelTotals.{put_two, count_two}
use Rattle.levels.proofs.Search.write_total_pair.Goals as goal

pub returns : goal.returns
returns c =
    let a = c.args in
    let T = total_in a.self.now in
    let both = c.totals_at-first.ensures in record {
      area_after = put_two a.k a.w c.requires.0 a.from a.area.now T a.place c.requires.2 both.first_value both.second_value c.write_le8.ensures c.write_le8-2.ensures;
      value = count_two a.k a.w c.requires.0 a.from a.area.now (is_kept (reaches_by a.self.now.rule) T) (c.one_if_kept.ensures ∙ rw both.first_value) (c.one_if_kept-2.ensures ∙ rw both.second_value);
    }
