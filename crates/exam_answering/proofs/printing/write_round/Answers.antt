-- `exam_answering::printing::write_round` meets its contract.
use Prim.Native.Nat.{ℕ}
use mathlib.Core.Path.{◌≡◌}
use mathlib.Core.List.{List}
use lib.ListN.{drop}
use Rattle.exam_answering.specs.Printing.{entry_lines}
use Rattle.exam_answering.proofs.PrintedLines.{round_lines, round_lines_lem, round_room}
use Rattle.exam_answering.proofs.printing.write_round.Goals as goal
use Rattle.exam_answering.proofs.printing.write_round.Goals.{After-query_length-totals}

abbrev bytes : After-query_length-totals → List ℕ
bytes q = q.args.rounds.now

-- the lines of the prefixes are those of the round
lines : (q : After-query_length-totals)
    → entry_lines q.prefix_length-k.result q.prefix_count-count.result (drop 6 (bytes q)) (drop q.query_length-totals.result (bytes q))
    ≡ round_lines (bytes q)
lines q = round_lines_lem (bytes q) _ _ _ q.prefix_length-k.ensures.0 q.prefix_count-count.ensures.0 q.query_length-totals.ensures

pub write_entries-requires : goal.write_entries-requires
write_entries-requires c =
    record { k_in_bounds = round_room (bytes (goal.at.write_entries-requires c).After-query_length-totals) _ _ _ c.prefix_length-k.ensures.0 c.prefix_count-count.ensures.0 c.query_length-totals.ensures c.requires.rounds_in_bounds; round_in_bounds = rw (lines (goal.at.write_entries-requires c).After-query_length-totals) c.requires.rounds_in_bounds_2 }

pub returns : goal.returns
returns c =
    let is = lines (goal.at.returns c).After-query_length-totals in
    record { value = rw is at c.write_entries.ensures.value; out_after = rw is at c.write_entries.ensures.out_after }
