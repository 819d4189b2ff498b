use Rattle.exam_reports.proofs.LineReports.{areas, Written}
use Rattle.exam_reports.proofs.reports.write_reports.Given as goal

abbrev pub invariant-loop-i : goal.invariant-loop-i
invariant-loop-i l =
    Written l.sheet.n l.sheet.expander l.text l.sheet.lines l.i (areas l.initial.seeds0 l.initial.seeds1 l.initial.shares) (areas l.seeds0 l.seeds1 l.shares)
