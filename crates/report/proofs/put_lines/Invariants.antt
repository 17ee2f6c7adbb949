-- `report::put_lines`: the loop has written the lines of the first starts. Assumes nothing.
use lib.ListN.{take}
use Rattle.text.specs.Writing.{Adds}
use Rattle.report.specs.Report.{lines}
use Rattle.report.proofs.put_lines.Given as goal

abbrev pub invariant-loop-start : goal.invariant-loop-start
invariant-loop-start l = Adds (lines l.rec (take l.start-index l.starts)) l.initial.text l.text
