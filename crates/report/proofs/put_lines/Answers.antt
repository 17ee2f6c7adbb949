-- `report::put_lines`: the loop has written the lines of the first starts. Assumes nothing.
use native.Mathlib.Omega.{arith}
use lib.Seq.{take_all}
use Rattle.report.proofs.Printing.{lines_none, line_room, lines_more}
use Rattle.report.proofs.put_lines.Goals as goal

pub loop-start-init : goal.loop-start-init
loop-start-init c = lines_none c.args.rec.now c.args.starts.now _

pub put_line-requires : goal.put_line-requires
put_line-requires c =
    (c.requires.0, c.requires.1 c.loop-start.start-index (omega arith), line_room _ _ c.loop-start.invariant c.requires.2 (omega arith))

pub loop-start-preserved : goal.loop-start-preserved
loop-start-preserved c = lines_more _ _ c.loop-start.invariant c.requires.2 (omega arith) c.put_line.ensures

pub returns : goal.returns
returns c = rw (take_all c.loop-start.start-index c.args.starts.now (omega arith)) at c.loop-start.invariant
