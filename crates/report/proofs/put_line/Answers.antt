-- `report::put_line`: the row of the line's numbers. Assumes nothing.
use Rattle.report.proofs.put_line.Goals as goal

pub returns : goal.returns
returns c = rw c.line_numbers.ensures at c.row.ensures
