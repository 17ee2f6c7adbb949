-- `Text::row`: the loop has written the first numbers before the last one. Assumes nothing.
use Rattle.text.proofs.Writing.{RowSoFar}
use Rattle.text.proofs.Text.row.Given as goal

abbrev pub invariant-loop-n : goal.invariant-loop-n
invariant-loop-n l = RowSoFar l.others l.last l.n-index l.initial.self l.self
