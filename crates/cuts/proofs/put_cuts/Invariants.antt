-- `cuts::put_cuts`: the loop has written the lines of the counts below `count`. Assumes nothing.
use Rattle.text.specs.Writing.{Adds}
use Rattle.cuts.specs.Cuts.{cuts}
use Rattle.cuts.proofs.put_cuts.Given as goal

abbrev pub invariant-loop-count : goal.invariant-loop-count
invariant-loop-count l = Adds (cuts l.rec l.count) l.initial.text l.text
