-- `cuts::put_cuts`: each line goes after those before it. Assumes nothing.
use native.Mathlib.Omega.{arith}
use Rattle.cuts.proofs.Lines.{cuts_none, cut_room, cuts_more}
use Rattle.cuts.proofs.put_cuts.Goals as goal

pub loop-count-init : goal.loop-count-init
loop-count-init c = cuts_none _ _

pub put_cut-requires : goal.put_cut-requires
put_cut-requires c = (omega arith, cut_room _ c.loop-count.invariant c.requires (omega arith))

pub loop-count-preserved : goal.loop-count-preserved
loop-count-preserved c = cuts_more _ c.loop-count.invariant c.requires (omega arith) c.put_cut.ensures
