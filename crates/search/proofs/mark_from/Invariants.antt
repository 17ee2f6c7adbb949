-- `search::mark_from`: no place from `from` to below p has the mark. Assumes nothing.
use Rattle.bits.specs.Bits.{recorded}
use Rattle.search.proofs.Searching.{MarkFree}
use Rattle.search.proofs.mark_from.Given as goal

abbrev pub invariant-loop-p : goal.invariant-loop-p
invariant-loop-p l = MarkFree (recorded l.rec.phase l.rec.bytes.now l.count) l.from l.p
