-- `search::next_mark`: no place from `from` to below those of the word k has the mark. Assumes nothing.
use Rattle.std.proofs.Common.{◌+◌, ◌*◌}
use Rattle.bits.specs.Bits.{recorded}
use Rattle.search.proofs.Searching.{MarkFree}
use Rattle.search.proofs.next_mark.Given as goal

abbrev pub invariant-loop-k : goal.invariant-loop-k
invariant-loop-k l = MarkFree (recorded l.rec.phase l.rec.bytes.now l.count) l.from (8 * (l.first + 6 * l.k))
