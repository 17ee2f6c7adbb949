-- `bits::low`: the mask leaves the remainder by a power of two. Assumes nothing.
use Rattle.bits.proofs.Reading.{one_shl_pos, the_low}
use Rattle.bits.proofs.low.Goals as goal

pub overflow_sub-result : goal.overflow_sub-result
overflow_sub-result c = one_shl_pos _ c.requires

pub returns : goal.returns
returns c = the_low _ _ c.requires
