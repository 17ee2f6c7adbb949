-- `bits::Part::byte`: a byte, with the mask of the phase, is the number of its true bits. Assumes nothing.
use Rattle.std.proofs.Common.{rules, ◌<◌, get_or}
use Rattle.bits.proofs.Reading.{true_byte}
use Rattle.bits.proofs.Part.byte.Goals as goal

pub returns : goal.returns
returns c =
    let a = c.args in
    let fits : get_or a.self.bytes.now a.i 0 < 256 = search rules in
    true_byte a.self.phase a.self.bytes.now a.i _ _ _ c.from.ensures fits c.mask.ensures c.low.ensures c.requires
