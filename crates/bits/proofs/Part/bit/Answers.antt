-- `bits::Part::bit`: one bit of its byte. Assumes nothing.
use mathlib.Core.Path.{refl}
use Rattle.bits.proofs.Reading.{the_bit}
use Rattle.bits.proofs.Part.bit.Goals as goal

pub returns : goal.returns
returns c =
    let a = c.args in
    the_bit a.self.phase a.self.bytes.now a.place _ _ c.byte.ensures.0 c.requires refl
