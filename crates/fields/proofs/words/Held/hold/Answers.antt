-- `fields::words::Held::hold`: what was held is put, or the new bits join it. Assumes nothing.
use native.Mathlib.Omega.{arith}
use Rattle.bits.proofs.Bytes.{length-unpack}
use Rattle.bits.specs.Bits.{unpack}
use Rattle.fields.proofs.Holding.{joined_lt, joined_put}
use Rattle.fields.proofs.words.Held.hold.Goals as goal

pub invariant_of-self-else-self-field-gt64 : goal.invariant_of-self-else-self-field-gt64
invariant_of-self-else-self-field-gt64 c = record { few = omega arith; small = joined_lt c.args.self.now c.args.field (omega arith) }

pub returns-else-self-field-gt64-clause-bits_put :
    goal.returns-else-self-field-gt64-clause-bits_put
returns-else-self-field-gt64-clause-bits_put c =
    joined_put c.args.self.now c.args.field (omega arith) (unpack c.args.part.now) (omega (arith, length-unpack c.args.part.now))
