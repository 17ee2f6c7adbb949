-- `fields::numbers_at`: what the loop has decoded when it has come to the place i of the record. Assumes nothing.
use Rattle.bits.specs.Bits.{true_bits}
use Rattle.fields.proofs.Decoding.{ReadSoFar}
use Rattle.fields.proofs.numbers_at.Given as goal

abbrev pub invariant-loop-i : goal.invariant-loop-i
invariant-loop-i l = ReadSoFar (true_bits l.part.phase l.part.bytes.now) l.from l.kind l.numbers l.minus l.at l.i
