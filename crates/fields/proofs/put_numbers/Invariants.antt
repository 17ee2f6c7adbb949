-- `fields::put_numbers`: what the loop has written or holds when it has come to the place i of the record. Assumes nothing.
use Prim.Native.Nat.{◌+◌}
use Rattle.bits.specs.Bits.{unpack}
use Rattle.fields.proofs.Coding.{WrittenSoFar}
use Rattle.fields.specs.Coded.{after_held}
use Rattle.fields.proofs.put_numbers.Given as goal

abbrev pub invariant-loop-i : goal.invariant-loop-i
invariant-loop-i l =
    WrittenSoFar l.from l.kind l.minus l.numbers (unpack l.initial.part) (after_held l.held (unpack l.part))
    (l.held.at + l.held.count) l.marks l.i
