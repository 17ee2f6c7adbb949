-- `cyclic::Generator::bytes_after`: the register after the bytes up to i. Assumes nothing.
use Rattle.std.proofs.Common.{◌≡◌, ◌*◌}
use Rattle.bits.specs.Bits.{number, true_bits}
use Rattle.cyclic.proofs.Remainders.{after}
use Rattle.cyclic.proofs.Generator.bytes_after.Given as goal

abbrev pub invariant-loop-i : goal.invariant-loop-i
invariant-loop-i l = l.register ≡ number (after (true_bits l.part.phase l.part.bytes.now) 0 l.self.number l.self.degree l.start (8 * l.i))
