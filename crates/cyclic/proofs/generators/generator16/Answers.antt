-- `cyclic::generators::generator16`: antt computes every entry and compares it with the table's. Assumes nothing.
use mathlib.Core.Path.{refl}
use native.Mathlib.Omega.{arith}
use Rattle.cyclic.specs.Register.{remainder, check}
use Rattle.cyclic.proofs.Tabled.{tabled}
use Rattle.cyclic.proofs.generators.generator16.Goals as goal

pub invariant_of-result : goal.invariant_of-result
unfolding check remainder
invariant_of-result c = record { is_table = tabled 16 0x16F63 (omega arith) (omega arith) refl }
