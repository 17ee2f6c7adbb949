-- `cyclic::generators::generator24`: antt computes every entry and compares it with the table's. Assumes nothing.
use mathlib.Core.Path.{refl}
use native.Mathlib.Omega.{arith}
use Rattle.cyclic.specs.Register.{remainder, check}
use Rattle.cyclic.proofs.Tabled.{tabled}
use Rattle.cyclic.proofs.generators.generator24.Goals as goal

pub invariant_of-result : goal.invariant_of-result
unfolding check remainder
invariant_of-result c = record { is_table = tabled 24 0x1864CFB (omega arith) (omega arith) refl }
