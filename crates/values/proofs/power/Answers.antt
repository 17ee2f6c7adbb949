-- `values::power`: the bits of the exponent alone. Assumes nothing.
use borrow.Author.Rules.{rules}
use native.Mathlib.Omega.{arith}
use Prim.Native.Nat.{◌<◌}
use Rattle.values.proofs.Product.{power-exact, power_no_nan}
use Rattle.values.proofs.power.Goals as goal

pub float_from_bits-result : goal.float_from_bits-result
float_from_bits-result c = rw c.from.ensures (power_no_nan c.args.k (let h : c.args.k < 256 = search rules in omega arith))

pub returns : goal.returns
returns c = rw c.from.ensures (power-exact c.args.k (let h : c.args.k < 256 = search rules in omega arith))
