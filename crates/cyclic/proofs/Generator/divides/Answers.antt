-- `cyclic::Generator::divides`: the remainder is 0 exactly where the generator divides. Assumes nothing.
use Rattle.cyclic.proofs.Remainders.{tested}
use Rattle.cyclic.proofs.Generator.divides.Goals as goal

pub returns : goal.returns
returns c = tested _ _ c.args.self.is_table.highest _ _ c.remainder.ensures
