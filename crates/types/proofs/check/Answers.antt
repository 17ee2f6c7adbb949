-- `types::check`: the generator is the type's. Assumes nothing.
use Rattle.types.proofs.Cases.{check_by}
use Rattle.types.proofs.check.Goals as goal

pub returns : goal.returns
returns c = check_by _ c.generator_of.ensures.generator c.check.ensures
