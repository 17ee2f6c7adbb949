-- `sets::read_into`: what was filled, or the set as it was. Assumes nothing.
use mathlib.Core.Path.{refl}
use Rattle.sets.proofs.Answering.{promised}
use Rattle.sets.proofs.read_into.Goals as goal

pub returns-then-is_err-clause-promise : goal.returns-then-is_err-clause-promise
returns-then-is_err-clause-promise c = promised c.args.phase c.args.count c.args.place c.type_inv.rec refl

pub returns-else-is_err-clause-promise : goal.returns-else-is_err-clause-promise
returns-else-is_err-clause-promise c = promised c.args.phase c.args.count c.args.place c.type_inv.rec refl
