-- `reading::read_into`: what was filled, or the record as it was. Assumes nothing.
use mathlib.Core.Path.{refl}
use Prim.Native.Nat.{ℕ, ◌<◌}
use lib.ListN.{get_or}
use Rattle.reading.proofs.Chain.{promised}
use Rattle.reading.proofs.read_into.Goals as goal

pub returns-then-is_err-clause-promise : goal.returns-then-is_err-clause-promise
returns-then-is_err-clause-promise c =
    let below : (i : ℕ) → get_or c.args.rec.now i 0 < 256 = λ i. (c.type_inv.rec i).fits in promised _ _ _ _ below refl

pub returns-else-is_err-clause-promise : goal.returns-else-is_err-clause-promise
returns-else-is_err-clause-promise c =
    let below : (i : ℕ) → get_or c.args.rec.now i 0 < 256 = λ i. (c.type_inv.rec i).fits in promised _ _ _ _ below refl
