-- `signs::Signed::is_minus_zero`: minus zero is the one field with this number. Assumes nothing.
use native.Mathlib.Omega.{arith}
use Rattle.signs.proofs.Signs.{minus_zero_is}
use Rattle.signs.proofs.Signed.is_minus_zero.Goals as goal

pub returns : goal.returns
returns c =
    let f = c.args.self.fits in
    minus_zero_is _ _ (omega arith) f.1 f.2
