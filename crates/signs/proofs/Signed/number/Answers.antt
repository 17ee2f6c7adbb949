-- `signs::Signed::number`: a field below minus zero is its own number, and any other a negated magnitude. Assumes nothing.
use mathlib.Core.Path.{refl}
use native.Mathlib.Omega.{arith}
use Rattle.signs.proofs.Signs.{plus_is, minus_of}
use Rattle.signs.proofs.Signed.number.Goals as goal

pub returns-then-self-minus_zero : goal.returns-then-self-minus_zero
returns-then-self-minus_zero c = let f = c.args.self.fits in plus_is _ _ _ (omega arith) f.1 refl c.if-self-minus_zero.true

pub returns : goal.returns
returns c = let f = c.args.self.fits in minus_of _ _ _ (omega arith) f.1 refl f.2 c.if-self-minus_zero.false
