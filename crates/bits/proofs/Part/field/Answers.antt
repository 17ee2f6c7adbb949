-- `bits::Part::field`: no bits make 0. Assumes nothing.
use borrow.Author.Rules.{rules}
use Rattle.bits.proofs.Reading.{no_bits}
use Rattle.bits.proofs.Part.field.Goals as goal

pub returns-then-width-eq0 : goal.returns-then-width-eq0
returns-then-width-eq0 c = no_bits _ _ _ (search rules)
