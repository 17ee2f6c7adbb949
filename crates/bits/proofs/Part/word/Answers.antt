-- `bits::Part::word`: eight bytes, and then the mask. Assumes nothing.
use borrow.Author.Rules.{rules}
use Rattle.bits.proofs.Phases.{masked}
use Rattle.bits.proofs.Part.word.Goals as goal

pub returns : goal.returns
returns c =
    let a = c.args in
    masked a.self.phase a.self.bytes.now _ 64 _ _ c.eight_at.ensures c.mask.ensures (search rules)
