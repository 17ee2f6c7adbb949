-- `bits::Part::word_from`: one load, of the eight bytes at the place or of the last ones; else all bytes. Assumes nothing.
use mathlib.Core.Path.{refl}
use native.Mathlib.Omega.{arith}
use Rattle.bits.proofs.Reading.{word_of_few, word_of_eight}
use Rattle.bits.proofs.Part.word_from.Goals as goal

pub returns-then-end-lt8 : goal.returns-then-end-lt8
returns-then-end-lt8 c =
    let a = c.args in
    word_of_few a.self.phase a.self.bytes.now a.place _ _ _ c.gathered.ensures c.mask.ensures c.requires c.if-end-lt8.true refl

pub returns : goal.returns
returns c =
    let a = c.args in
    word_of_eight a.self.phase a.self.bytes.now a.place _ _ _ c.requires (omega (arith, c.if-end-lt8.false)) c.min-first.ensures
    c.word.ensures refl
