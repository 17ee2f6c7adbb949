-- `bits::Part::nonempty_field`: cut from the word at its first byte. Assumes nothing.
use mathlib.Core.Path.{ap, ◌∙◌}
use Prim.Native.Nat.{ℕ, ◌+◌, ◌-◌, ◌/◌, ◌%◌, ◌^◌}
use native.Mathlib.Omega.{arith}
use Rattle.bits.specs.Bits.{word_at, cut_of_word}
use Rattle.bits.proofs.Reading.{word_field, shifted_out}
use Rattle.bits.proofs.Part.nonempty_field.Goals as goal

pub returns : goal.returns
unfolding cut_of_word
returns c =
    let a = c.args in
    let skip = a.from % 8 in
    ap (λ (x : ℕ). x / 2 ^ (64 - a.width)) c.word_from.ensures
    ∙ shifted_out (word_at a.self.phase a.self.bytes.now (a.from / 8)) skip a.width (64 - (skip + a.width)) (omega (arith, c.requires.1))
    ∙ word_field a.self.phase a.self.bytes.now a.from a.width c.requires.1 c.requires.2
