-- `puts::put_in_byte`: a byte stored with some of its bits anew. Assumes nothing.
use mathlib.Core.Path.{refl}
use borrow.Author.Rules.{rules}
use Rattle.bits.specs.Bits.{bits}
use Rattle.bits.proofs.Numbers.{length-bits}
use Rattle.puts.proofs.Writing.{set_with}
use Rattle.puts.proofs.put_in_byte.Goals as goal

pub returns : goal.returns
returns c =
    let a = c.args in
    set_with a.part.now a.i a.skip _ _ (bits a.n a.c) (search rules) refl (rw length-bits (search rules))
    c.byte_with.ensures
