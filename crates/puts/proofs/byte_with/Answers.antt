-- `puts::byte_with`: the byte's three parts, joined, are the number of the bits put anew. Assumes nothing.
use Prim.Native.Nat.{◌<◌}
use borrow.Author.Rules.{rules}
use Rattle.puts.proofs.Writing.{byte_lt, byte_bits, the_byte_with}
use Rattle.puts.proofs.byte_with.Goals as goal

pub overflow_cast-result : goal.overflow_cast-result
overflow_cast-result c =
    let a = c.args in
    let h : a.b < 256 = search rules in
    let is = the_byte_with a.b a.skip a.n a.c c.requires.0 c.requires.1 h _ _ c.from-x.ensures c.low.ensures in
    record { fits = rw is (byte_lt a.b a.skip a.n a.c c.requires.0 c.requires.1 h) }

pub returns : goal.returns
returns c =
    let a = c.args in
    let h : a.b < 256 = search rules in
    byte_bits a.b a.skip a.n a.c c.requires.0 c.requires.1 h _
    (the_byte_with a.b a.skip a.n a.c c.requires.0 c.requires.1 h _ _ c.from-x.ensures c.low.ensures)
