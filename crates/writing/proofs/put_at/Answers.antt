-- `writing::put_at`: the part that comes back is the string put into the bytes. Assumes nothing.
use native.Mathlib.Omega.{arith}
use Prim.Native.Nat.{◌+◌, ◌*◌, ◌≤◌}
use lib.ListN.{length, length-take, length-drop}
use Rattle.types.proofs.Cases.{length-least}
use Rattle.writing.proofs.Answering.{part_put}
use Rattle.writing.proofs.put_at.Goals as goal

pub overflow_add-place : goal.overflow_add-place
overflow_add-place c = omega (arith, c.requires.0, c.length_of-long.ensures)

pub slice_bounds-put_string-end : goal.slice_bounds-put_string-end
slice_bounds-put_string-end c = omega (arith, c.requires.1, c.length_of-long.ensures, c.div_ceil-last.ensures)

pub put_string-requires : goal.put_string-requires
put_string-requires c =
    let l = length-least _ _ c.length_of-long.ensures in
    let k = c.length_of-long.ensures in
    record {
      passes = c.args.r.passes;
      ends = (omega arith, simp (length-take, length-drop) (omega (arith, c.requires.1, l.0, k, c.div_ceil-last.ensures)));
    }

pub returns : goal.returns
returns c =
    let k = c.length_of-long.ensures in
    let room : c.args.place + c.length_of-long.result ≤ 8 * length c.args.rec.now = omega (arith, k, c.requires.1) in
    part_put c.args.rec.now c.put_string.new.part c.args.place c.length_of-long.result c.div_ceil-last.result c.args.r.content.now
    c.put_string.ensures.long k room (omega (arith, c.div_ceil-last.ensures))
    (λ i. (c.slice_known-2-1.given i).fits) c.put_string.ensures.bits_put
