-- `puts::put_four`: four bytes stored are the bits of their number put. Assumes nothing.
use mathlib.Core.Path.{◌∙◌}
use native.Mathlib.Omega.{arith}
use Rattle.puts.proofs.Writing.{put_four}
use Rattle.puts.proofs.put_four.Goals as goal

pub returns : goal.returns
returns c =
    let a = c.args in
    put_four a.part.now c.copy_from_slice.new.self a.i _ a.value c.low-four.result c.requires (omega arith)
    (c.copy_from_slice.ensures.after ∙ c.to_be_bytes.ensures) c.low-four.ensures
