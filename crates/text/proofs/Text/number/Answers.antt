-- `Text::number`: the digits that are printed are the numeral, and the byte after them stands there. Assumes nothing.
use mathlib.Core.Path.{ap}
use native.Mathlib.Omega.{arith}
use lib.ListN.{length}
use Rattle.text.proofs.Numerals.{decimal-numeral, numeral-length}
use Rattle.text.proofs.Writing.{number_part}
use Rattle.text.proofs.Text.number.Goals as goal

pub write_digits-start-requires : goal.write_digits-start-requires
write_digits-start-requires c =
    (omega (arith, ap length (decimal-numeral c.args.n c.from.ensures (omega arith)), numeral-length c.args.n), omega arith)

pub returns : goal.returns
returns c =
    let w = c.write_digits-start.ensures in
    let d = decimal-numeral c.args.n c.from.ensures (omega arith) in
    rw (number_part c.args.n c.args.end _ _ d w.start w.written) at c.bytes.ensures
