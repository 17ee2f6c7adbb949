-- `report::line_numbers`: the service fields from the bytes that they cover, and reading's number. Assumes nothing.
use native.Mathlib.Omega.{arith}
use Rattle.bits.proofs.Phases.{part_covers}
use Rattle.report.proofs.Printing.{line_is}
use Rattle.report.proofs.line_numbers.Goals as goal

pub service_numbers-requires : goal.service_numbers-requires
service_numbers-requires c = rw c.covering.ensures.0 (part_covers _ _ 50 (omega arith))

pub returns : goal.returns
returns c =
    line_is _ _ (omega arith) (rw c.covering.ensures.0 at c.service_numbers.ensures) c.result_at-result.ensures
