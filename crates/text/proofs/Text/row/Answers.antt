-- `Text::row`: the numbers before the last one, each with a comma, and then the last one. Assumes nothing.
use native.Mathlib.Omega.{arith}
use Rattle.text.proofs.Numerals.{row_empty}
use Rattle.text.proofs.Writing.{adds_none, row_none, row_room, row_more, row_all}
use Rattle.text.proofs.Text.row.Goals as goal

pub loop-n-init : goal.loop-n-init
loop-n-init c = row_none _ _ _

pub number-requires : goal.number-requires
number-requires c = row_room c.in-Some.ensures.cases c.requires c.loop-n.invariant (omega arith)

pub loop-n-preserved : goal.loop-n-preserved
loop-n-preserved c = row_more c.in-Some.ensures.cases c.requires c.loop-n.invariant (omega arith) c.number.ensures

pub number-requires-in-Some : goal.number-requires-in-Some
number-requires-in-Some c = row_room c.in-Some.ensures.cases c.requires c.loop-n.invariant (omega arith)

pub returns-after-loop-n : goal.returns-after-loop-n
returns-after-loop-n c = row_all c.in-Some.ensures.cases c.requires c.loop-n.invariant (omega arith) (omega arith) c.number-in-Some.ensures

pub returns-in_default : goal.returns-in_default
returns-in_default c = rw (row_empty c.args.numbers.now c.in_default.ensures.cases) (adds_none _)
