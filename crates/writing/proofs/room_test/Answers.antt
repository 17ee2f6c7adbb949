-- `writing::room_test`: by the two cases of the room. Assumes nothing.
use native.Mathlib.Omega.{arith}
use borrow.Author.Tests.{lt-ltb, le-ltb}
use Rattle.format.specs.declared.Refusal.TheVariants.{RunsOut}
use Rattle.format.proofs.Order.{when_yes, when_no}
use Rattle.writing.proofs.room_test.Goals as goal

pub returns-then-long-count : goal.returns-then-long-count
returns-then-long-count c = let a = c.args in when_yes (RunsOut a.place) (lt-ltb a.count _ (omega arith))

pub returns : goal.returns
returns c = let a = c.args in when_no (RunsOut a.place) (le-ltb a.count _ (omega arith))
