-- `members::follows`: by its test. Assumes nothing.
use native.Mathlib.Omega.{arith}
use borrow.Author.Tests.{lt-ltb, le-ltb}
use Rattle.members.proofs.follows.Goals as goal

pub overflow_add-result : goal.overflow_add-result
overflow_add-result c = omega (arith, c.if-time-lt-LAST_TIME.true)

pub returns-then-time-lt-LAST_TIME : goal.returns-then-time-lt-LAST_TIME
returns-then-time-lt-LAST_TIME c = simp (lt-ltb _ _ c.if-time-lt-LAST_TIME.true)

pub returns-else-time-lt-LAST_TIME : goal.returns-else-time-lt-LAST_TIME
returns-else-time-lt-LAST_TIME c = simp (le-ltb _ _ c.if-time-lt-LAST_TIME.false)
