-- `records::marks_test`: no bit strays where none is set. Assumes nothing.
use mathlib.Core.Path.{sym}
use Rattle.records.proofs.Tests.{stray-done}
use Rattle.records.proofs.marks_test.Goals as goal

pub returns-then-r-eq0 : goal.returns-then-r-eq0
returns-then-r-eq0 c = sym (stray-done _ _ _ _ _ c.if-r-eq0.true)
