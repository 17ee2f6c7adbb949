-- `answers::count_tests`: each return is a case of the tests 1, 2. Assumes nothing.
use native.Mathlib.Omega.{arith}
use Rattle.format.proofs.Tests.{count_long, count-bytes, count_fits}
use Rattle.answers.proofs.count_tests.Goals as goal

pub returns-then-count-gt-BITS : goal.returns-then-count-gt-BITS
returns-then-count-gt-BITS c = count_long _ _ (omega arith)

pub returns-then-div_ceil-bytes : goal.returns-then-div_ceil-bytes
returns-then-div_ceil-bytes c = count-bytes _ _ (omega arith) (omega (arith, c.div_ceil.ensures))

pub returns : goal.returns
returns c = count_fits _ _ (omega arith) (omega (arith, c.div_ceil.ensures))
