-- `recording::Recording::new`: the tests that passed. Assumes nothing.
use mathlib.Core.Path.{sym, ◌∙◌}
use Rattle.format.proofs.Tests.{count-passes}
use Rattle.recording.proofs.Recording.new.Goals as goal

pub invariant_of-result : goal.invariant_of-result
invariant_of-result c = record { passes = count-passes _ _ (sym c.count_tests.ensures ∙ c.in_ok-count_tests.was) }
