-- `answers::place_tests`: 3 after 1 and 2. Assumes nothing.
use borrow.Author.Rules.{rules}
use Rattle.format.specs.Tests.{place_tests, ◌then◌}
use Rattle.answers.proofs.place_tests.Goals as goal

pub returns-in_err-count_tests : goal.returns-in_err-count_tests
unfolding place_tests ◌then◌
returns-in_err-count_tests c = search rules

pub returns : goal.returns
unfolding place_tests ◌then◌
returns c = search rules
