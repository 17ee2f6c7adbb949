-- `members::member_tests`: the tests of each record in their order. Assumes nothing.
use borrow.Author.Rules.{rules}
use Rattle.format.specs.Sets.{member_tests}
use Rattle.format.specs.Tests.{◌then◌}
use Rattle.members.proofs.member_tests.Goals as goal

pub returns-in_err-record_tests : goal.returns-in_err-record_tests
unfolding member_tests ◌then◌
returns-in_err-record_tests c = search rules

pub returns-in_err-record_tests-2 : goal.returns-in_err-record_tests-2
unfolding member_tests ◌then◌
returns-in_err-record_tests-2 c = search rules

pub returns : goal.returns
unfolding member_tests ◌then◌
returns c = search rules
