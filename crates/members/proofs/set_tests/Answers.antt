-- `members::set_tests`: 12, 13, 14 in their order. Assumes nothing.
use borrow.Author.Rules.{rules}
use Rattle.format.specs.Sets.{set_tests}
use Rattle.format.specs.Tests.{◌then◌, when}
use Rattle.members.proofs.set_tests.Goals as goal

pub returns-then-s-ne10 : goal.returns-then-s-ne10
unfolding set_tests ◌then◌ when
returns-then-s-ne10 c = search rules

pub returns-then-s : goal.returns-then-s
unfolding set_tests ◌then◌ when
returns-then-s c = search rules

pub returns-then-not-follows : goal.returns-then-not-follows
unfolding set_tests ◌then◌ when
returns-then-not-follows c = search rules

pub returns : goal.returns
unfolding set_tests ◌then◌ when
returns c = search rules
