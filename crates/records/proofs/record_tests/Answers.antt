-- `records::record_tests`: 7, 8, 11 and 10 in their order, of the record's own places, raw bits and mark. Assumes nothing.
use mathlib.Core.Path.{◌≡◌}
use native.Mathlib.Omega.{arith}
use lib.ListN.{length}
use borrow.Author.Rules.{rules}
use Rattle.format.proofs.Information.{raw_few}
use Rattle.format.specs.Tests.{◌then◌}
use Rattle.format.specs.Records.{raw_bytes, overfilled, record_tests}
use Rattle.records.proofs.record_tests.Goals as goal

pub zero_from-clear-requires : goal.zero_from-clear-requires
zero_from-clear-requires c =
    let long : length c.args.r.now.raw ≡ raw_bytes = search rules in
    omega (arith, long, raw_few c.args.r.now.kind, c.raw_count.ensures)

pub returns-in_err-field_tests : goal.returns-in_err-field_tests
unfolding record_tests ◌then◌
returns-in_err-field_tests c = search rules

pub returns-in_err-zero_test : goal.returns-in_err-zero_test
unfolding record_tests overfilled ◌then◌
returns-in_err-zero_test c = search rules

pub returns : goal.returns
unfolding record_tests overfilled ◌then◌
returns c = search rules
