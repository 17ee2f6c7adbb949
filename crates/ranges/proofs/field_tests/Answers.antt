-- `ranges::field_tests`: 7 and 8 in their order, of the record's own orbit. Assumes nothing.
use mathlib.Core.Path.{ap₂, ◌∙◌}
use lib.IntN.{pos}
use lib.ListN.{get_or}
use mir.Facts.{to_z-of_z}
use mir.Syntax.{w64}
use Rattle.format.specs.Tests.{◌then◌}
use Rattle.format.specs.Records.{field_tests}
use Rattle.format.proofs.Order.{and_then}
use Rattle.ranges.proofs.field_tests.Goals as goal

pub returns : goal.returns
unfolding field_tests
returns c =
    let numbers = c.args.r.now.numbers in
    let v = to_z-of_z {w = w64} {z = get_or numbers 0 (pos 0)} (record { sfits = c.orbit_test-arg-1.given }) in
    c.and.ensures ∙ and_then _ _ ∙ ap₂ ◌then◌ c.all_ranges.ensures (rw v at c.orbit_test.ensures)
