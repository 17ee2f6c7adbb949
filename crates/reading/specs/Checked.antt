-- What the checked bytes of a string give. Assumes nothing.
use Rattle.std.specs.Prelude.{Bool, not, List, ℕ, Result}
use Rattle.format.specs.declared.Record.{Record}
use Rattle.format.specs.declared.Refusal.{Refusal}
use Rattle.format.specs.declared.Refusal.TheVariants.{CheckFails}
use Rattle.format.specs.Reading.{record_at}
use Rattle.format.specs.Records.{field_tests}
use Rattle.format.specs.Standing.{check_passes}
use Rattle.format.specs.Tests.{when, ◌then◌, giving}

-- The tests 6, 7, 8 of the string at the place `at` of these bits, and its record. A refusal by 6 names the place.
unfoldable pub checked : List Bool → (at place : ℕ) → Result Record Refusal
checked bits at place = giving (when (not (check_passes bits at)) (CheckFails place) then field_tests (record_at bits at))
    (record_at bits at)
