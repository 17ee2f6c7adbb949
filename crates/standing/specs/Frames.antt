-- What is at a place, up to the check. Assumes nothing.
use Rattle.std.specs.Prelude.{Bool, not, List, ℕ, zero, suc, ◌+◌, length, drop, Option, Some, None, Result}
use Rattle.format.specs.declared.Refusal.{Refusal}
use Rattle.format.specs.declared.Refusal.TheVariants.{NoMark, RunsOut}
use Rattle.format.specs.Standing.{begins}
use Rattle.format.specs.Strings.{mark, type_at, length_of}
use Rattle.format.specs.Tests.{Answer, when, ◌then◌, giving, above}
use Rattle.standing.specs.declared.Frame.{Frame}

-- The tests 5 (18 bits), 4, 5 of the string at a place: those of its frame.
unfoldable pub frame_tests : List Bool → ℕ → Answer
frame_tests bits place =
    when (above (place + 18) (length bits)) (RunsOut place)
    then when (not (begins mark (drop place bits))) (NoMark place)
    then when (above (place + length_of (type_at bits place)) (length bits)) (RunsOut place)

-- Its type and its length, where they pass.
unfoldable pub frame_at : List Bool → ℕ → Result Frame Refusal
frame_at bits place = giving (frame_tests bits place) (record { kind = type_at bits place; long = length_of (type_at bits place) })

-- The length of what stands, or nothing where it is 0.
abbrev pub as_length : ℕ → Option ℕ
as_length zero = None
as_length (suc n) = Some (suc n)
