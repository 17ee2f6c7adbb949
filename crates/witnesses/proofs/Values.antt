-- The bits of `specs/Values`, both ends of the accuracy factor, and numbers that name no field with a power, computed. Assumes nothing.
use Rattle.std.specs.Prelude.{Ok, Err}
use mathlib.Core.Path.{◌≡◌, refl}
use mathlib.Core.List.{List, [], ◌∷◌, map}
use Prim.Native.Nat.{ℕ}
use lib.IntN.{pos, negsuc}
use lib.Ieee.{binary64, to_bits, of_bits, size}
use Rattle.format.specs.declared.Refusal.TheVariants.{OutOfRange}
use Rattle.format.specs.Answers.{value_code}
use Rattle.format.specs.Tests.{when, ◌then◌}
use Rattle.format.specs.Fields.{in_range}
use Rattle.format.specs.Records.{ranges, field_tests, unused, overfilled, stray, mark_bits, record_tests}
use Rattle.format.specs.Types.{places_of, raw_count}
use Rattle.format.specs.Strings.{length_of, generator_of}
use Rattle.format.specs.Values.{power_of, count_of, digit_bits, scaled_bits, scaling, accuracy}
use Rattle.witnesses.specs.Values.{Pattern, patterns, position}

pub given : map (λ (p : Pattern). scaling p.content p.field) patterns
    ≡ map (λ (p : Pattern). Ok (of_bits binary64 p.bits)) patterns
unfolding scaling power_of count_of scaled_bits digit_bits size of_bits when ◌then◌ record_tests field_tests ranges in_range unused
    overfilled stray mark_bits places_of raw_count length_of generator_of
given = refl

pub same_bits : map (λ (p : Pattern). to_bits binary64 (value_code (scaling p.content p.field)).2) patterns
    ≡ map (λ (p : Pattern). p.bits) patterns
unfolding to_bits scaling power_of count_of scaled_bits digit_bits size of_bits when ◌then◌ record_tests field_tests ranges in_range unused
    overfilled stray mark_bits places_of raw_count length_of generator_of
same_bits = refl

-- No field, service fields, a reserve field, a place that the type does not use, past the last: 7 and the number.
abbrev powerless : List ℕ
powerless = 0 ∷ 1 ∷ 9 ∷ 16 ∷ 17 ∷ 26 ∷ []

pub no_power : map (scaling (position (pos 1) 0)) powerless ≡ map (λ n. Err (OutOfRange n)) powerless
unfolding scaling power_of count_of when ◌then◌ record_tests field_tests ranges in_range unused overfilled stray mark_bits places_of
    raw_count length_of generator_of
no_power = refl

-- The ends of the table, the factor that is undefined, and the first on each side that is refused.
pub accuracies : map accuracy (negsuc 15 ∷ negsuc 14 ∷ pos 14 ∷ pos 15 ∷ pos 16 ∷ [])
    ≡ Err (OutOfRange 19) ∷ Ok 1 ∷ Ok 51200 ∷ Ok 0 ∷ Err (OutOfRange 19) ∷ []
unfolding accuracy ranges in_range
accuracies = refl
