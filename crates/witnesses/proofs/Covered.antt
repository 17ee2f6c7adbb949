-- The premise of reading's clause `covered` is met by recordings that differ: a string with other bytes before and after it reads alike.
-- Assumes nothing.
use Rattle.std.specs.Prelude.{Ok}
use mathlib.Core.Path.{◌≡◌, refl}
use mathlib.Core.List.{List, [], ◌∷◌, ◌++◌}
use Prim.Native.Nat.{ℕ}
use Rattle.bits.specs.declared.Phase.TheVariants.{Straight}
use Rattle.bits.specs.Bits.{recorded, cut, covered_bytes}
use Rattle.cyclic.specs.Register.{remainder}
use Rattle.format.specs.Fields.{in_range, values, minus_zeros}
use Rattle.format.specs.Reading.{information_bits, record_at, reading}
use Rattle.format.specs.Records.{ranges, field_tests}
use Rattle.format.specs.Standing.{check_passes, string_tests}
use Rattle.format.specs.Strings.{string_bits, type_at, length_of, generator_of}
use Rattle.format.specs.Tests.{when, ◌then◌, count_tests, place_tests, answer_of}
use Rattle.format.specs.Types.{places_of}
use Rattle.format.proofs.Theorems.{reading-covered}
use Rattle.witnesses.specs.Strings.{tb959}

-- A string between two bytes.
abbrev around : ℕ → List ℕ
around x = x ∷ (tb959 ++ (x ∷ []))

around_covered : covered_bytes 8 (length_of (type_at (recorded Straight (around 0) 258) 8)) (around 255)
    ≡ covered_bytes 8 (length_of (type_at (recorded Straight (around 0) 258) 8)) (around 0)
unfolding tb959 covered_bytes recorded type_at string_bits cut length_of
around_covered = refl

pub around_alike : reading Straight (around 255) 258 8 ≡ reading Straight (around 0) 258 8
unfolding tb959
around_alike = reading-covered Straight (around 0) (around 255) 258 8 refl around_covered

pub around_reads : answer_of (reading Straight (around 0) 258 8) ≡ Ok tt
unfolding tb959 reading recorded cut string_bits type_at length_of generator_of remainder check_passes string_tests count_tests place_tests
    when ◌then◌ field_tests ranges in_range record_at information_bits values minus_zeros places_of
around_reads = refl
