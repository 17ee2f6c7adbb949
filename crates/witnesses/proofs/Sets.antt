-- Sets: one that is written and reads, and what is answered where sets are refused. Every fact about bits is computed. Assumes nothing.
use Rattle.std.specs.Prelude.{Ok}
use mathlib.Core.Path.{◌≡◌, refl, subst}
use mathlib.Core.List.{List, [], ◌∷◌, ◌++◌, map}
use Prim.Native.Nat.{ℕ}
use native.Mathlib.Omega.{arith}
use lib.ListN.{length, get_or, replicate}
use Rattle.bits.specs.declared.Phase.TheVariants.{Straight}
use Rattle.bits.specs.Bits.{recorded, cut, put, covered_bytes, pack, filled}
use Rattle.cyclic.specs.Register.{check, remainder}
use Rattle.format.specs.Answers.{answer_code, outcome_code}
use Rattle.format.specs.Fields.{in_range, values, minus_zeros, codes}
use Rattle.format.specs.Reading.{information_bits, record_at, reading}
use Rattle.format.specs.Records.{raw_bytes, mark_of, mark_bits, ranges, unused, overfilled, stray, field_tests, record_tests}
use Rattle.format.specs.Sets.{set_tests, set_reading, set_bits, member_tests, set_write_tests, set_writing}
use Rattle.format.specs.Standing.{check_passes, string_tests}
use Rattle.format.specs.Strings.{string_bits, type_at, length_of, generator_of}
use Rattle.format.specs.Tests.{when, ◌then◌, count_tests, place_tests, answer_of}
use Rattle.format.specs.Types.{places_of, raw_count}
use Rattle.format.specs.Writing.{service_bits, content_bits, checked, string, with_bits}
use Rattle.format.proofs.Sets.{TypedSet}
use Rattle.format.proofs.Theorems.{set-written-back, set-covered}
use Rattle.witnesses.specs.Writable.{no_raw}
use Rattle.witnesses.proofs.Writable.{zero-bytes}
use Rattle.witnesses.specs.Sets.{worked, worked_bytes, unlike_bytes, writings, unlike_readings}

-- ---- a set that is written, byte for byte, and reads

abbrev lent : List ℕ
lent = 0xA0 ∷ replicate 94 0

worked_bytes_lem : with_bits 3 (set_bits worked) lent ≡ worked_bytes
unfolding worked_bytes put cut set_bits string checked service_bits content_bits codes check remainder mark_bits mark_of places_of raw_count
    length_of generator_of
worked_bytes_lem = refl

worked-writes : set_writing (length lent) 753 3 worked ≡ Ok 753
unfolding when ◌then◌ set_writing set_write_tests count_tests place_tests member_tests set_tests record_tests field_tests ranges in_range
    unused overfilled stray mark_bits mark_of places_of raw_count length_of generator_of
worked-writes = refl

holds : TypedSet worked
unfolding mark_of places_of
holds =
    let zero : (i : ℕ) → get_or no_raw i 0 ≡ 0 = zero-bytes raw_bytes in
    record {
      first = record { numbers = refl; minus = omega arith; raw = refl; bytes = λ i. omega (arith, zero i) };
      second = record { numbers = refl; minus = omega arith; raw = refl; bytes = λ i. omega (arith, zero i) };
      third = record { numbers = refl; minus = omega arith; raw = refl; bytes = λ i. omega (arith, zero i) };
    }

pub worked-reads : set_reading Straight worked_bytes 753 3 ≡ Ok worked
worked-reads =
    subst (λ (b : List ℕ). set_reading Straight b 753 3 ≡ Ok worked) worked_bytes_lem
    (set-written-back lent 753 3 753 worked holds worked-writes).reads

-- ---- the same set between other bytes reads alike

abbrev around : ℕ → List ℕ
around x = x ∷ (worked_bytes ++ (x ∷ []))

pub around_alike : set_reading Straight (around 255) 776 11 ≡ set_reading Straight (around 0) 776 11
unfolding worked_bytes covered_bytes reading recorded cut string_bits type_at length_of generator_of remainder check_passes string_tests
    count_tests place_tests when ◌then◌ field_tests ranges in_range record_at information_bits values minus_zeros mark_of places_of
    raw_count put pack filled
around_alike = set-covered Straight (around 0) (around 255) 776 11 refl refl (λ one. refl) (λ one two. refl)

pub around_reads : answer_of (set_reading Straight (around 0) 776 11) ≡ Ok tt
unfolding worked_bytes set_reading set_tests reading recorded cut string_bits type_at length_of generator_of remainder check_passes
    string_tests count_tests place_tests when ◌then◌ field_tests ranges in_range record_at information_bits values minus_zeros mark_of
    places_of raw_count put pack filled
around_reads = refl

-- ---- what writing sets answers

pub writings-answer : map (λ w. outcome_code (set_writing 95 w.1 3 w.0)) writings ≡ map (λ w. w.2) writings
unfolding when ◌then◌ set_writing set_write_tests count_tests place_tests member_tests set_tests record_tests field_tests ranges in_range
    unused overfilled stray mark_bits mark_of places_of raw_count length_of generator_of
writings-answer = refl

-- ---- where the strings of a set are looked for

pub unlike_answer : map (λ r. answer_code (set_reading Straight unlike_bytes r.0 0)) unlike_readings ≡ map (λ r. r.1) unlike_readings
unfolding unlike_bytes set_reading set_tests reading recorded cut string_bits type_at length_of generator_of remainder check_passes
    string_tests count_tests place_tests when ◌then◌ field_tests ranges in_range record_at information_bits values minus_zeros mark_of
    places_of raw_count put pack filled
unlike_answer = refl
