-- The records of `specs/Writable` write, by computation, and so one of them reads back. Assumes nothing.
use Rattle.std.specs.Prelude.{Ok}
use Rattle.format.specs.Tests.{Outcome}
use mathlib.Core.Path.{◌≡◌, refl}
use mathlib.Core.List.{List, map}
use Prim.Native.Nat.{ℕ, zero, suc, ◌+◌}
use native.Mathlib.Omega.{arith}
use lib.ListN.{length, get_or, replicate}
use Rattle.bits.specs.Bits.{pack, filled, put, cut}
use Rattle.format.specs.Tests.{when, ◌then◌, count_tests, place_tests}
use Rattle.format.specs.Fields.{in_range}
use Rattle.format.specs.Records.{mark_of, mark_bits, ranges, field_tests, unused, overfilled, stray, record_tests, raw_bytes}
use Rattle.format.specs.Strings.{length_of, generator_of}
use Rattle.format.specs.Types.{places_of, raw_count}
use Rattle.format.specs.Writing.{string, writing, write_tests, bytes_after, ReadsBack}
use Rattle.format.proofs.Writing.{Typed}
use Rattle.format.proofs.RoundTrips.{written_back}
use Rattle.witnesses.specs.Writable.{kinds, lowest, highest, minus_zero}

-- At place 3 of 384 bits, not at a byte's edge: the place after each string.
abbrev after : ℕ → Outcome
after t = Ok (3 + length_of t)

pub lowest_write : map (λ t. writing 48 384 3 (lowest t)) kinds ≡ map after kinds
unfolding when ◌then◌ writing write_tests count_tests place_tests record_tests field_tests ranges in_range unused overfilled stray mark_bits
    places_of raw_count length_of generator_of
lowest_write = refl

pub highest_write : map (λ t. writing 48 384 3 (highest t)) kinds ≡ map after kinds
unfolding when ◌then◌ writing write_tests count_tests place_tests record_tests field_tests ranges in_range unused overfilled stray mark_bits
    places_of raw_count length_of generator_of put pack filled cut
highest_write = refl

pub minus_zero_write : map (λ t. writing 48 384 3 (minus_zero t)) kinds ≡ map after kinds
unfolding when ◌then◌ writing write_tests count_tests place_tests record_tests field_tests ranges in_range unused overfilled stray mark_bits
    mark_of places_of raw_count length_of generator_of
minus_zero_write = refl

-- One of them reads back from forty-eight bytes that were all 170.
pub zero-bytes : (n i : ℕ) → ◌≡◌ {A = ℕ} (get_or (replicate n 0) i 0) 0
zero-bytes zero i = refl
zero-bytes (suc n) zero = refl
zero-bytes (suc n) (suc i) = zero-bytes n i

holds : Typed (minus_zero 11)
unfolding mark_of places_of
holds = record { numbers = refl; minus = omega arith; raw = refl; bytes = λ i. omega (arith, zero-bytes raw_bytes i) }

abbrev lent : List ℕ
lent = replicate 48 170

written : writing (length lent) 384 3 (minus_zero 11) ≡ Ok 253
unfolding when ◌then◌ writing write_tests count_tests place_tests record_tests field_tests ranges in_range unused overfilled stray mark_bits
    mark_of places_of raw_count length_of generator_of
written = refl

pub reads-back : ReadsBack (bytes_after (Ok 253) 3 (string (minus_zero 11)) lent) 384 3 (minus_zero 11)
reads-back = written_back lent 384 3 253 (minus_zero 11) holds written
