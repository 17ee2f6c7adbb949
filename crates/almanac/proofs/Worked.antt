-- Worked offers: days across the end of an interval, with the premise of the promise met; and that the premise is needed, by three days
-- around the circle. Assumes nothing.
use Rattle.std.specs.Prelude.{Err, Some, None}
use mathlib.Core.Path.{◌≡◌, refl}
use mathlib.Core.Bool.{true}
use mathlib.Core.List.{List, [], ◌∷◌}
use Prim.Native.Nat.{ℕ, ◌<◌}
use native.Mathlib.Omega.{arith}
use lib.IntN.{ℤ, pos}
use lib.ListN.{replicate}
use Rattle.std.proofs.lemmas.List.Elements.{All-from_recursion}
use Rattle.format.specs.declared.Record.{Record}
use Rattle.format.specs.declared.Refusal.TheVariants.{OutOfRange, NotZero, NotAlmanac}
use Rattle.format.specs.Fields.{in_range}
use Rattle.format.specs.Records.{field_tests, ranges, unused, overfilled, stray, mark_bits, record_tests}
use Rattle.format.specs.Strings.{length_of, generator_of}
use Rattle.format.specs.Types.{places_of, raw_count}
use Rattle.format.specs.Tests.{when, ◌then◌}
use Rattle.almanac.specs.Book.{day_of, supersedes, entry, offer_tests, offering, book_after, empty_book}
use Rattle.almanac.specs.Days.{days_after, row_days}
use Rattle.almanac.specs.Offers.{book_of, came, InRow, Current}
use Rattle.almanac.proofs.Rows.{apart}

-- a record by its type, satellite, OMB, Ns, age and day, and an almanac of satellite 5
abbrev record_of : ℕ → ℕ → ℕ → ℕ → ℕ → ℕ → Record
record_of kind satellite time count age day =
    record {
      kind = kind;
      satellite = satellite;
      signal = 0;
      validity = 0;
      call = 0;
      attitude = 0;
      correction = 0;
      next = 0;
      time = time;
      numbers = pos 0 ∷ pos count ∷ pos age ∷ pos day ∷ replicate 12 (pos 0);
      minus = 0;
      raw = replicate 38 0;
    }

abbrev almanac : ℕ → ℕ → ℕ → Record
almanac time = record_of 20 5 time 24

-- offers, the latest first: day 2 is later than day 1461; day 1460 is passed over; age 4 is smaller than 9; and of two of age 4 the first
-- remains
abbrev offers : List Record
offers = almanac 5 4 2 ∷ almanac 4 4 2 ∷ almanac 3 1 1460 ∷ almanac 2 9 2 ∷ almanac 1 3 1461 ∷ []

-- days 488, 975 and 1, around the circle
abbrev around : List Record
around = almanac 3 0 1 ∷ almanac 2 0 975 ∷ almanac 1 0 488 ∷ []

pub computed : (came 5 offers ≡ offers)
    × (entry (book_of offers) 5 ≡ Some (almanac 4 4 2))
    × (entry (book_of offers) 6 ≡ None)
    × (came 5 around ≡ around)
    × (entry (book_of around) 5 ≡ Some (almanac 3 0 1))
    × (offering empty_book (record_of 20 5 0 24 0 1462) ≡ Err (OutOfRange 13))
    × (offering empty_book (record_of 0 64 0 0 0 0) ≡ Err (OutOfRange 2))
    × (offering empty_book (record_of 0 5 0 24 0 0) ≡ Err NotZero)
    × (offering empty_book (record_of 0 5 0 0 0 0) ≡ Err NotAlmanac)
unfolding entry book_of book_after offering supersedes days_after offer_tests record_tests field_tests places_of raw_count length_of
    generator_of ranges in_range unused overfilled stray mark_bits when ◌then◌
computed = (refl, refl, refl, refl, refl, refl, refl, refl, refl)

-- the days of the first lie in the row that begins with day 1460
pub in_row : InRow (pos 1460) offers
unfolding days_after
in_row =
    All-from_recursion (λ r. days_after (pos 1460) (day_of r) < row_days) offers
    (omega arith, (omega arith, (omega arith, (omega arith, (omega arith, tt)))))

-- each day of the circle is later than the one before it
pub circle : (supersedes (almanac 1 0 488) (almanac 2 0 975) ≡ true) × (supersedes (almanac 2 0 975) (almanac 3 0 1) ≡ true)
    × (supersedes (almanac 3 0 1) (almanac 1 0 488) ≡ true)
unfolding supersedes days_after
circle = (refl, refl, refl)

-- they lie in no row
pub no_row : (first : ℤ) → InRow first around → ⊥
unfolding days_after
no_row first row =
    omega (
      arith,
      row 0 (almanac 0 0 0) (omega arith),
      row 1 (almanac 0 0 0) (omega arith),
      row 2 (almanac 0 0 0) (omega arith),
      apart first (pos 1) (pos 488),
      apart first (pos 488) (pos 975),
    )

-- and what is held is not of the latest of their days, counted from day 1
pub not_latest : Current (pos 1) around (almanac 3 0 1) → ⊥
unfolding days_after
not_latest c = omega (arith, c.latest 1 (almanac 0 0 0) (omega arith))
