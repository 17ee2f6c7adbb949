-- The almanac book: which record it holds for each satellite, and what becomes of one that is offered (document 02, U4). Assumes nothing.
use Rattle.std.specs.Prelude.{Result, Option, Some, None}
use Rattle.std.specs.Prelude.{Bool, false, cond, not, ◌&&◌, ◌||◌, List, [], ◌∷◌, ◌++◌, ℕ, ◌-◌, eqb, leb, get_or, set, replicate}
use Rattle.std.specs.Prelude.{ℤ, pos, int_lt}
use Rattle.bits.specs.Bits.{bit}
use Rattle.format.specs.declared.Record.{Record}
use Rattle.format.specs.declared.Refusal.{Refusal}
use Rattle.format.specs.declared.Refusal.TheVariants.{NotAlmanac}
use Rattle.format.specs.Records.{blank, record_tests, record_lines}
use Rattle.format.specs.Tests.{Answer, when, ◌then◌, given_or, giving, Line, on, returned}
use Rattle.format.specs.Types.{last_satellite}
use Rattle.almanac.specs.declared.Book.{Book}
use Rattle.almanac.specs.declared.Entry.{Entry}
use Rattle.almanac.specs.Days.{days_after, is_later}

-- ---- two records of one satellite

-- Fields 12 and 13 of type 20: the age EA and the day NA.
abbrev pub age_of : Record → ℤ
age_of r = get_or r.numbers 2 (pos 0)

abbrev pub day_of : Record → ℤ
day_of r = get_or r.numbers 3 (pos 0)

-- On equal days: whether a record of the first age wins over a held one of the second. The smaller age wins; on equal ages the held one
-- remains.
abbrev pub wins : ℤ → ℤ → Bool
wins new held = int_lt new held

-- Whether a held record is superseded by a new one: by a later day, or on equal days by its age.
unfoldable pub supersedes : Record → Record → Bool
supersedes held new =
    is_later (days_after (day_of held) (day_of new))
    || eqb (days_after (day_of held) (day_of new)) 0 && wins (age_of new) (age_of held)

-- ---- entries and the book

-- Whether an entry is empty. Every flag but 0 says that the record beside it is held.
abbrev pub is_empty : Entry → Bool
is_empty e = eqb e.held 0

abbrev pub empty_entry : Entry
empty_entry = record { held = 0; content = blank }

abbrev pub holding : Record → Entry
holding r = record { held = 1; content = r }

abbrev pub empty_book : Book
empty_book = record { entries = replicate last_satellite empty_entry }

-- The entry of a satellite, 1 to 63: the first is that of satellite 1.
abbrev pub entry_at : Book → ℕ → Entry
entry_at book satellite = get_or book.entries (satellite - 1) empty_entry

-- What the book holds for a satellite; nothing for a number outside 1 to 63.
unfoldable pub entry : Book → ℕ → Option Record
entry book satellite =
    cond (leb 1 satellite && leb satellite last_satellite && not (is_empty (entry_at book satellite)))
    (Some (entry_at book satellite).content)
    None

-- ---- offering a record

-- 7, 8, 11, 10 as in writing, then 15: what offering tests of a record.
unfoldable pub offer_tests : Record → Answer
offer_tests r = record_tests r then when (not (eqb r.kind 20)) NotAlmanac

-- These by number and value.
abbrev pub offer_lines : Record → List Line
offer_lines r = record_lines r ++ (on (not (eqb r.kind 20)) 15 0 ∷ [])

-- Whether an entry takes a record of its satellite: an empty one takes the first that comes.
abbrev pub takes : Entry → Record → Bool
takes e r = is_empty e || supersedes e.content r

-- What offering answers: whether the record is taken, else it is passed over; or why it is refused.
unfoldable pub offering : Book → Record → Result Bool Refusal
offering book r = giving (offer_tests r) (takes (entry_at book r.satellite) r)

-- This by number and value.
abbrev pub offer_returned : Book → Record → ℕ × ℕ
offer_returned book r = returned (offer_lines r) (bit (takes (entry_at book r.satellite) r))

-- A book with a record held for its satellite, and all else as it was.
abbrev pub with_held : Book → Record → Book
with_held book r = record { entries = set book.entries (r.satellite - 1) (holding r) }

-- The book afterwards: with the record, if it is taken.
unfoldable pub book_after : Book → Record → Book
book_after book r = cond (given_or false (offering book r)) (with_held book r) book
