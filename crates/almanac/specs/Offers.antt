-- What a book holds after offers from the empty book on, and what offering promises (document 02, U4). Assumes nothing.
use Rattle.std.specs.Prelude.{Ok, Result, Some, None}
use Rattle.std.specs.Prelude.{◌≡◌, Bool, true, ◌&&◌, ◌⊎◌, ◌↔◌, List, [], ◌∷◌, ◌++◌, ℕ, ◌<◌, ◌≤◌, eqb, length}
use Rattle.std.specs.Prelude.{ℤ, ◌≤ℤ◌}
use Rattle.std.specs.List.{All, filter}
use Rattle.format.specs.declared.Record.{Record}
use Rattle.format.specs.declared.Refusal.{Refusal}
use Rattle.format.specs.Answers.{taken_code}
use Rattle.format.specs.Tests.{is_passed}
use Rattle.almanac.specs.declared.Book.{Book}
use Rattle.almanac.specs.Days.{days_after, most_later, row_days}
use Rattle.almanac.specs.Book.{age_of, day_of, wins, empty_book, entry, offer_tests, offering, offer_returned, book_after}

-- ---- offers one after another

-- The book after offers from the empty book on, the latest of which stands first.
unfoldable pub book_of : List Record → Book
book_of [] = empty_book
book_of (r ∷ before) = book_after (book_of before) r

-- Whether an offer is a record of a satellite, unrefused.
abbrev pub comes : ℕ → Record → Bool
comes satellite r = is_passed (offer_tests r) && eqb r.satellite satellite

-- The records of a satellite that came unrefused, the latest first. Refused offers count for nothing.
abbrev pub came : ℕ → List Record → List Record
came satellite offers = filter (comes satellite) offers

-- The days of records lie among the 731 in a row, modulo 1461, of which `first` is the first.
abbrev pub InRow : ℤ → List Record → Type 0
InRow first came = All (λ r. days_after first (day_of r) < row_days) came

-- Of records that came, the latest first, the one that the entry has to hold.
pub record Current (first : ℤ) (came : List Record) (kept : Record) : Type 0 where
  -- it is one of these, with those that came later, and those that came earlier
  pub later : List Record
  pub earlier : List Record
  pub one : came ≡ later ++ kept ∷ earlier
  -- of the latest of their days in the row
  pub latest : All (λ r. days_after first (day_of r) ≤ days_after first (day_of kept)) came
  -- with the smallest age on that day
  pub youngest : All (λ r. day_of r ≡ day_of kept → age_of kept ≤ℤ age_of r) came
  -- and the first that came of those
  pub first_come : All (λ r. day_of r ≡ day_of kept → age_of r ≡ age_of kept → ⊥) earlier

-- What a book holds for a satellite after offers: nothing where no record of it came unrefused; else, where the days of these lie in a row,
-- one of them, as above.
pub record HoldsAfter (offers : List Record) (book : Book) (satellite : ℕ) : Type 0 where
  pub nothing : came satellite offers ≡ [] → entry book satellite ≡ None
  pub current : (first : ℤ) → InRow first (came satellite offers) → 0 < length (came satellite offers)
      → (kept : Record) × (entry book satellite ≡ Some kept) × Current first (came satellite offers) kept

-- ---- what offering promises

-- A held record is superseded by a new one, in words: its day is 1 to 730 days later, or the days are equal and its age wins.
abbrev pub Supersedes : Record → Record → Type 0
Supersedes held new =
    ((1 ≤ days_after (day_of held) (day_of new)) × (days_after (day_of held) (day_of new) ≤ most_later))
    ⊎ ((days_after (day_of held) (day_of new) ≡ 0) × (wins (age_of new) (age_of held) ≡ true))

-- A record is taken, in words: it is not refused, and supersedes what the book holds for its satellite, if it holds anything.
pub record Taken (book : Book) (r : Record) : Type 0 where
  pub unrefused : offer_tests r ≡ Ok tt
  pub newer : (held : Record) → entry book r.satellite ≡ Some held → Supersedes held r

-- Of the book before, the record, the answer and the book afterwards.
pub record OfferPromise (before : Book) (r : Record) (answer : Result Bool Refusal) (after : Book) : Type 0 where
  -- the answer and the book afterwards
  pub answered : answer ≡ offering before r
  pub left : after ≡ book_after before r
  -- the answer by number and value
  pub numbered : taken_code answer ≡ offer_returned before r
  -- taken exactly where the words say so
  pub exact : (answer ≡ Ok true) ↔ Taken before r
  -- a record that is taken is then the entry of its satellite
  pub taken : answer ≡ Ok true → entry after r.satellite ≡ Some r
  -- refused or passed over, the book is as it was
  pub unchanged : (answer ≡ Ok true → ⊥) → after ≡ before
  -- and so are the entries of other satellites, always
  pub others : (satellite : ℕ) → (r.satellite ≡ satellite → ⊥) → entry after satellite ≡ entry before satellite
  -- after any offers from the empty book on, it holds what it has to
  pub current : (offers : List Record) → before ≡ book_of offers → (satellite : ℕ) → HoldsAfter (r ∷ offers) after satellite
