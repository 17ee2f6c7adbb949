-- The starred examples of document 01, as rows of one table. Assumes nothing.
use Rattle.format.specs.declared.Refusal.{Refusal}
use Rattle.std.specs.Prelude.{◌≡◌, Bool, true, false, ◌&&◌, List, [], ◌∷◌, ◌++◌, ℕ, ◌-◌, eqb, ℤ, pos, negsuc, replicate, Result}
use Rattle.bits.specs.declared.Phase.TheVariants.{Straight}
use Rattle.bits.specs.Bits.{number, zeros}
use Rattle.cyclic.specs.Register.{check}
use Rattle.format.specs.declared.Record.{Record}
use Rattle.format.specs.Answers.{answer_code, outcome_code}
use Rattle.format.specs.Listing.{listing}
use Rattle.format.specs.Reading.{reading, content_of}
use Rattle.format.specs.Records.{raw_bytes}
use Rattle.format.specs.Strings.{length_of, generator_of, check_bits}
use Rattle.format.specs.Values.{count_of, day_count}
use Rattle.format.specs.Writing.{writing}
use Rattle.witnesses.specs.Strings.{tb959, tb960, omb43199, omb43200, factors, rate_of_xp}

-- What a row says.
pub data Example : Type 0 where
  -- of a type's bits before its check bits only one is set, the last being 1, the last but one 2: the check bits as a number
  check_is : (type from_end value : ℕ) → Example
  -- the listing of so many bits of these bytes into a list of so many entries: the number and the value that it answers
  listing_is : (bytes : List ℕ) (count room number value : ℕ) → Example
  -- the reading at a place: the number and the value that it answers
  reading_is : (bytes : List ℕ) (count place number value : ℕ) → Example
  -- the reading at a place answers 0 and 0: the number in a field of the record, by the field's number, and the whole minus-zero mark
  field_is : (bytes : List ℕ) (count place field : ℕ) (value : ℤ) (minus : ℕ) → Example
  -- the writing of a record at a place of so many bits of so many bytes: the number and the value that it answers
  writing_is : (content : Record) (bytes count place number value : ℕ) → Example
  -- the day count of an interval and a day: the number and the value that it answers
  days_is : (n4 nt : ℤ) (number value : ℕ) → Example

-- A record of type 10 with these tb and OMB; the other unsigned fields are at their least, the signed ones 0.
abbrev pub ephemeris : ℕ → ℕ → Record
ephemeris tb omb =
    record {
      kind = 10;
      satellite = 1;
      signal = 0;
      validity = 0;
      call = 0;
      attitude = 0;
      correction = 0;
      next = 0;
      time = omb;
      numbers =
          pos 1 ∷ pos 1 ∷ pos 0 ∷ pos 0 ∷ pos tb ∷ pos 1 ∷ pos 1 ∷ pos 0 ∷ pos 0 ∷ pos 0 ∷ pos 0 ∷ pos 0 ∷ pos 0 ∷ pos 0 ∷ pos 0 ∷ pos 0
          ∷ [];
      minus = 0;
      raw = replicate raw_bytes 0;
    }

-- A type's bits before its check bits, only one of them set, and the number of the check bits that follow.
abbrev pub only_one : ℕ → ℕ → List Bool
only_one type from_end = zeros (length_of type - check_bits type - from_end) ++ true ∷ zeros (from_end - 1)

abbrev pub check_of : ℕ → ℕ → ℕ
check_of type from_end = number (check (generator_of type) (only_one type from_end))

-- An answer has this number and this value.
abbrev pub Answers : ℕ × ℕ → ℕ → ℕ → Type 0
Answers code number value = (code.0 ≡ number) × (code.1 ≡ value)

-- A reading answers 0 and 0; its record has this number in this field, and this minus-zero mark.
abbrev pub Reads : Result Record Refusal → ℕ → ℤ → ℕ → Type 0
Reads found field value minus =
    Answers (answer_code found) 0 0 × (count_of (content_of found) field ≡ value) × ((content_of found).minus ≡ minus)

abbrev pub Says : Example → Type 0
Says (check_is type from_end value) = check_of type from_end ≡ value
Says (listing_is bytes count room number value) = Answers (outcome_code (listing Straight bytes count room)) number value
Says (reading_is bytes count place number value) = Answers (answer_code (reading Straight bytes count place)) number value
Says (field_is bytes count place field value minus) = Reads (reading Straight bytes count place) field value minus
Says (writing_is r bytes count place number value) = Answers (outcome_code (writing bytes count place r)) number value
Says (days_is n4 nt number value) = Answers (outcome_code (day_count n4 nt)) number value

-- The rows, in the order of document 01, 1 to 11; 8 and 9 take four rows each, two of reading and two of writing, and 10 and 11 take two.
-- Fields 19 and 20 of type 10 are the accuracy factors, and the mark's bit 10 is that of field 20; field 13 of type 25 is the rate of xp.
abbrev pub rows : List Example
rows =
    check_is 10 1 0x6F63
    ∷ check_is 10 2 0xDEC6
    ∷ check_is 2 1 0x864CFB
    ∷ check_is 2 2 0x8AD50D
    ∷ field_is factors 250 0 19 (negsuc 14) 0x400
    ∷ field_is factors 250 0 20 (pos 0) 0x400
    ∷ field_is rate_of_xp 250 0 13 (negsuc 254) 0
    ∷ reading_is tb959 250 0 0 0
    ∷ reading_is tb960 250 0 7 14
    ∷ writing_is (ephemeris 959 0) 32 250 0 0 250
    ∷ writing_is (ephemeris 960 0) 32 250 0 7 14
    ∷ reading_is omb43199 250 0 0 0
    ∷ reading_is omb43200 250 0 7 9
    ∷ writing_is (ephemeris 0 43199) 32 250 0 0 250
    ∷ writing_is (ephemeris 0 43200) 32 250 0 7 9
    ∷ listing_is [] 0 0 0 0
    ∷ reading_is [] 0 0 5 0
    ∷ days_is (pos 1) (pos 1) 0 0
    ∷ days_is (pos 2) (pos 1) 0 1461
    ∷ []

-- The test of a row, which the checker computes.
abbrev pub same_int : ℤ → ℤ → Bool
same_int (pos a) (pos b) = eqb a b
same_int (pos a) (negsuc b) = false
same_int (negsuc a) (pos b) = false
same_int (negsuc a) (negsuc b) = eqb a b

abbrev pub same_answer : ℕ × ℕ → ℕ → ℕ → Bool
same_answer code number value = eqb code.0 number && eqb code.1 value

abbrev pub same_field : Result Record Refusal → ℕ → ℤ → ℕ → Bool
same_field found field value minus =
    same_answer (answer_code found) 0 0 && (same_int (count_of (content_of found) field) value && eqb (content_of found).minus minus)

abbrev pub holds : Example → Bool
holds (check_is type from_end value) = eqb (check_of type from_end) value
holds (listing_is bytes count room number value) = same_answer (outcome_code (listing Straight bytes count room)) number value
holds (reading_is bytes count place number value) = same_answer (answer_code (reading Straight bytes count place)) number value
holds (field_is bytes count place field value minus) = same_field (reading Straight bytes count place) field value minus
holds (writing_is r bytes count place number value) = same_answer (outcome_code (writing bytes count place r)) number value
holds (days_is n4 nt number value) = same_answer (outcome_code (day_count n4 nt)) number value

abbrev pub all_hold : List Example → Bool
all_hold [] = true
all_hold (e ∷ es) = holds e && all_hold es

-- Each row of a list.
abbrev pub Each : (Example → Type 0) → List Example → Type 0
Each P [] = Unit {0}
Each P (e ∷ es) = P e × Each P es
