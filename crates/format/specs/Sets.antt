-- Ephemeris sets: three strings, of types 10, 11 and 12, each where the one before it ends (document 02, U1). Assumes nothing.
use Rattle.format.specs.declared.Refusal.{Refusal}
use Rattle.std.specs.Prelude.{Ok, Result}
use Rattle.format.specs.Tests.{Answer, Outcome, answer_of}
use Rattle.std.specs.Prelude.{◌≡◌, Bool, cond, ◌&&◌, not, List, [], ◌∷◌, ◌++◌, ◌↔◌, ℕ, ◌+◌, eqb, ltb, length}
use Rattle.bits.specs.declared.Phase.{Phase}
use Rattle.bits.specs.declared.Phase.TheVariants.{Straight}
use Rattle.bits.specs.Bits.{recorded, true_bytes, cut}
use Rattle.format.specs.declared.Refusal.TheVariants.{RunsOut, OtherTypes, OtherSatellites, OtherTimes}
use Rattle.format.specs.declared.Set.{Set}
use Rattle.format.specs.Answers.{answer_code, outcome_code}
use Rattle.format.specs.Reading.{reading, read_lines, SameThere, content_of}
use Rattle.format.specs.Records.{record_tests, record_lines, blank}
use Rattle.format.specs.Strings.{length_of}
use Rattle.format.specs.Tests.{when, ◌then◌, giving, Line, on, returned, above, place_tests, place_lines}
use Rattle.format.specs.Types.{last_time}
use Rattle.format.specs.Writing.{string, bytes_after, ReadsBack}

-- ---- the tests of a set

-- OMB of the next string: one more, and 0 after 43199.
abbrev pub next_time : ℕ → ℕ
next_time time = cond (ltb time last_time) (time + 1) 0

-- 12: the types are not 10, 11, 12 in order.
abbrev pub other_types : Set → Bool
other_types s = not (eqb s.first.kind 10 && eqb s.second.kind 11 && eqb s.third.kind 12)

-- 13: the satellite numbers differ.
abbrev pub other_satellites : Set → Bool
other_satellites s = not (eqb s.second.satellite s.first.satellite && eqb s.third.satellite s.first.satellite)

-- 14: OMB does not rise by one each time.
abbrev pub other_times : Set → Bool
other_times s = not (eqb s.second.time (next_time s.first.time) && eqb s.third.time (next_time s.second.time))

-- 12, 13, 14: what reading and writing test of a set.
unfoldable pub set_tests : Set → Answer
set_tests s = when (other_types s) OtherTypes then when (other_satellites s) OtherSatellites then when (other_times s) OtherTimes

-- These by number and value.
abbrev pub set_lines : Set → List Line
set_lines s = on (other_types s) 12 0 ∷ on (other_satellites s) 13 0 ∷ on (other_times s) 14 0 ∷ []

-- What they ask, in words.
pub record Together (s : Set) : Type 0 where
  pub types : (s.first.kind ≡ 10) × (s.second.kind ≡ 11) × (s.third.kind ≡ 12)
  pub satellites : (s.second.satellite ≡ s.first.satellite) × (s.third.satellite ≡ s.first.satellite)
  pub times : (s.second.time ≡ next_time s.first.time) × (s.third.time ≡ next_time s.second.time)

-- ---- reading

-- The place of the second string, where the first ends by the type that was read, and that of the third, where the second ends.
abbrev pub second_place : Phase → List ℕ → ℕ → ℕ → ℕ
second_place phase bytes count place = place + length_of (content_of (reading phase bytes count place)).kind

abbrev pub third_place : Phase → List ℕ → ℕ → ℕ → ℕ
third_place phase bytes count place =
    second_place phase bytes count place
    + length_of (content_of (reading phase bytes count (second_place phase bytes count place))).kind

-- The records of the three strings, each read by itself.
abbrev pub set_at : Phase → List ℕ → ℕ → ℕ → Set
set_at phase bytes count place =
    record {
      first = content_of (reading phase bytes count place);
      second = content_of (reading phase bytes count (second_place phase bytes count place));
      third = content_of (reading phase bytes count (third_place phase bytes count place));
    }

-- Three records with every place 0.
abbrev pub blank_set : Set
blank_set = record { first = blank; second = blank; third = blank }

-- Reading a set: what refuses the first string, the second, the third, and then 12, 13, 14.
unfoldable pub set_reading : Phase → List ℕ → ℕ → ℕ → Result Set Refusal
set_reading phase bytes count place =
    giving
    (answer_of (reading phase bytes count place)
    then answer_of (reading phase bytes count (second_place phase bytes count place))
    then answer_of (reading phase bytes count (third_place phase bytes count place))
    then set_tests (set_at phase bytes count place))
    (set_at phase bytes count place)

-- This by number and value.
abbrev pub set_read_lines : Phase → List ℕ → ℕ → ℕ → List Line
set_read_lines phase bytes count place =
    read_lines phase bytes count place
    ++ (read_lines phase bytes count (second_place phase bytes count place)
    ++ (read_lines phase bytes count (third_place phase bytes count place) ++ set_lines (set_at phase bytes count place)))

abbrev pub set_read_returned : Phase → List ℕ → ℕ → ℕ → ℕ × ℕ
set_read_returned phase bytes count place = returned (set_read_lines phase bytes count place) 0

-- What it means, in words, that a set is read at a place: its three records are read there, 250 bits on and 500 bits on, and they belong
-- together.
pub record SetThere (phase : Phase) (bytes : List ℕ) (count place : ℕ) (s : Set) : Type 0 where
  pub first : reading phase bytes count place ≡ Ok s.first
  pub second : reading phase bytes count (place + 250) ≡ Ok s.second
  pub third : reading phase bytes count (place + 500) ≡ Ok s.third
  pub together : Together s

-- ---- writing

-- The bits of a set, three strings of 250.
abbrev pub set_length : ℕ
set_length = 750

unfoldable pub set_bits : Set → List Bool
set_bits s = string s.first ++ (string s.second ++ string s.third)

-- 7, 8, 11, 10 of the first record, of the second, of the third.
unfoldable pub member_tests : Set → Answer
member_tests s = record_tests s.first then record_tests s.second then record_tests s.third

-- These by number and value.
abbrev pub member_lines : Set → List Line
member_lines s = record_lines s.first ++ (record_lines s.second ++ record_lines s.third)

-- Writing a set tests 1, 2, 3, its records, 12, 13, 14, and 5 for all of its bits.
unfoldable pub set_write_tests : ℕ → ℕ → ℕ → Set → Answer
set_write_tests bytes count place s =
    place_tests bytes count place
    then member_tests s
    then set_tests s
    then when (above (place + set_length) count) (RunsOut place)

-- These by number and value.
abbrev pub set_write_lines : ℕ → ℕ → ℕ → Set → List Line
set_write_lines bytes count place s =
    place_lines bytes count place
    ++ (member_lines s ++ (set_lines s ++ (on (above (place + set_length) count) 5 place ∷ [])))

-- What writing a set answers: the place after its bits.
unfoldable pub set_writing : ℕ → ℕ → ℕ → Set → Outcome
set_writing bytes count place s = giving (set_write_tests bytes count place s) (place + set_length)

-- The same by number and value.
abbrev pub set_write_returned : ℕ → ℕ → ℕ → Set → ℕ × ℕ
set_write_returned bytes count place s = returned (set_write_lines bytes count place s) (place + set_length)

-- ---- the two round trips

-- What holds where a set was written, which is always straight: reading gives the set back, and each of its strings stands and reads by
-- itself.
pub record SetReadsBack (bytes : List ℕ) (count place : ℕ) (s : Set) : Type 0 where
  pub reads : set_reading Straight bytes count place ≡ Ok s
  pub first : ReadsBack bytes count place s.first
  pub second : ReadsBack bytes count (place + 250) s.second
  pub third : ReadsBack bytes count (place + 500) s.third

-- What holds of a set that was read: it passes the tests of its records and of a set, its bits are the true ones there, and writing it at
-- that place of the bytes that hold the true bits straight changes none of them.
pub record SetWritesBack (phase : Phase) (bytes : List ℕ) (count place : ℕ) (s : Set) : Type 0 where
  pub passes : (member_tests s ≡ Ok tt) × (set_tests s ≡ Ok tt)
  pub same_bits : set_bits s ≡ cut place set_length (recorded phase bytes count)
  pub writes : set_writing (length bytes) count place s ≡ Ok (place + set_length)
  pub same_bytes : bytes_after (Ok (place + set_length)) place (set_bits s) (true_bytes phase bytes) ≡ true_bytes phase bytes

-- ---- what the functions promise

-- What reading a set promises, of the phase, the lent bytes, the bit count, the place and what it gives.
pub record SetReadPromise (phase : Phase) (bytes : List ℕ) (count place : ℕ) (found : Result Set Refusal) : Type 0 where
  -- the set, or why there is none
  pub answered : found ≡ set_reading phase bytes count place
  -- the same by number and value
  pub numbered : answer_code found ≡ set_read_returned phase bytes count place
  -- an inverted recording reads as its complement does straight
  pub straight : found ≡ set_reading Straight (true_bytes phase bytes) count place
  -- a set is given exactly where its three strings read, end to end, and belong together
  pub exact : (s : Set) → (found ≡ Ok s) ↔ SetThere phase bytes count place s
  -- a set that reads is written back to its true bits
  pub back : (s : Set) → found ≡ Ok s → SetWritesBack phase bytes count place s
  -- of the bytes, only those that the strings cover count, up to and with the first that is refused: as many others that agree on these
  -- read alike
  pub covered : (others : List ℕ) → length others ≡ length bytes
      → SameThere phase others bytes count place
      → (answer_of (reading phase bytes count place) ≡ Ok tt → SameThere phase others bytes count (second_place phase bytes count place))
      → (answer_of (reading phase bytes count place) ≡ Ok tt
      → answer_of (reading phase bytes count (second_place phase bytes count place)) ≡ Ok tt
      → SameThere phase others bytes count (third_place phase bytes count place))
      → found ≡ set_reading phase others count place

-- What writing a set promises, of the lent bytes before, the bit count, the place, the set, the answer, and the bytes afterwards.
pub record SetWritePromise (before : List ℕ) (count place : ℕ) (s : Set) (answer : Outcome) (after : List ℕ) : Type 0 where
  -- the answer and the bytes afterwards
  pub answered : answer ≡ set_writing (length before) count place s
  pub left : after ≡ bytes_after answer place (set_bits s) before
  -- the answer by number and value
  pub numbered : outcome_code answer ≡ set_write_returned (length before) count place s
  -- a set that writes reads back the same
  pub back : (next : ℕ) → answer ≡ Ok next → SetReadsBack after count place s
