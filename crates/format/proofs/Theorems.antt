-- What is proved of the definitions of the papers. Assumes nothing.
use Rattle.std.specs.Prelude.{Ok}
use Rattle.format.specs.Tests.{Outcome, answer_of}
use mathlib.Core.Path.{◌≡◌}
use mathlib.Core.Bool.{Bool}
use mathlib.Core.List.{List}
use mathlib.Core.Logic.{◌↔◌}
use Prim.Native.Nat.{ℕ, ◌+◌, ◌*◌, ◌%◌, ◌≤◌, ◌<◌}
use lib.IntN.{ℤ}
use lib.ListN.{length, get_or}
use Rattle.bits.specs.declared.Phase.{Phase}
use Rattle.bits.specs.declared.Phase.TheVariants.{Straight, Inverted}
use Rattle.bits.specs.Bits.{recorded, complement}
use Rattle.bits.proofs.Phases.{recorded_true, recorded-back}
use Rattle.cyclic.specs.Burst.{Burst}
use Rattle.format.specs.declared.Record.{Record}
use Rattle.format.specs.declared.Set.{Set}
use Rattle.format.specs.Answers.{answer_code, outcome_code, value_code}
use Rattle.format.specs.Demand3.{Clean, InStep, ListPromise}
use Rattle.format.specs.Listing.{Lists, starts, list_answer, list_lines, list_after, listing}
use Rattle.format.specs.Reading.{reading, read_returned, SameThere}
use Rattle.format.specs.Sets.{next_time, set_tests, Together, second_place, third_place, set_reading, set_read_returned, SetThere}
use Rattle.format.specs.Sets.{set_length, set_bits, set_writing, set_write_returned, SetReadsBack, SetWritesBack}
use Rattle.format.specs.Standing.{string_tests, standing}
use Rattle.format.specs.Strings.{string_bits, type_at, length_of, check_bits, Stands}
use Rattle.format.specs.Tests.{returned}
use Rattle.format.specs.Types.{last_time}
use Rattle.format.specs.Values.{scaling, scale_returned, accuracy, accuracy_returned, day_count, days_returned}
use Rattle.format.specs.Writing.{string, writing, write_returned, bytes_after, ReadsBack, WritesBack}
use Rattle.format.proofs.Agree
use Rattle.format.proofs.Covered
use Rattle.format.proofs.Damage
use Rattle.format.proofs.Numbered
use Rattle.format.proofs.Phases
use Rattle.format.proofs.Promise
use Rattle.format.proofs.Resync
use Rattle.format.proofs.RoundTrips
use Rattle.format.proofs.Rule
use Rattle.format.proofs.Sets
use Rattle.format.proofs.Sets.{TypedSet}
use Rattle.format.proofs.Writing.{Typed}

-- ---- what stands

-- What is computed to stand at a place is what stands there.
pub agree : (bits : List Bool) (place long : ℕ) → 0 < long → (standing bits place ≡ long) ↔ Stands bits place long
agree = Agree.agree

-- The tests 5, 4, 5, 6 pass where a string stands, and only there.
pub tests_pass : (bits : List Bool) (place : ℕ) → (string_tests bits place ≡ Ok tt) ↔ Stands bits place (length_of (type_at bits place))
tests_pass bits place = (Agree.pass_stands bits place, Agree.stands_pass)

-- A string that stood stands no more where a burst has changed its bits, if its type still names the same length.
pub damaged_none : {was now : List Bool} {place long : ℕ} → Stands was place long
    → Burst (check_bits (type_at was place)) (string_bits was place 1 long) (string_bits now place 1 long)
    → length_of (type_at now place) ≡ long
    → (l : ℕ) → Stands now place l → ⊥
damaged_none = Damage.damaged_none

-- ---- listing

-- The computed starts follow the rule, and no others do.
pub rule : (bits : List Bool) → Lists (Stands bits) (length bits) 0 (starts bits)
rule = Rule.rule

pub rule_unique : (bits : List Bool) {found : List ℕ} → Lists (Stands bits) (length bits) 0 found → found ≡ starts bits
rule_unique = Rule.rule_unique

-- Past a damaged stretch, the starts are in step with the true boundaries.
pub resync : (bits : List Bool) (b : ℕ) (bs : List ℕ) → Clean (Stands bits) (length bits) b bs → InStep (Stands bits) b bs (starts bits)
resync = Resync.resync

-- An answer and a list that are what the definitions say keep the whole promise of listing.
pub list_promise : (phase : Phase) (bytes : List ℕ) (count : ℕ) (before : List ℕ) (answer : Outcome) (after : List ℕ)
    → answer ≡ listing phase bytes count (length before)
    → after ≡ list_after answer before (starts (recorded phase bytes count)) → ((i : ℕ) → get_or bytes i 0 < 256)
    → ListPromise phase bytes count before answer after
list_promise = Promise.promised

-- ---- phases

-- The true bits of an inverted recording are the bits of its complement, and so it lists, reads and reads a set as that does straight.
pub inverted : (bytes : List ℕ) (count : ℕ) → ((i : ℕ) → get_or bytes i 0 < 256)
    → recorded Inverted bytes count ≡ recorded Straight (complement bytes) count
inverted = recorded_true Inverted

pub inverted_lists : (bytes : List ℕ) (count : ℕ) → ((i : ℕ) → get_or bytes i 0 < 256) → (room : ℕ)
    → listing Inverted bytes count room ≡ listing Straight (complement bytes) count room
inverted_lists = Promise.lists_straight Inverted

pub inverted_list_promise : (bytes : List ℕ) (count : ℕ) (before : List ℕ) (answer : Outcome) (after : List ℕ)
    → ((i : ℕ) → get_or bytes i 0 < 256)
    → ListPromise Inverted bytes count before answer after ↔ ListPromise Straight (complement bytes) count before answer after
inverted_list_promise = Promise.inverted_promise

pub inverted_reads : (bytes : List ℕ) (count : ℕ) → ((i : ℕ) → get_or bytes i 0 < 256) → (place : ℕ)
    → reading Inverted bytes count place ≡ reading Straight (complement bytes) count place
inverted_reads = Phases.reads-straight Inverted

pub inverted_reads-set : (bytes : List ℕ) (count : ℕ) → ((i : ℕ) → get_or bytes i 0 < 256) → (place : ℕ)
    → set_reading Inverted bytes count place ≡ set_reading Straight (complement bytes) count place
inverted_reads-set = Phases.set-reads-straight Inverted

-- And the other way: the complement of a straight recording, inverted, has its bits.
pub inverted_back : (bytes : List ℕ) (count : ℕ) → ((i : ℕ) → get_or bytes i 0 < 256)
    → recorded Inverted (complement bytes) count ≡ recorded Straight bytes count
inverted_back = recorded-back

-- ---- reading and writing undo each other

-- A record that writes reads back the same, and stands where it was written.
pub written_back : (bytes : List ℕ) (count place next : ℕ) (r : Record) → Typed r → writing (length bytes) count place r ≡ Ok next
    → ReadsBack (bytes_after (Ok next) place (string r) bytes) count place r
written_back = RoundTrips.written_back

-- A string that reads writes back to its true bits, and to the bytes that hold them straight.
pub read_back : (phase : Phase) (bytes : List ℕ) (count place : ℕ) → ((i : ℕ) → get_or bytes i 0 < 256)
    → (r : Record) → reading phase bytes count place ≡ Ok r → WritesBack phase bytes count place r
read_back = RoundTrips.read_back

-- ---- sets

-- OMB counts modulo 43200.
pub next_time_lem : (time : ℕ) → time ≤ last_time → next_time time ≡ (time + 1) % 43200
next_time_lem = Sets.next_time_lem

-- The tests 12, 13, 14 pass exactly where three records belong together.
pub set-passes : (s : Set) → (set_tests s ≡ Ok tt) ↔ Together s
set-passes = Sets.set-passes

-- A set is read exactly where its three strings read, end to end, and belong together.
pub set-exact : (phase : Phase) (bytes : List ℕ) (count place : ℕ) (s : Set)
    → (set_reading phase bytes count place ≡ Ok s) ↔ SetThere phase bytes count place s
set-exact = Sets.set-exact

-- The bits of a set are 750.
pub length-set_bits : (s : Set) → TypedSet s → Together s → length (set_bits s) ≡ set_length
length-set_bits = Sets.length-set_bits

-- A set that writes reads back the same, and so does each of its strings by itself.
pub set-written-back : (bytes : List ℕ) (count place next : ℕ) (s : Set) → TypedSet s
    → set_writing (length bytes) count place s ≡ Ok next
    → SetReadsBack (bytes_after (Ok next) place (set_bits s) bytes) count place s
set-written-back = Sets.set-written-back

-- A set that reads writes back to its true bits, and to the bytes that hold them straight.
pub set_read_back : (phase : Phase) (bytes : List ℕ) (count place : ℕ) (s : Set) → ((i : ℕ) → get_or bytes i 0 < 256)
    → SetThere phase bytes count place s → SetWritesBack phase bytes count place s
set_read_back = Sets.set_read_back

-- ---- only the bytes that a string covers

-- Two recordings of one length, with the same bit count, that agree on the bytes that the string at a place covers: what stands there is
-- the same, and they read alike there.
pub standing-covered : (phase : Phase) (bytes others : List ℕ) (count place : ℕ) → length others ≡ length bytes
    → SameThere phase others bytes count place → count ≤ 8 * length bytes
    → standing (recorded phase others count) place ≡ standing (recorded phase bytes count) place
standing-covered = Covered.standing-covered

pub reading-covered : (phase : Phase) (bytes others : List ℕ) (count place : ℕ) → length others ≡ length bytes
    → SameThere phase others bytes count place → reading phase others count place ≡ reading phase bytes count place
reading-covered = Covered.reading-covered

-- The same of a set, of which the strings up to and with the first that is refused count.
pub set-covered : (phase : Phase) (bytes others : List ℕ) (count place : ℕ) → length others ≡ length bytes
    → SameThere phase others bytes count place
    → (answer_of (reading phase bytes count place) ≡ Ok tt → SameThere phase others bytes count (second_place phase bytes count place))
    → (answer_of (reading phase bytes count place) ≡ Ok tt
    → answer_of (reading phase bytes count (second_place phase bytes count place)) ≡ Ok tt
    → SameThere phase others bytes count (third_place phase bytes count place))
    → set_reading phase others count place ≡ set_reading phase bytes count place
set-covered = Sets.set-covered

-- ---- answers by the papers' number and value

pub list_numbered : (bytes count room found : ℕ)
    → outcome_code (list_answer bytes count room found) ≡ returned (list_lines bytes count room found) found
list_numbered = Numbered.list_numbered

pub read_numbered : (phase : Phase) (bytes : List ℕ) (count place : ℕ)
    → answer_code (reading phase bytes count place) ≡ read_returned phase bytes count place
read_numbered = Numbered.read_numbered

pub write_numbered : (bytes count place : ℕ) (r : Record)
    → outcome_code (writing bytes count place r) ≡ write_returned bytes count place r
write_numbered = Numbered.write_numbered

pub set_read_numbered : (phase : Phase) (bytes : List ℕ) (count place : ℕ)
    → answer_code (set_reading phase bytes count place) ≡ set_read_returned phase bytes count place
set_read_numbered = Numbered.set_read_numbered

pub set_write_numbered : (bytes count place : ℕ) (s : Set)
    → outcome_code (set_writing bytes count place s) ≡ set_write_returned bytes count place s
set_write_numbered = Numbered.set_write_numbered

pub scale_numbered : (r : Record) (n : ℕ)
    → ((value_code (scaling r n)).0 ≡ (scale_returned r n).0) × ((value_code (scaling r n)).1 ≡ (scale_returned r n).1)
scale_numbered = Numbered.scale_numbered

pub accuracy-numbered : (f : ℤ) → outcome_code (accuracy f) ≡ accuracy_returned f
accuracy-numbered = Numbered.accuracy-numbered

pub days_numbered : (n4 nt : ℤ) → outcome_code (day_count n4 nt) ≡ days_returned n4 nt
days_numbered = Numbered.days_numbered
