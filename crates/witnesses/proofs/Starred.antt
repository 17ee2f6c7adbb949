-- The starred examples hold: one test over all rows, and one theorem. Assumes nothing.
use Rattle.format.specs.declared.Record.{Record}
use Rattle.format.specs.declared.Refusal.{Refusal}
use Rattle.std.specs.Prelude.{Result}
use mathlib.Core.Path.{◌≡◌, refl, ap}
use mathlib.Core.Bool.{true, ◌&&◌, false≢true, and-eq-true_iff}
use mathlib.Core.List.{List, [], ◌∷◌}
use Prim.Native.Nat.{ℕ}
use lib.IntN.{ℤ, pos, negsuc}
use lib.Dec.{eqb}
use borrow.Author.Tests.{eqb-true}
use Rattle.bits.specs.declared.Phase.TheVariants.{Straight}
use Rattle.bits.specs.Bits.{recorded, cut}
use Rattle.cyclic.specs.Register.{check, remainder}
use Rattle.format.specs.Answers.{answer_code, outcome_code}
use Rattle.format.specs.Tests.{when, ◌then◌, count_tests, place_tests}
use Rattle.format.specs.Listing.{list_answer, listing, scan, starts}
use Rattle.format.specs.Fields.{in_range, values, minus_zeros}
use Rattle.format.specs.Reading.{information_bits, reading, record_at, content_of}
use Rattle.format.specs.Standing.{check_passes, string_tests}
use Rattle.format.specs.Records.{mark_of, field_tests, ranges, unused, overfilled, stray, mark_bits, record_tests}
use Rattle.format.specs.Strings.{string_bits, type_at, length_of, generator_of}
use Rattle.format.specs.Types.{places_of, raw_count}
use Rattle.format.specs.Values.{count_of, day_count}
use Rattle.format.specs.Writing.{writing, write_tests}
use Rattle.witnesses.specs.Starred.{Example, check_is, listing_is, reading_is, field_is, writing_is, days_is}
use Rattle.witnesses.specs.Starred.{check_of, Answers, Reads, Says, rows, same_int, same_answer, same_field, holds, all_hold, Each}
use Rattle.witnesses.specs.Strings.{tb959, tb960, omb43199, omb43200, factors, rate_of_xp}

same_int_lem : (x y : ℤ) → same_int x y ≡ true → x ≡ y
same_int_lem (pos a) (pos b) e = ap pos (eqb-true a b e)
same_int_lem (pos a) (negsuc b) e = absurd (false≢true e)
same_int_lem (negsuc a) (pos b) e = absurd (false≢true e)
same_int_lem (negsuc a) (negsuc b) e = ap negsuc (eqb-true a b e)

same_answer_lem : (code : ℕ × ℕ) (number value : ℕ) → same_answer code number value ≡ true → Answers code number value
same_answer_lem code number value t =
    let u = (and-eq-true_iff (eqb code.0 number) (eqb code.1 value)).0 t in
    (eqb-true code.0 number u.0, eqb-true code.1 value u.1)

same_field_lem : (found : Result Record Refusal) (field : ℕ) (value : ℤ) (minus : ℕ) → same_field found field value minus ≡ true
    → Reads found field value minus
same_field_lem found field value minus t =
    let a = answer_code found in
    let v = count_of (content_of found) field in
    let m = (content_of found).minus in
    let u = (and-eq-true_iff (same_answer a 0 0) (same_int v value && eqb m minus)).0 t in
    let w = (and-eq-true_iff (same_int v value) (eqb m minus)).0 u.1 in
    (same_answer_lem a 0 0 u.0, same_int_lem v value w.0, eqb-true m minus w.1)

-- A row that passes its test says the truth.
sound : (e : Example) → holds e ≡ true → Says e
sound (check_is type from_end value) t = eqb-true (check_of type from_end) value t
sound (listing_is bytes count room number value) t = same_answer_lem (outcome_code (listing Straight bytes count room)) number value t
sound (reading_is bytes count place number value) t = same_answer_lem (answer_code (reading Straight bytes count place)) number
    value t
sound (field_is bytes count place field value minus) t = same_field_lem (reading Straight bytes count place) field value minus t
sound (writing_is r bytes count place number value) t = same_answer_lem (outcome_code (writing bytes count place r)) number value t
sound (days_is n4 nt number value) t = same_answer_lem (outcome_code (day_count n4 nt)) number value t

all_sound : (es : List Example) → all_hold es ≡ true → Each Says es
all_sound [] t = tt
all_sound (e ∷ es) t = let u = (and-eq-true_iff (holds e) (all_hold es)).0 t in (sound e u.0, all_sound es u.1)

test : all_hold rows ≡ true
unfolding check remainder list_answer recorded starts scan field_tests ranges in_range places_of when ◌then◌ reading count_tests place_tests
    string_tests record_at string_bits cut type_at writing write_tests record_tests day_count unused overfilled stray mark_bits raw_count
    length_of generator_of check_passes information_bits values minus_zeros mark_of count_of tb959 tb960 omb43199 omb43200 factors
    rate_of_xp
test = refl

-- Every starred example holds.
pub starred : Each Says rows
starred = all_sound rows test
