-- Answers by the paper's number and value: each function returns what its lines say. Assumes nothing.
use Rattle.format.proofs.Order.{answer_giving}
use Rattle.std.specs.Prelude.{Ok, Err, Result}
use Rattle.format.specs.Tests.{Answer, Outcome, answer_of}
use mathlib.Core.Path.{◌≡◌, refl, sym, ap, ◌∙◌, subst}
use mathlib.Core.Bool.{Bool, true, false, cond, not, ◌&&◌, ◌||◌}
use mathlib.Core.List.{List, [], ◌∷◌, ◌++◌}
use Prim.Native.Nat.{ℕ, suc, ◌+◌}
use lib.Dec.{eqb}
use lib.Ieee.{Float}
use lib.IntN.{ℤ, pos}
use lib.ListN.{length, get_or}
use Rattle.bits.specs.declared.Phase.{Phase}
use Rattle.bits.specs.Bits.{recorded}
use Rattle.format.specs.declared.Record.{Record}
use Rattle.format.specs.declared.Refusal.{Refusal}
use Rattle.format.specs.declared.Refusal.TheVariants.{OutOfRange, MinusZero}
use Rattle.format.specs.declared.Set.{Set}
use Rattle.format.specs.Answers.{refusal_code, answer_code, outcome_code, value_code}
use Rattle.format.specs.Fields.{Field, absent, in_range}
use Rattle.format.specs.Listing.{list_lines, list_answer}
use Rattle.format.specs.Reading.{record_at, reading, read_lines, read_returned}
use Rattle.format.specs.Records.{numbers_of, ranges, first_outside, other_orbit, field_tests, field_lines}
use Rattle.format.specs.Records.{unused, overfilled, mark_bits, may_bear, stray, lowest_stray, record_tests, record_lines}
use Rattle.format.specs.Sets.{other_types, other_satellites, other_times, set_tests, set_lines, second_place, third_place, set_at}
use Rattle.format.specs.Sets.{set_reading, set_read_returned, set_length, member_tests, set_write_tests, set_writing, set_write_returned}
use Rattle.format.specs.Standing.{string_tests, string_lines}
use Rattle.format.specs.Strings.{length_of}
use Rattle.format.specs.Tests.{is_passed, refuses, when, ◌then◌, giving, Line, on, returned}
use Rattle.format.specs.Tests.{count_tests, count_lines, place_tests, place_lines}
use Rattle.format.specs.Types.{mark_width, places_of, fields_of, day}
use Rattle.format.specs.Values.{power_of, scaling, scale_returned, accuracy, centimetres_of, accuracy_returned}
use Rattle.format.specs.Values.{AccuracyPromise, day_count, days_of, days_returned, DayPromise}
use Rattle.format.specs.Writing.{write_tests, writing, write_returned}

-- ---- what lines return

-- whether no line's condition holds
abbrev none : List Line → Bool
none [] = true
none (on b n v ∷ ls) = cond b false (none ls)

none_append : (ls ms : List Line) → none (ls ++ ms) ≡ cond (none ls) (none ms) false
none_append [] ms = refl
none_append (on true n v ∷ ls) ms = refl
none_append (on false n v ∷ ls) ms = none_append ls ms

returned-append : (ls ms : List Line) (g : ℕ) → returned (ls ++ ms) g ≡ cond (none ls) (returned ms g) (returned ls 0)
unfolding returned
returned-append [] ms g = refl
returned-append (on true n v ∷ ls) ms g = refl
returned-append (on false n v ∷ ls) ms g = returned-append ls ms g

returned-given : (ls : List Line) (g : ℕ) → returned ls g ≡ cond (none ls) (0, g) (returned ls 0)
unfolding returned
returned-given [] g = refl
returned-given (on true n v ∷ ls) g = refl
returned-given (on false n v ∷ ls) g = returned-given ls g

-- ---- an answer is what lines say
pub record Tells (a : Answer) (ls : List Line) : Type 0 where
  pub passes : is_passed a ≡ none ls
  pub code : answer_code a ≡ returned ls 0

tells_passed : Tells (Ok tt) []
unfolding returned
tells_passed = record { passes = refl; code = refl }

pub tells_when : (b : Bool) (r : Refusal) → Tells (when b r) (on b (refusal_code r).0 (refusal_code r).1 ∷ [])
unfolding when returned
tells_when true r = record { passes = refl; code = refl }
tells_when false r = record { passes = refl; code = refl }

pub tells_then : {a b : Answer} {ls ms : List Line} → Tells a ls → Tells b ms → Tells (a then b) (ls ++ ms)
unfolding ◌then◌
tells_then {a} {b} {ls} {ms} s t = at a s.passes s.code
  where
    at : (a : Answer) → is_passed a ≡ none ls → answer_code a ≡ returned ls 0 → Tells (a then b) (ls ++ ms)
    at (Ok u) p c = record {
      passes = t.passes ∙ sym (none_append ls ms ∙ ap (λ (x : Bool). cond x (none ms) false) (sym p));
      code = t.code ∙ sym (returned-append ls ms 0 ∙ ap (λ (x : Bool). cond x (returned ms 0) (returned ls 0)) (sym p));
    }
    at (Err r) p c = record {
      passes = sym (none_append ls ms ∙ ap (λ (x : Bool). cond x (none ms) false) (sym p));
      code = c ∙ sym (returned-append ls ms 0 ∙ ap (λ (x : Bool). cond x (returned ms 0) (returned ls 0)) (sym p));
    }

-- an answer is told alike, whatever it gives
pub answered_code : {A : Type 0} (a : Result A Refusal) → answer_code (answer_of a) ≡ answer_code a
answered_code (Ok x) = refl
answered_code (Err r) = refl

giving_told : {A : Type 0} (a : Answer) (x : A) → answer_code (giving a x) ≡ answer_code a
giving_told (Ok u) x = refl
giving_told (Err r) x = refl

tells_giving : {A : Type 0} {a : Answer} (x : A) {ls : List Line} → Tells a ls → Tells (answer_of (giving a x)) ls
tells_giving {A} {a} x {ls} t = subst (λ (b : Answer). Tells b ls) (sym (answer_giving a x)) t

-- what gives a number where its tests pass
pub giving-returned : {a : Answer} {ls : List Line} → Tells a ls → (g : ℕ) → outcome_code (giving a g) ≡ returned ls g
giving-returned {a} {ls} t g = at a t.passes t.code ∙ sym (returned-given ls g)
  where
    at : (a : Answer) → is_passed a ≡ none ls → answer_code a ≡ returned ls 0
        → outcome_code (giving a g) ≡ cond (none ls) (0, g) (returned ls 0)
    at (Ok u) p c = ap (λ (x : Bool). cond x (0, g) (returned ls 0)) p
    at (Err r) p c = c ∙ ap (λ (x : Bool). cond x (0, g) (returned ls 0)) p

-- ---- the tests

-- 1, 2, and 3
count_tells : (bytes count : ℕ) → Tells (count_tests bytes count) (count_lines bytes count)
unfolding count_tests
count_tells bytes count = tells_then (tells_when _ _) (tells_when _ _)

place_tells : (bytes count place : ℕ) → Tells (place_tests bytes count place) (place_lines bytes count place)
unfolding place_tests
place_tells bytes count place = tells_then (count_tells bytes count) (tells_when _ _)

-- 5, 4, 5, 6
string_tells : (u : List Bool) (p : ℕ) → Tells (string_tests u p) (string_lines u p)
unfolding string_tests
string_tells u p = tells_then (tells_when _ _) (tells_then (tells_when _ _) (tells_then (tells_when _ _) (tells_when _ _)))

-- 7: a field in front
range_tells : (f : Field) (fs : List Field) (v : ℤ) (vs : List ℤ) (n : ℕ) {ls : List Line} → Tells (ranges fs vs (suc n)) ls
    → Tells (ranges (f ∷ fs) (v ∷ vs) n) (on (not (in_range f v)) 7 n ∷ ls)
unfolding ranges returned
range_tells f fs v vs n {ls} t = at (in_range f v)
  where
    at : (b : Bool) → Tells (cond b (ranges fs vs (suc n)) (Err (OutOfRange n))) (on (not b) 7 n ∷ ls)
    at true = record { passes = t.passes; code = t.code }
    at false = record { passes = refl; code = refl }

-- a refusal, or what is told of the rest, with its value
rest_tells : (b : Bool) (r : Refusal) (a : Answer) (m : ℕ) → Tells a (on (refuses a) (refusal_code r).0 m ∷ [])
    → Tells (cond b a (Err r)) (on (refuses (cond b a (Err r))) (refusal_code r).0 (cond b m (refusal_code r).1) ∷ [])
unfolding returned
rest_tells true r a m t = t
rest_tells false r a m t = record { passes = refl; code = refl }

first_tells : (b : Bool) (r : Refusal) (a : Answer) (m : ℕ) → Tells a (on (refuses a) (refusal_code r).0 m ∷ [])
    → Tells (cond b (Err r) a) (on (refuses (cond b (Err r) a)) (refusal_code r).0 (cond b (refusal_code r).1 m) ∷ [])
unfolding returned
first_tells true r a m t = record { passes = refl; code = refl }
first_tells false r a m t = t

-- 7: the first field out of range
ranges_tell : (fs : List Field) (vs : List ℤ) (n : ℕ)
    → Tells (ranges fs vs n) (on (refuses (ranges fs vs n)) 7 (first_outside fs vs n) ∷ [])
unfolding ranges first_outside returned
ranges_tell [] vs n = record { passes = refl; code = refl }
ranges_tell (f ∷ fs) [] n = record { passes = refl; code = refl }
ranges_tell (f ∷ fs) (v ∷ vs) n = rest_tells (in_range f v) (OutOfRange n) _ _ (ranges_tell fs vs (suc n))

-- 7, 8
field_tells : (r : Record) → Tells (field_tests r) (field_lines r)
unfolding field_tests
field_tells r = tells_then (ranges_tell (fields_of r.kind) (numbers_of r) 1) (tells_when (other_orbit r) _)

-- 10: the lowest bit
stray_tells : (fs : List Field) (vs : List ℤ) (ms : List Bool) (n : ℕ)
    → Tells (stray fs vs ms n) (on (refuses (stray fs vs ms n)) 10 (lowest_stray fs vs ms n) ∷ [])
unfolding stray lowest_stray returned
stray_tells fs vs [] n = record { passes = refl; code = refl }
stray_tells fs vs (m ∷ ms) n =
    first_tells (m && not (may_bear (get_or fs n absent) (get_or vs n (pos 0)))) (MinusZero n) _ _ (stray_tells fs vs ms (suc n))

-- 7, 8, 11, 10
pub record_tells : (r : Record) → Tells (record_tests r) (record_lines r)
unfolding record_tests
record_tells r =
    tells_then (field_tells r)
    (tells_then (tells_when (unused (places_of r.kind) r.numbers || overfilled r) _)
    (stray_tells (places_of r.kind) r.numbers (mark_bits mark_width r.minus) 0))

-- ---- the functions

pub list_numbered : (bytes count room found : ℕ)
    → outcome_code (list_answer bytes count room found) ≡ returned (list_lines bytes count room found) found
unfolding list_answer
list_numbered bytes count room found = giving-returned (tells_then (count_tells bytes count) (tells_when _ _)) found

read_tells : (φ : Phase) (bytes : List ℕ) (count place : ℕ)
    → Tells (answer_of (reading φ bytes count place)) (read_lines φ bytes count place)
unfolding reading
read_tells φ bytes count place =
    let u = recorded φ bytes count in
    tells_giving (record_at u place)
    (tells_then (place_tells (length bytes) count place) (tells_then (string_tells u place) (field_tells (record_at u place))))

pub read_numbered : (φ : Phase) (bytes : List ℕ) (count place : ℕ)
    → answer_code (reading φ bytes count place) ≡ read_returned φ bytes count place
read_numbered φ bytes count place = sym (answered_code (reading φ bytes count place)) ∙ (read_tells φ bytes count place).code

pub write_numbered : (bytes count place : ℕ) (r : Record)
    → outcome_code (writing bytes count place r) ≡ write_returned bytes count place r
unfolding writing write_tests
write_numbered bytes count place r =
    giving-returned (tells_then (place_tells bytes count place) (tells_then (record_tells r) (tells_when _ _))) (place + length_of r.kind)

-- 12, 13, 14
set_tells : (s : Set) → Tells (set_tests s) (set_lines s)
unfolding set_tests
set_tells s = tells_then (tells_when (other_types s) _) (tells_then (tells_when (other_satellites s) _) (tells_when (other_times s) _))

pub set_read_numbered : (φ : Phase) (bytes : List ℕ) (count place : ℕ)
    → answer_code (set_reading φ bytes count place) ≡ set_read_returned φ bytes count place
unfolding set_reading
set_read_numbered φ bytes count place =
    giving_told _ (set_at φ bytes count place)
    ∙ (tells_then (read_tells φ bytes count place)
    (tells_then (read_tells φ bytes count (second_place φ bytes count place))
    (tells_then (read_tells φ bytes count (third_place φ bytes count place)) (set_tells (set_at φ bytes count place))))).code

pub set_write_numbered : (bytes count place : ℕ) (s : Set)
    → outcome_code (set_writing bytes count place s) ≡ set_write_returned bytes count place s
unfolding set_writing set_write_tests member_tests
set_write_numbered bytes count place s =
    let members = tells_then (record_tells s.first) (tells_then (record_tells s.second) (record_tells s.third)) in
    giving-returned (tells_then (place_tells bytes count place) (tells_then members (tells_then (set_tells s) (tells_when _ _))))
    (place + set_length)

value_told : (a : Answer) (x : Float)
    → ((value_code (giving a x)).0 ≡ (answer_code a).0) × ((value_code (giving a x)).1 ≡ (answer_code a).1)
value_told (Ok u) x = (refl, refl)
value_told (Err r) x = (refl, refl)

pub scale_numbered : (r : Record) (n : ℕ)
    → ((value_code (scaling r n)).0 ≡ (scale_returned r n).0) × ((value_code (scaling r n)).1 ≡ (scale_returned r n).1)
unfolding scaling
scale_numbered r n =
    let t = (tells_then (record_tells r) (tells_when (eqb (power_of r.kind n) 0) (OutOfRange n))).code in
    let v = value_told (record_tests r then when (eqb (power_of r.kind n) 0) (OutOfRange n)) _ in
    (v.0 ∙ ap (λ (c : ℕ × ℕ). c.0) t, v.1 ∙ ap (λ (c : ℕ × ℕ). c.1) t)

pub accuracy-numbered : (f : ℤ) → outcome_code (accuracy f) ≡ accuracy_returned f
unfolding accuracy ranges
accuracy-numbered f = giving-returned (range_tells _ [] f [] 19 tells_passed) (centimetres_of f)

pub days_numbered : (n4 nt : ℤ) → outcome_code (day_count n4 nt) ≡ days_returned n4 nt
unfolding day_count ranges
days_numbered n4 nt = giving-returned (range_tells _ (day ∷ []) n4 (nt ∷ []) 10 (range_tells _ [] nt [] 11 tells_passed)) (days_of n4 nt)

-- ---- the promises of a factor and of a day count, from their answers

pub accuracy_promised : {f : ℤ} {a : Outcome} → a ≡ accuracy f → AccuracyPromise f a
accuracy_promised {f} e = record { answered = e; numbered = ap outcome_code e ∙ accuracy-numbered f }

pub days_promised : {n4 nt : ℤ} {a : Outcome} → a ≡ day_count n4 nt → DayPromise n4 nt a
days_promised {n4} {nt} e = record { answered = e; numbered = ap outcome_code e ∙ days_numbered n4 nt }
