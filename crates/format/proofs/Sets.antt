-- Ephemeris sets: their tests in words, where a set is read, and that reading and writing a set undo each other. Assumes nothing.
use Rattle.format.specs.declared.Refusal.{Refusal}
use Rattle.std.specs.Prelude.{Ok, Err, Result}
use Rattle.format.specs.Tests.{Answer, answer_of, giving}
use mathlib.Core.Path.{◌≡◌, refl, sym, ap, ap₂, ◌∙◌, subst}
use mathlib.Core.Bool.{Bool, true, false, ◌&&◌, not, false≢true}
use mathlib.Core.List.{List, ◌++◌}
use mathlib.Core.Logic.{◌↔◌}
use Prim.Native.Nat.{ℕ, ◌+◌, ◌%◌, ◌≤◌, ◌<◌}
use native.Mathlib.Decide.{dec_le}
use native.Mathlib.Omega.{arith}
use lib.Dec.{eqb}
use lib.ListN.{length, length-append, get_or, take, drop}
use lib.Seq.{take_at, drop_at, drop-drop}
use borrow.Author.Tests.{ltb-false, lt-ltb, le-ltb, not-false, eqb-true, eq-eqb}
use Rattle.bits.specs.declared.Phase.{Phase}
use Rattle.bits.specs.declared.Phase.TheVariants.{Straight}
use Rattle.bits.specs.Bits.{recorded, cut}
use Rattle.bits.proofs.Lists.{cut_whole, cut_split}
use Rattle.format.specs.declared.Record.{Record}
use Rattle.format.specs.declared.Refusal.TheVariants.{RunsOut, OtherTypes, OtherSatellites, OtherTimes}
use Rattle.format.specs.declared.Set.{Set}
use Rattle.format.specs.Reading.{reading, SameThere, content_of}
use Rattle.format.specs.Records.{record_tests}
use Rattle.format.specs.Sets.{next_time, other_types, other_satellites, other_times, set_tests, Together, second_place, third_place, set_at}
use Rattle.format.specs.Sets.{set_reading, SetThere, set_length, set_bits, member_tests, set_write_tests, set_writing}
use Rattle.format.specs.Sets.{SetReadsBack, SetWritesBack}
use Rattle.format.specs.Strings.{length_of}
use Rattle.format.specs.Tests.{when, ◌then◌, above, place_tests, Passes}
use Rattle.format.specs.Types.{last_time}
use Rattle.format.specs.Writing.{string, with_bits, bytes_after, WritesBack}
use Rattle.format.proofs.Covered.{reading-covered}
use Rattle.format.proofs.Order.{then_pass, then_both, when_pass, when_no, giving_ok}
use Rattle.format.proofs.RoundTrips.{given_passed, with_passes, with_there, with_same, read_passes, read_fits, there_back, read_back}
use Rattle.format.proofs.Tests.{place-passes, passes-place}
use Rattle.format.proofs.Writing.{Typed, length-string}

-- ---- OMB counts modulo 43200

pub next_time_lem : (time : ℕ) → time ≤ last_time → next_time time ≡ (time + 1) % 43200
next_time_lem time h =
    elim (dec_le last_time time) [
      | yes l ↦ simp (le-ltb time last_time l) (omega arith)
      | no l ↦ simp (lt-ltb time last_time (omega arith)) (omega arith)
    ]

-- ---- 12, 13, 14 pass exactly where three records belong together

both_true : (a b : Bool) → (a && b) ≡ true → (a ≡ true) × (b ≡ true)
both_true true b e = (refl, e)
both_true false b e = absurd (false≢true e)

both : {a b : Bool} → a ≡ true → b ≡ true → (a && b) ≡ true
both e f = rw (e, f) refl

pub set-passes : (s : Set) → (set_tests s ≡ Ok tt) ↔ Together s
unfolding set_tests
set-passes s = (says, pass)
  where
    says : set_tests s ≡ Ok tt → Together s
    says e =
        let a = then_pass (when (other_types s) OtherTypes) _ e in
        let b = then_pass (when (other_satellites s) OtherSatellites) (when (other_times s) OtherTimes) a.1 in
        let t = both_true _ (eqb s.third.kind 12) (not-false _ (when_pass (other_types s) OtherTypes a.0)) in
        let t' = both_true (eqb s.first.kind 10) _ t.0 in
        let j = both_true (eqb s.second.satellite _) _ (not-false _ (when_pass (other_satellites s) OtherSatellites b.0)) in
        let m = both_true (eqb s.second.time _) _ (not-false _ (when_pass (other_times s) OtherTimes b.1)) in
        record {
          types = (eqb-true _ _ t'.0, eqb-true _ _ t'.1, eqb-true _ _ t.1);
          satellites = (eqb-true _ _ j.0, eqb-true _ _ j.1);
          times = (eqb-true _ _ m.0, eqb-true _ _ m.1);
        }

    pass : Together s → set_tests s ≡ Ok tt
    pass t =
        then_both
        (sym (when_no OtherTypes
        (ap not (both (both (eq-eqb _ _ t.types.0) (eq-eqb _ _ t.types.1)) (eq-eqb _ _ t.types.2)))))
        (then_both
        (sym (when_no OtherSatellites (ap not (both (eq-eqb _ _ t.satellites.0) (eq-eqb _ _ t.satellites.1)))))
        (sym (when_no OtherTimes (ap not (both (eq-eqb _ _ t.times.0) (eq-eqb _ _ t.times.1))))))

-- each string of a set has 250 bits
pub lengths : (s : Set) → Together s
    → (length_of s.first.kind ≡ 250) × (length_of s.second.kind ≡ 250) × (length_of s.third.kind ≡ 250)
unfolding length_of
lengths s t = (ap length_of t.types.0, ap length_of t.types.1, ap length_of t.types.2)

-- ---- where a set is read

-- a string that is read gives its record
as_read : (r : Result Record Refusal) → answer_of r ≡ Ok tt → r ≡ Ok (content_of r)
as_read (Ok x) e = refl
as_read (Err x) e = let z : ◌≡◌ {A = ℕ} 0 1 = cc in absurd (omega arith)

module _ (φ : Phase) (bytes : List ℕ) (count place : ℕ) where
  module _ (s : Set) (e : set_reading φ bytes count place ≡ Ok s) where
    answers : (answer_of (reading φ bytes count place) ≡ Ok tt)
        × (answer_of (reading φ bytes count (second_place φ bytes count place)) ≡ Ok tt)
        × (answer_of (reading φ bytes count (third_place φ bytes count place)) ≡ Ok tt)
        × (set_tests (set_at φ bytes count place) ≡ Ok tt)
    unfolding set_reading
    answers =
        let a = then_pass (answer_of (reading φ bytes count place)) _ (giving_ok _ (set_at φ bytes count place) s e).0 in
        let b = then_pass (answer_of (reading φ bytes count (second_place φ bytes count place))) _ a.1 in
        let c = then_pass (answer_of (reading φ bytes count (third_place φ bytes count place))) _ b.1 in
        (a.0, b.0, c.0, c.1)

    content : set_at φ bytes count place ≡ s
    unfolding set_reading
    content = (giving_ok _ (set_at φ bytes count place) s e).1

    read_there : SetThere φ bytes count place s
    read_there =
        let t = (set-passes (set_at φ bytes count place)).0 answers.3 in
        let l = lengths (set_at φ bytes count place) t in
        let p₂ : second_place φ bytes count place ≡ place + 250 = omega (arith, l.0) in
        let p₃ : third_place φ bytes count place ≡ place + 500 = omega (arith, l.0, l.1) in
        record {
          first = as_read _ answers.0 ∙ ap (λ (x : Set). Ok x.first) content;
          second =
              ap (reading φ bytes count) (sym p₂) ∙ as_read _ answers.1
              ∙ ap (λ (x : Set). Ok x.second) content;
          third =
              ap (reading φ bytes count) (sym p₃) ∙ as_read _ answers.2
              ∙ ap (λ (x : Set). Ok x.third) content;
          together = subst Together content t;
        }

  there_read : (s : Set) → SetThere φ bytes count place s → set_reading φ bytes count place ≡ Ok s
  unfolding set_reading
  there_read s t =
      let l = lengths s t.together in
      let kind : Result Record Refusal → ℕ = λ x. length_of (content_of x).kind in
      let p₂ : second_place φ bytes count place ≡ place + 250 = omega (arith, ap kind t.first, l.0) in
      let e₂ = ap (reading φ bytes count) p₂ ∙ t.second in
      let p₃ : third_place φ bytes count place ≡ place + 500 = omega (arith, p₂, ap kind e₂, l.1) in
      let e₃ = ap (reading φ bytes count) p₃ ∙ t.third in
      let same : set_at φ bytes count place ≡ s =
      λ i. record { first = content_of (t.first i); second = content_of (e₂ i); third = content_of (e₃ i) } in
      ap (λ (a : Answer). giving a (set_at φ bytes count place))
      (then_both (ap answer_of t.first) (then_both (ap answer_of e₂) (then_both (ap answer_of e₃)
      (ap set_tests same ∙ (set-passes s).1 t.together))))
      ∙ ap (λ (x : Set). Ok x) same

  -- A set is read exactly where its three strings read, end to end, and belong together.
  pub set-exact : (s : Set) → (set_reading φ bytes count place ≡ Ok s) ↔ SetThere φ bytes count place s
  set-exact s = (read_there s, there_read s)

-- ---- only the bytes that the strings cover, up to and with the first that is refused

-- a refusal comes before all that follows it
skip : (a x y : Answer) (s t : Set) → (a ≡ Ok tt → giving x s ≡ giving y t) → giving (a then x) s ≡ giving (a then y) t
unfolding ◌then◌
skip (Ok u) x y s t h = h refl
skip (Err r) x y s t h = refl

-- what reading a set gives, of what its strings give
abbrev three : Result Record Refusal → Result Record Refusal → Result Record Refusal → Set
three x y z = record { first = content_of x; second = content_of y; third = content_of z }

abbrev from-third : Result Record Refusal → Result Record Refusal → Result Record Refusal → Answer
from-third x y z = answer_of z then set_tests (three x y z)

abbrev from_second : Result Record Refusal → Result Record Refusal → Result Record Refusal → Answer
from_second x y z = answer_of y then from-third x y z

abbrev pub from_first : Result Record Refusal → Result Record Refusal → Result Record Refusal → Result Set Refusal
from_first x y z = giving (answer_of x then from_second x y z) (three x y z)

alike : (x y y' z z' : Result Record Refusal) → (answer_of x ≡ Ok tt → y ≡ y') → (answer_of x ≡ Ok tt → answer_of y' ≡ Ok tt → z ≡ z')
    → from_first x y z ≡ from_first x y' z'
alike x y y' z z' h k =
    skip (answer_of x) (from_second x y z) (from_second x y' z') (three x y z) (three x y' z')
    (λ a. ap (λ (w : Result Record Refusal). giving (from_second x w z) (three x w z)) (h a)
    ∙ skip (answer_of y') (from-third x y' z) (from-third x y' z') (three x y' z) (three x y' z')
    (λ b. ap (λ (w : Result Record Refusal). giving (from-third x y' w) (three x y' w)) (k a b)))

module _ (φ : Phase) (bytes others : List ℕ) (count place : ℕ) where
  pub set-covered : length others ≡ length bytes → SameThere φ others bytes count place
      → (answer_of (reading φ bytes count place) ≡ Ok tt → SameThere φ others bytes count (second_place φ bytes count place))
      → (answer_of (reading φ bytes count place) ≡ Ok tt → answer_of (reading φ bytes count (second_place φ bytes count place)) ≡ Ok tt
      → SameThere φ others bytes count (third_place φ bytes count place))
      → set_reading φ others count place ≡ set_reading φ bytes count place
  unfolding set_reading
  set-covered l same₁ same₂ same₃ =
      let old : ℕ → Result Record Refusal = reading φ bytes count in
      let new : ℕ → Result Record Refusal = reading φ others count in
      let after : ℕ → Result Record Refusal → ℕ = λ p x. p + length_of (content_of x).kind in
      let second = second_place φ bytes count place in
      let third = third_place φ bytes count place in
      let e₁ : new place ≡ old place = reading-covered φ bytes others count place l same₁ in
      let p₂ : second_place φ others count place ≡ second = ap (after place) e₁ in
      let e₂ : answer_of (old place) ≡ Ok tt → new (second_place φ others count place) ≡ old second =
      λ a. ap new p₂ ∙ reading-covered φ bytes others count second l (same₂ a) in
      let e₃ : answer_of (old place) ≡ Ok tt → answer_of (old second) ≡ Ok tt → new (third_place φ others count place) ≡ old third =
      λ a b. ap new (ap₂ after p₂ (e₂ a)) ∙ reading-covered φ bytes others count third l (same₃ a b) in
      ap (λ (x : Result Record Refusal). from_first x (new (second_place φ others count place)) (new (third_place φ others count place))) e₁
      ∙ alike (old place) _ (old second) _ (old third) e₂ e₃

-- ---- what was read is written back

module _ (φ : Phase) (bytes : List ℕ) (count place : ℕ) (s : Set) (below : (i : ℕ) → get_or bytes i 0 < 256)
    (t : SetThere φ bytes count place s) where
  -- each of the three
  back : (p : ℕ) (r : Record) → reading φ bytes count p ≡ Ok r
      → WritesBack φ bytes count p r × (p + length_of r.kind ≤ count)
  back p r e = (read_back φ bytes count p below r e, read_fits φ bytes count p r e)

  abbrev first : WritesBack φ bytes count place s.first × (place + length_of s.first.kind ≤ count)
  first = back place s.first t.first

  abbrev second : WritesBack φ bytes count (place + 250) s.second × (place + 250 + length_of s.second.kind ≤ count)
  second = back (place + 250) s.second t.second

  abbrev third : WritesBack φ bytes count (place + 500) s.third × (place + 500 + length_of s.third.kind ≤ count)
  third = back (place + 500) s.third t.third

  inside : Passes bytes count
  inside = read_passes φ bytes count place s.first t.first

  room : place + set_length ≤ count
  room = omega (arith, third.1, (lengths s t.together).2)

  members : member_tests s ≡ Ok tt
  unfolding member_tests
  members = then_both first.0.passes (then_both second.0.passes third.0.passes)

  same_bits : set_bits s ≡ cut place set_length (recorded φ bytes count)
  unfolding set_bits
  same_bits =
      let u = recorded φ bytes count in
      let l = lengths s t.together in
      let one = first.0.same_bits ∙ ap (λ (n : ℕ). cut place n u) l.0 in
      let two = second.0.same_bits ∙ ap (λ (n : ℕ). cut (place + 250) n u) l.1 in
      let three = third.0.same_bits ∙ ap (λ (n : ℕ). cut (place + 500) n u) l.2 in
      let e : place + 500 ≡ place + 250 + 250 = omega arith in
      ap₂ (λ (x y : List Bool). x ++ y) one
      (ap₂ (λ (x y : List Bool). x ++ y) two (three ∙ ap (λ (q : ℕ). cut q 250 u) e) ∙ sym (cut_split (place + 250) 250 250 u))
      ∙ sym (cut_split place 250 500 u)

  pub set_read_back : SetWritesBack φ bytes count place s
  unfolding set_writing set_write_tests
  set_read_back =
      let tested = (set-passes s).1 t.together in
      record {
        passes = (members, tested);
        same_bits = same_bits;
        writes =
            ap (λ (a : Answer). giving a (place + set_length))
            (then_both (passes-place inside (omega (arith, room)))
            (then_both members (then_both tested (sym (when_no (RunsOut place) (le-ltb count (place + set_length) room))))));
        same_bytes = with_same φ bytes count place set_length (set_bits s) below inside room same_bits;
      }

-- ---- what was written is read back

-- What a set's Rattle type says of it.
pub record TypedSet (s : Set) : Type 0 where
  pub first : Typed s.first
  pub second : Typed s.second
  pub third : Typed s.third

module _ (s : Set) (holds : TypedSet s) (t : Together s) where
  pub size : (length (string s.first) ≡ 250) × (length (string s.second) ≡ 250) × (length (string s.third) ≡ 250)
  size =
      let l = lengths s t in (
        length-string s.first holds.first ∙ l.0,
        length-string s.second holds.second ∙ l.1,
        length-string s.third holds.third ∙ l.2,
      )

  pub length-set_bits : length (set_bits s) ≡ set_length
  unfolding set_bits
  length-set_bits =
      omega (
        arith,
        length-append (string s.first) (string s.second ++ string s.third),
        length-append (string s.second) (string s.third),
        size.0,
        size.1,
        size.2,
      )

  -- its strings, cut from its bits
  first-bits : cut 0 250 (set_bits s) ≡ string s.first
  unfolding set_bits cut
  first-bits = take_at (string s.first) _ 250 size.0

  others-bits : drop 250 (set_bits s) ≡ string s.second ++ string s.third
  unfolding set_bits
  others-bits = drop_at (string s.first) _ 250 size.0

  second-bits : cut 250 250 (set_bits s) ≡ string s.second
  unfolding cut
  second-bits = ap (take 250) others-bits ∙ take_at (string s.second) _ 250 size.1

  third-bits : cut 500 250 (set_bits s) ≡ string s.third
  unfolding cut
  third-bits =
      ap (take 250) (sym (drop-drop 250 250 (set_bits s)) ∙ ap (drop 250) others-bits ∙ drop_at (string s.second) _ 250 size.1)
      ∙ cut_whole 250 (string s.third) size.2

pub set-written-back : (bytes : List ℕ) (count place next : ℕ) (s : Set) → TypedSet s
    → set_writing (length bytes) count place s ≡ Ok next
    → SetReadsBack (bytes_after (Ok next) place (set_bits s) bytes) count place s
unfolding set_writing set_write_tests member_tests
set-written-back bytes count place next s holds e =
    let a =
    then_pass (place_tests (length bytes) count place) _
    (given_passed (set_write_tests (length bytes) count place s) (place + set_length) next e) in
    let m = then_pass (member_tests s) _ a.1 in
    let m₁ = then_pass (record_tests s.first) _ m.0 in
    let m₂ = then_pass (record_tests s.second) (record_tests s.third) m₁.1 in
    let c = then_pass (set_tests s) (when (above (place + set_length) count) (RunsOut place)) m.1 in
    let t = (set-passes s).0 c.0 in
    let l = lengths s t in
    let inside = (place-passes bytes count place a.0).0 in
    let room = ltb-false count (place + set_length) (when_pass (above (place + set_length) count) (RunsOut place) c.1) in
    let v = set_bits s in
    let lv = length-set_bits s holds t in
    let fits : place + length v ≤ count = omega arith in
    let b = with_bits place v bytes in
    let u = recorded Straight b count in
    let passes = with_passes bytes count place v fits inside in
    let there = with_there bytes count place v fits inside in
    let one =
    there_back b count place s.first holds.first passes m₁.0 (omega arith)
    (ap (λ (n : ℕ). cut place n u) l.0 ∙ there 0 250 place (omega arith) (omega arith) ∙ first-bits s holds t) in
    let two =
    there_back b count (place + 250) s.second holds.second passes m₂.0 (omega arith)
    (ap (λ (n : ℕ). cut (place + 250) n u) l.1 ∙ there 250 250 (place + 250) refl (omega arith)
    ∙ second-bits s holds t) in
    let three =
    there_back b count (place + 500) s.third holds.third passes m₂.1 (omega arith)
    (ap (λ (n : ℕ). cut (place + 500) n u) l.2 ∙ there 500 250 (place + 500) refl (omega arith)
    ∙ third-bits s holds t) in
    record {
      reads =
          (set-exact Straight b count place s).1
          (record { first = one.reads; second = two.reads; third = three.reads; together = t });
      first = one;
      second = two;
      third = three;
    }
