-- The ranges of a decoded record: only those that are narrower than their field's width can refuse. Assumes nothing.
use Rattle.std.specs.Prelude.{Ok, Err}
use mathlib.Core.Path.{◌≡◌, refl, sym, ap, ◌∙◌}
use mathlib.Core.Bool.{Bool, true, false, cond, not, ◌&&◌, and-eq-true_iff}
use mathlib.Core.List.{List, [], ◌∷◌}
use Prim.Native.Nat.{ℕ, zero, suc, ◌+◌, ◌-◌, ◌^◌, ◌≤◌, ◌<◌}
use native.Mathlib.Nat.{add-zero, lt_of_lt_of_le}
use native.Mathlib.Omega.{arith}
use native.Mathlib.Numerals.{add-one}
use borrow.Author.Tests.{eqb-true, le-leb}
use lib.Dec.{eqb}
use lib.IntN.{ℤ, pos, negsuc, neg_ℤ, nat_abs}
use lib.ListN.{length, length-take, get_or, take, drop}
use lib.Pow.{pow_mono}
use lib.Seq.{drop-length, drop-cons, drop-drop, get_or-drop}
use Rattle.std.specs.Ordering.{is_le, nat_cmp}
use lib.Signed.{le_z}
use Rattle.bits.specs.Bits.{number, cut}
use Rattle.bits.specs.Signed.{signed_of}
use Rattle.bits.proofs.Numbers.{number_lt}
use Rattle.bits.proofs.SignLaws.{signed_lt}
use Rattle.format.specs.declared.Refusal.TheVariants.{OutOfRange, OtherOrbit}
use Rattle.format.specs.Fields.{Field, unsigned, signed, absent, width, in_range, value, values}
use Rattle.format.specs.declared.Record.{Record}
use Rattle.format.specs.declared.Refusal.{Refusal}
use Rattle.format.specs.Reading.{information_bits, record_at}
use Rattle.format.specs.Records.{ranges, other_orbit, field_tests}
use Rattle.format.specs.Strings.{string_bits, type_at}
use Rattle.format.specs.Tests.{Answer, when, ◌then◌}
use Rattle.format.specs.Types.{places_of, last_time, type_number, satellite_number, flag, call, correction, omb}
use Rattle.format.proofs.Order.{passed_then, refused_then, cond_then}
use Rattle.types.specs.declared.rows.Place.{Place}
use Rattle.types.specs.Rows.{Describes, is_full, narrow}
use Rattle.types.proofs.Table.{narrow_used}
use Rattle.ranges.specs.OfBits.{OfBits}
use Rattle.ranges.proofs.Laws.{nat_seen}

-- ---- a field that takes every number that its bits stand for
between : (m : ℕ) (z : ℤ) → nat_abs z ≤ m → (le_z (neg_ℤ (pos m)) z && le_z z (pos m)) ≡ true
between zero (pos n) h = rw (le-leb 0 n (omega arith), le-leb n 0 h) refl
between (suc m) (pos n) h = le-leb n (suc m) h
between zero (negsuc n) h = absurd (omega arith)
between (suc m) (negsuc n) h = rw (le-leb n m (omega arith)) refl

pub full_passes : (f : Field) (p : List Bool) → length p ≤ width f → is_full f ≡ true → in_range f (value f p) ≡ true
unfolding in_range
full_passes (unsigned w a b k) p l e =
    let s = (and-eq-true_iff (eqb a 0) (eqb b (2 ^ w - 1))).0 e in
    let low : a ≡ 0 = eqb-true a 0 s.0 in
    let high : b ≡ 2 ^ w - 1 = eqb-true b (2 ^ w - 1) s.1 in
    let small : number p < 2 ^ w = lt_of_lt_of_le (number_lt p) (pow_mono {i = length p} {j = w} l) in
    rw (le-leb a (number p) (omega arith), le-leb (number p) b (omega arith)) refl
full_passes (signed w k) p l e =
    let small : nat_abs (signed_of p) < 2 ^ (w - 1) =
    lt_of_lt_of_le (signed_lt p) (pow_mono {i = length p - 1} {j = w - 1} (omega arith)) in
    between (2 ^ (w - 1) - 1) (signed_of p) (omega arith)
full_passes absent p l e = refl

-- ---- the places that are tested
-- the first of some places whose number is out of its range
abbrev pub first_of : List Field → List ℤ → List ℕ → Answer
first_of fs vs [] = Ok tt
first_of fs vs (i ∷ is) = cond (in_range (get_or fs i absent) (get_or vs i (pos 0))) (first_of fs vs is) (Err (OutOfRange (10 + i)))

front : {A : Type 0} (l : List A) (m : ℕ) (d x : A) (t : List A) → x ∷ t ≡ drop m l → (get_or l m d ≡ x) × (t ≡ drop (suc m) l)
front {A = A} l m d x t e =
    let first = ap (λ (r : List A). get_or r 0 d) e ∙ get_or-drop m l 0 d ∙ ap (λ (k : ℕ). get_or l k d) (add-zero m) in
    (sym first, ap (drop 1) e ∙ drop-drop 1 m l ∙ ap (λ (k : ℕ). drop k l) (add-one m))

narrow_first : (whole : List Field) (vs : List ℤ) (fs : List Field) (p : List Bool) (m : ℕ) → fs ≡ drop m whole → values fs p ≡ drop m vs
    → first_of whole vs (narrow fs m) ≡ ranges fs (values fs p) (10 + m)
unfolding ranges values
narrow_first whole vs [] p m ef ev = refl
narrow_first whole vs (f ∷ fs) p m ef ev =
    let rest = drop (width f) p in
    let a = front whole m absent f fs ef in
    let b = front vs m (pos 0) (value f (take (width f) p)) (values fs rest) ev in
    let next : 10 + suc m ≡ suc (10 + m) = omega arith in
    at (is_full f) refl a.0 b.0 (narrow_first whole vs fs rest (suc m) a.1 b.1 ∙ ap (ranges fs (values fs rest)) next)
  where
    at : (c : Bool) → is_full f ≡ c → get_or whole m absent ≡ f → get_or vs m (pos 0) ≡ value f (take (width f) p)
        → first_of whole vs (narrow fs (suc m)) ≡ ranges fs (values fs (drop (width f) p)) (suc (10 + m))
        → first_of whole vs (cond c (narrow fs (suc m)) (m ∷ narrow fs (suc m)))
        ≡ cond (in_range f (value f (take (width f) p))) (ranges fs (values fs (drop (width f) p)) (suc (10 + m)))
        (Err (OutOfRange (10 + m)))
    at true e a b more = more ∙ rw (full_passes f (take (width f) p) (omega (arith, length-take (width f) p)) e) refl
    at false e a b more = rw (a, b, more) refl

-- the test of a decoded record's numbers, over a list of the narrow places
module _ {r : Record} (d : OfBits r) {is : List ℕ} (listed : is ≡ narrow (places_of r.kind) 0) where
  pub narrow-start : first_of (places_of r.kind) r.numbers is ≡ ranges (places_of r.kind) r.numbers 10
  unfolding record_at
  narrow-start =
      let decoded : r.numbers ≡ values (places_of r.kind) (information_bits d.bits d.place) = rw d.is refl in
      rw (listed, decoded) (narrow_first (places_of r.kind) _ (places_of r.kind) (information_bits d.bits d.place) 0 refl refl)

  pub narrow_inside : {table : List Place} → Describes r.kind table → (k : ℕ) → k < length is → get_or is k 0 < length table
  narrow_inside t k h = rw listed (narrow_used t k (rw (← listed) h))

-- a turn of the loop over the list: x is what the test of a place finds
module _ (fs : List Field) (vs : List ℤ) (is : List ℕ) (k : ℕ) where
  pub first-end : k ≡ length is → Ok tt ≡ first_of fs vs (drop k is)
  first-end e = rw (e, drop-length is) refl

  abbrev i : ℕ
  i = get_or is k 0

  module _ (h : k < length is) {x : Answer}
      (e : x ≡ when (not (in_range (get_or fs i absent) (get_or vs i (pos 0)))) (OutOfRange (10 + i))) where
    first_turn : first_of fs vs (drop k is) ≡ (x then first_of fs vs (drop (k + 1) is))
    first_turn = rw (drop-cons is k 0, add-one k, e) (cond_then _ _ _)

    pub first-takes : x ≡ Ok tt → first_of fs vs (drop (k + 1) is) ≡ first_of fs vs (drop k is)
    first-takes f = rw (first_turn, f) (sym (passed_then _))

    pub first-refuses : {r : Refusal} → x ≡ Err r → Err r ≡ first_of fs vs (drop k is)
    first-refuses {r} f = rw (first_turn, f) (sym (refused_then r _))

-- ---- fields 1 to 9
service_passes : (f : Field) (bits : List Bool) (place i j : ℕ) → width f ≡ j + 1 - i → is_full f ≡ true
    → in_range f (value f (string_bits bits place i j)) ≡ true
unfolding string_bits cut
service_passes f bits place i j w e =
    full_passes f (string_bits bits place i j) (omega (arith, length-take (j + 1 - i) (drop (place + i - 1) bits))) e

-- what `within` finds of them
limited : (w lo hi n v : ℕ) {x : Answer} → x ≡ when (not (is_le (nat_cmp lo v) && is_le (nat_cmp v hi))) (OutOfRange n)
    → when (not (in_range (unsigned w lo hi 0) (pos v))) (OutOfRange n) ≡ x
unfolding in_range
limited w lo hi n v e = sym (e ∙ rw (nat_seen lo v, nat_seen v hi) refl)

pub satellite_found : (v : ℕ) {x : Answer} → x ≡ when (not (is_le (nat_cmp 1 v) && is_le (nat_cmp v 63))) (OutOfRange 2)
    → when (not (in_range satellite_number (pos v))) (OutOfRange 2) ≡ x
satellite_found = limited 6 1 63 2

pub time_found : (v : ℕ) {x : Answer} → x ≡ when (not (is_le (nat_cmp 0 v) && is_le (nat_cmp v last_time))) (OutOfRange 9)
    → when (not (in_range omb (pos v))) (OutOfRange 9) ≡ x
time_found = limited 16 0 last_time 9

in_turn : (a b : Bool) (c t : Answer) (x y : Refusal)
    → (cond a (cond b c (Err y)) (Err x) then t) ≡ (when (not a) x then when (not b) y then c then t)
unfolding when ◌then◌
in_turn true true c t x y = refl
in_turn true false c t x y = refl
in_turn false b c t x y = refl

-- of these only the satellite number and OMB can be out of range
pub tests_are : {r : Record} → OfBits r → field_tests r
    ≡ (when (not (in_range satellite_number (pos r.satellite))) (OutOfRange 2)
    then when (not (in_range omb (pos r.time))) (OutOfRange 9)
    then ranges (places_of r.kind) r.numbers 10
    then when (other_orbit r) OtherOrbit)
unfolding field_tests ranges record_at type_at
tests_are d =
    let b = d.bits in
    let p = d.place in
    let p1 = service_passes type_number b p 13 18 refl refl in
    let p3 = service_passes flag b p 25 25 refl refl in
    let p4 = service_passes flag b p 26 26 refl refl in
    let p5 = service_passes call b p 27 30 refl refl in
    let p6 = service_passes flag b p 31 31 refl refl in
    let p7 = service_passes correction b p 32 33 refl refl in
    let p8 = service_passes flag b p 34 34 refl refl in
    rw (d.is, p1, p3, p4, p5, p6, p7, p8) (in_turn _ _ _ _ _ _)
