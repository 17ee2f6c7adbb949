-- The fields of a type by their numbers, and the sizes of their counts. Assumes nothing.
use Rattle.std.specs.Prelude.{Ok}
use mathlib.Core.Path.{◌≡◌, refl, sym, ap, ◌∙◌}
use mathlib.Core.Bool.{Bool, true, false≢true, ◌&&◌, and-eq-true_iff}
use mathlib.Core.List.{List, ◌∷◌}
use Prim.Native.Nat.{ℕ, ◌+◌, ◌-◌, ◌^◌, ◌≤◌, ◌<◌}
use native.Mathlib.Nat.{lt_of_lt_of_le, lt_of_le_of_lt, lt_of_not-le}
use native.Mathlib.Decide.{dec_le, dec_lt}
use native.Mathlib.Omega.{arith}
use lib.Dec.{eqb, leb, ltb}
use lib.IntN.{ℤ, pos, negsuc, nat_abs}
use lib.ListN.{length, get_or, get_or-append, get_or-eq_default}
use lib.Pow.{pow_mono}
use lib.Seq.{get_or-drop}
use lib.Signed.{le_z}
use borrow.Author.Tests.{eqb-true, leb-true, ltb-true}
use Rattle.format.proofs.FieldLaws.{range_ends, range_size, ranges-at}
use Rattle.format.proofs.Information.{every_at, every_place, length_information}
use Rattle.format.proofs.Order.{then_pass}
use Rattle.format.proofs.Writing.{ranged}
use Rattle.format.specs.declared.Record.{Record}
use Rattle.format.specs.Fields.{Field, unsigned, signed, absent, power, in_range}
use Rattle.format.specs.Records.{numbers_of, field_tests, record_tests}
use Rattle.format.specs.Types.{service, places, places_of, fields_of}
use Rattle.format.specs.Values.{power_of, count_of}
use Rattle.types.specs.declared.rows.Place.{Place}
use Rattle.types.specs.Rows.{no_place, Describes}
use Rattle.types.proofs.Table.{place_at}

-- ---- by number

abbrev plain : Field → Bool
plain f = eqb (power f) 0

-- no service field has a power
pub power_early : (t n : ℕ) → n < 10 → power_of t n ≡ 0
unfolding power_of
power_early t n h =
    ap power (get_or-append (absent ∷ service) (places_of t) absent n h)
    ∙ eqb-true _ 0 (every_at plain (absent ∷ service) n refl refl)

pub power_at : (t i : ℕ) → power_of t (10 + i) ≡ power (get_or (places_of t) i absent)
unfolding power_of
power_at t i = ap power (sym (get_or-drop 10 (absent ∷ fields_of t) i absent))

pub power-past : (t i : ℕ) → places ≤ i → power_of t (10 + i) ≡ 0
power-past t i h = power_at t i ∙ ap power (get_or-eq_default (places_of t) absent (omega (arith, length_information t)))

-- the table's power at the place i is that of the field's number
pub table_power : {t : ℕ} {table : List Place} (n i : ℕ) → Describes t table → 10 ≤ n → i ≡ n - 10
    → (get_or table i no_place).power ≡ power_of t n
table_power {t} n i d l e =
    let number : 10 + i ≡ n = omega arith in
    ap (λ (p : Place). p.power) (place_at d i) ∙ sym (power_at t i) ∙ ap (power_of t) number

-- only fields 10 on, one a place, have one
pub powered : (t n : ℕ) → 0 < power_of t n → (10 ≤ n) × (n - 10 < places)
powered t n p = late (dec_lt n 10)
  where
    inner : 10 ≤ n → Dec (places ≤ n - 10) → (10 ≤ n) × (n - 10 < places)
    inner l (yes h) =
        let e : 10 + (n - 10) ≡ n = omega arith in absurd (omega (arith, p, ap (power_of t) (sym e) ∙ power-past t (n - 10) h))
    inner l (no h) = (l, lt_of_not-le h)

    late : Dec (n < 10) → (10 ≤ n) × (n - 10 < places)
    late (yes h) = absurd (omega (arith, p, power_early t n h))
    late (no h) = let l : 10 ≤ n = omega (arith, h) in inner l (dec_le places (n - 10))

pub count_at : (r : Record) (i : ℕ) → count_of r (10 + i) ≡ get_or r.numbers i (pos 0)
unfolding count_of
count_at r i = sym (get_or-drop 10 (pos 0 ∷ numbers_of r) i (pos 0))

-- ---- counts of at most 53 binary digits

abbrev few : Field → Bool
few (unsigned w a b k) = ltb b (2 ^ 53)
few (signed w k) = leb w 54
few absent = true

few_number : (f : Field) (v : ℤ) → few f ≡ true → in_range f v ≡ true → (power f ≡ 0 → ⊥) → nat_abs v < 2 ^ 53
unfolding in_range
few_number (unsigned w a b k) (pos n) e r p = lt_of_le_of_lt (range_ends w a b k n r).1 (ltb-true b (2 ^ 53) e)
few_number (unsigned w a b k) (negsuc n) e r p = absurd (false≢true r)
few_number (signed w k) v e r p =
    let s : w ≤ 54 = leb-true w 54 e in
    let narrow : w - 1 ≤ 53 = omega arith in
    lt_of_lt_of_le (range_size w k v r) (pow_mono narrow)
few_number absent v e r p = absurd (p refl)

-- a record that passes its tests has such a count in each field with a power
pub count_few : (r : Record) (i : ℕ) → record_tests r ≡ Ok tt → i < length r.numbers → (power_of r.kind (10 + i) ≡ 0 → ⊥)
    → nat_abs (get_or r.numbers i (pos 0)) < 2 ^ 53
unfolding record_tests
count_few r i d h p =
    let fs = places_of r.kind in
    let passed = (ranged r (then_pass (field_tests r) _ d).0).numbers in
    few_number (get_or fs i absent) (get_or r.numbers i (pos 0)) (every_at few fs i refl (every_place few refl r.kind))
    (ranges-at fs r.numbers 10 i passed h) (λ e. p (power_at r.kind i ∙ e))

-- ---- a range of numbers that are not negative

pub inside : (a b : ℕ) (z : ℤ) → (le_z (pos a) z && le_z z (pos b)) ≡ true → (z ≡ pos (nat_abs z)) × (a ≤ nat_abs z) × (nat_abs z ≤ b)
inside a b (pos n) e = let t = (and-eq-true_iff (leb a n) _).0 e in (refl, leb-true a n t.0, leb-true n b t.1)
inside a b (negsuc n) e = absurd (false≢true e)
