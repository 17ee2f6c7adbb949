-- `values::scaled`: the record's tests, then the field's power, then the count times that power. Assumes nothing.
use Rattle.std.specs.Prelude.{Ok, Err, Result}
use mathlib.Core.Path.{◌≡◌, sym, ap, ap₂, ◌∙◌, subst}
use mathlib.Core.Bool.{Bool, true, false, false≢true}
use Prim.Native.Nat.{ℕ, ◌+◌, ◌-◌, ◌^◌, ◌≤◌, ◌<◌}
use native.Mathlib.Omega.{arith}
use lib.Ieee.{Float, nan, binary64, of_bits}
use lib.IntN.{ℤ, pos, nat_abs}
use lib.ListN.{length, get_or}
use mir.Facts.{to_z-of_z}
use mir.Syntax.{w64}
use borrow.Author.Rules.{rules}
use borrow.Author.Tests.{eq-eqb, ne_eqb}
use Rattle.format.specs.declared.Record.{Record}
use Rattle.format.specs.declared.Refusal.{Refusal}
use Rattle.format.specs.declared.Refusal.TheVariants.{OutOfRange}
use Rattle.format.specs.Answers.{value_code}
use Rattle.format.specs.Tests.{when, ◌then◌}
use Rattle.format.specs.Records.{record_tests}
use Rattle.format.specs.Types.{places}
use Rattle.format.specs.Values.{power_of, count_of, scaled_bits, IsScaled, scaling, ScalePromise}
use Rattle.format.proofs.Theorems.{scale_numbered}
use Rattle.values.proofs.Fields.{powered, count_at, count_few}
use Rattle.values.proofs.scaled.Goals as goal

module _ (r : Record) (n : ℕ) where
  refused-record : (a : Refusal) → record_tests r ≡ Err a → Err a ≡ scaling r n
  unfolding scaling ◌then◌
  refused-record a e = rw e

  module _ (e : record_tests r ≡ Ok tt) where
    refused-number : power_of r.kind n ≡ 0 → Err (OutOfRange n) ≡ scaling r n
    unfolding scaling when ◌then◌
    refused-number z = rw (e, eq-eqb _ _ z)

    given : (power_of r.kind n ≡ 0 → ⊥) → Ok (of_bits binary64 (scaled_bits (count_of r n) (power_of r.kind n))) ≡ scaling r n
    unfolding scaling when ◌then◌
    given z = rw (e, ne_eqb _ _ z)

  promised : {v : Result Float Refusal} → v ≡ scaling r n → ((x : Float) → v ≡ Ok x → IsScaled (count_of r n) (power_of r.kind n) x)
      → ScalePromise r n v
  promised {v} e exact =
      let s = scale_numbered r n in
      record {
        answered = e;
        numbered =
            (ap (λ (x : Result Float Refusal). (value_code x).0) e ∙ s.0, ap (λ (x : Result Float Refusal). (value_code x).1) e ∙ s.1);
        exact = exact;
      }

abbrev float_of : Result Float Refusal → Float
float_of (Ok x) = x
float_of (Err a) = nan

abbrev is_number : Result Float Refusal → Bool
is_number (Ok x) = true
is_number (Err a) = false

none : (a : Refusal) (P : Float → Type 0) → (x : Float) → ◌≡◌ {A = Result Float Refusal} (Err a) (Ok x) → P x
none a P x e = absurd (false≢true (ap is_number e))

one : (y : Float) (P : Float → Type 0) → P y → (x : Float) → ◌≡◌ {A = Result Float Refusal} (Ok y) (Ok x) → P x
one y P p x e = subst P (ap float_of e) p

pub returns-in_default : goal.returns-in_default
returns-in_default c =
    let passed : record_tests c.args.r.now ≡ Ok tt = sym c.record_tests.ensures ∙ c.in_ok-record_tests.was in
    let no_power : power_of c.args.r.now.kind c.args.field ≡ 0 = omega (arith, c.in_default.ensures) in
    promised c.args.r.now c.args.field (refused-number c.args.r.now c.args.field passed no_power) (none (OutOfRange c.args.field) _)

pub overflow_sub-field : goal.overflow_sub-field
overflow_sub-field c = (powered c.args.r.now.kind c.args.field c.in-Some.ensures.0).0

pub offset_bounds-r-field : goal.offset_bounds-r-field
offset_bounds-r-field c =
    let inside = powered c.args.r.now.kind c.args.field c.in-Some.ensures.0 in
    record { fits = omega (arith, inside.1) }

pub bounds-r-field : goal.bounds-r-field
bounds-r-field c = (powered c.args.r.now.kind c.args.field c.in-Some.ensures.0).1

pub scale-requires : goal.scale-requires
scale-requires c =
    let passed : record_tests c.args.r.now ≡ Ok tt = sym c.record_tests.ensures ∙ c.in_ok-record_tests.was in
    let there = c.in-Some.ensures.0 in
    let inside : (10 ≤ c.args.field) × (c.args.field - 10 < places) = powered c.args.r.now.kind c.args.field there in
    let number_at : 10 + (c.args.field - 10) ≡ c.args.field = omega (arith, inside.0) in
    let few : nat_abs (get_or c.args.r.now.numbers (c.args.field - 10) (pos 0)) < 2 ^ 53 =
    let l : length c.args.r.now.numbers ≡ places = search rules in
    count_few c.args.r.now (c.args.field - 10) passed (omega (arith, inside.1))
    (λ e. omega (arith, there, ap (power_of c.args.r.now.kind) (sym number_at), e)) in
    rw (to_z-of_z {w = w64} (record { sfits = c.scale-arg-1.given })) few

pub returns-in_err-record_tests : goal.returns-in_err-record_tests
returns-in_err-record_tests c =
    let r : c.from_residual.result ≡ Err c.in_err-record_tests.field-0.0 = search rules in
    let refused = refused-record c.args.r.now c.args.field _ (sym c.record_tests.ensures ∙ c.in_err-record_tests.was) in
    promised c.args.r.now c.args.field (r ∙ refused) (λ x e. absurd (false≢true (ap is_number (sym r ∙ e))))

pub returns : goal.returns
returns c =
    let passed : record_tests c.args.r.now ≡ Ok tt = sym c.record_tests.ensures ∙ c.in_ok-record_tests.was in
    let there = c.in-Some.ensures.0 in
    let inside : (10 ≤ c.args.field) × (c.args.field - 10 < places) = powered c.args.r.now.kind c.args.field there in
    let number_at : 10 + (c.args.field - 10) ≡ c.args.field = omega (arith, inside.0) in
    let count-is : get_or c.args.r.now.numbers (c.args.field - 10) (pos 0) ≡ count_of c.args.r.now c.args.field =
    sym (count_at c.args.r.now (c.args.field - 10)) ∙ ap (count_of c.args.r.now) number_at in
    let z = to_z-of_z {w = w64} (record { sfits = c.scale-arg-1.given }) ∙ count-is in
    let k = c.in-Some.ensures.1 in
    let is = c.scale.ensures.value ∙ ap₂ (λ (z : ℤ) (k : ℕ). of_bits binary64 (scaled_bits z k)) z k in
    promised c.args.r.now c.args.field (ap Ok is ∙ given c.args.r.now c.args.field passed (λ e. omega (arith, there, e)))
    (one c.scale.result (IsScaled (count_of c.args.r.now c.args.field) (power_of c.args.r.now.kind c.args.field))
    (rw (← z, ← k) c.scale.ensures.scaled))
