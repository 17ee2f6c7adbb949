-- Ok 0 comes with no refusal. Assumes nothing.
use Rattle.std.specs.Prelude.{Ok, Err, Result, Float}
use Rattle.format.specs.Tests.{Answer, Outcome}
use mathlib.Core.Path.{◌≡◌, refl}
use Prim.Native.Nat.{ℕ}
use native.Mathlib.Omega.{arith}
use Rattle.format.specs.Answers.{refusal_code, answer_code, outcome_code, value_code}
use Rattle.format.specs.declared.Refusal.{Refusal}
use Rattle.format.specs.declared.Refusal.TheVariants.{TooLong, BeyondBytes, BeyondCount, NoMark, RunsOut, CheckFails}
use Rattle.format.specs.declared.Refusal.TheVariants.{OutOfRange, OtherOrbit, ListShort, MinusZero, NotZero}
use Rattle.format.specs.declared.Refusal.TheVariants.{OtherTypes, OtherSatellites, OtherTimes, NotAlmanac}

pub not-zero : (r : Refusal) → (refusal_code r).0 ≡ 0 → ⊥
not-zero TooLong e = omega arith
not-zero BeyondBytes e = omega arith
not-zero (BeyondCount place) e = omega arith
not-zero (NoMark place) e = omega arith
not-zero (RunsOut place) e = omega arith
not-zero (CheckFails place) e = omega arith
not-zero (OutOfRange field) e = omega arith
not-zero OtherOrbit e = omega arith
not-zero (ListShort count) e = omega arith
not-zero (MinusZero bit) e = omega arith
not-zero NotZero e = omega arith
not-zero OtherTypes e = omega arith
not-zero OtherSatellites e = omega arith
not-zero OtherTimes e = omega arith
not-zero NotAlmanac e = omega arith

pub zero_passed : (a : Answer) → (answer_code a).0 ≡ 0 → a ≡ Ok tt
zero_passed (Ok u) e = refl
zero_passed (Err r) e = absurd (not-zero r e)

pub zero-given : (a : Outcome) → (outcome_code a).0 ≡ 0 → (n : ℕ) × (a ≡ Ok n)
zero-given (Ok n) e = (n, refl)
zero-given (Err r) e = absurd (not-zero r e)

pub zero_number : (v : Result Float Refusal) → (value_code v).0 ≡ 0 → v ≡ Ok (value_code v).2
zero_number (Ok x) e = refl
zero_number (Err r) e = absurd (not-zero r e)
