-- `fields::code`: by cases of the sign. Assumes nothing.
use mathlib.Core.Bool.{Bool}
use mathlib.Core.Path.{◌≡◌, sym, ap, ◌∙◌}
use Prim.Native.Nat.{ℕ, ◌<◌, ◌-◌, ◌^◌, ◌≤◌}
use native.Mathlib.Omega.{arith}
use lib.IntN.{ℤ, nat_abs}
use lib.ListN.{length}
use mir.Facts.{to_z-of_z}
use mir.Syntax.{w64}
use Rattle.bits.specs.Bits.{number}
use Rattle.bits.specs.Signed.{sign_magnitude}
use Rattle.bits.proofs.Numbers.{number-back, number_lt, length-bits}
use Rattle.fields.specs.Coded.{code_of}
use Rattle.fields.proofs.code.Goals as goal

sign_magnitude_lt : (w : ℕ) (v : ℤ) (minus : Bool) → 2 ≤ w → number (sign_magnitude w v minus) < 2 ^ w
sign_magnitude_lt w v minus h =
    let p = sign_magnitude w v minus in
    let l : length p ≡ w = omega (arith, length-bits (w - 1) (nat_abs v)) in
    omega (arith, number_lt p, ap (λ (n : ℕ). 2 ^ n) l)

pub invariant_of-result : goal.invariant_of-result
invariant_of-result c =
    let wide = (c.requires.1 c.if-place.true).0 in
    let w = c.args.place.now.width in
    let m = c.args.minus in
    let coded = c.new-word.ensures.0 ∙ ap (λ (y : ℤ). number (sign_magnitude w y m)) (to_z-of_z {w = w64} c.ranges.v) in
    record { narrow = c.requires.0; sized = λ e. wide; small = rw coded (sign_magnitude_lt w c.args.v m wide) }

pub returns-clause-coded : goal.returns-clause-coded
returns-clause-coded c =
    let p = c.args.place.now in
    let v = c.args.v in
    ap nat_abs (to_z-of_z {w = w64} c.ranges.v)
    ∙ sym (number-back p.width (nat_abs v) (c.requires.2 c.if-place.false).1)
    ∙ sym (ap (λ (b : Bool). number (code_of b p.width v c.args.minus)) c.if-place.false)
