-- `almanac::days_after`: what is left of the difference of what is left of each day. Assumes nothing.
use mathlib.Core.Path.{◌≡◌, ap, ap₂, ◌∙◌}
use native.Mathlib.Omega.{arith}
use lib.IntN.{ℤ, pos, ◌-ℤ◌, nat_abs}
use mir.Syntax.{w64}
use mir.Val.{of_z, to_z}
use Rattle.std.specs.Int.{int_rem_euclid}
use Rattle.std.proofs.lemmas.Int.{ints, to_z-of_z, to_z_pos}
use Rattle.format.specs.Types.{interval_days}
use Rattle.almanac.specs.Days.{days_after}
use Rattle.almanac.proofs.Rows.{left, left_lt, rem_left, left_left, after_lt}
use Rattle.almanac.proofs.days_after.Goals as goal

-- a number as the machine has it
abbrev kept : ℤ → ℤ
kept z = to_z w64 (of_z w64 z)

abbrev rem : ℤ → ℤ
rem z = int_rem_euclid z (pos interval_days)

counted : (a b : ℤ) → rem (kept (kept (pos (left b)) -ℤ kept (pos (left a)))) ≡ pos (days_after a b)
counted a b =
    let x : kept (pos (left b)) ≡ pos (left b) = to_z_pos w64 (left b) (omega (arith, left_lt b)) in
    let y : kept (pos (left a)) ≡ pos (left a) = to_z_pos w64 (left a) (omega (arith, left_lt a)) in
    let d = to_z-of_z w64 (pos (left b) -ℤ pos (left a)) (omega (arith, ints, left_lt a, left_lt b)) in
    ap rem (ap kept (ap₂ (λ (p : ℤ) (q : ℤ). p -ℤ q) x y) ∙ d) ∙ rem_left _ ∙ ap pos (left_left a b)

pub returns : goal.returns
returns c =
    let a = c.rem_euclid-2.ensures.value ∙ ap rem (to_z-of_z w64 c.args.first c.ranges.first) ∙ rem_left c.args.first in
    let b = c.rem_euclid.ensures.value ∙ ap rem (to_z-of_z w64 c.args.second c.ranges.second) ∙ rem_left c.args.second in
    let e =
    c.rem_euclid-3.ensures.value ∙ ap₂ (λ (p : ℤ) (q : ℤ). rem (kept (kept p -ℤ kept q))) b a ∙ counted c.args.first c.args.second in
    ap (λ (z : ℤ). nat_abs (kept z)) e ∙ ap nat_abs (to_z_pos w64 _ (omega (arith, after_lt c.args.first c.args.second)))
