-- Days in a row: how many days after one another comes, by their places in the row. Assumes nothing.
use mathlib.Core.Path.{◌≡◌, refl, ap, ◌∙◌}
use Prim.Native.Nat.{ℕ, ◌+◌, ◌-◌, ◌*◌, ◌%◌, ◌<◌}
use native.Mathlib.Omega.{arith}
use lib.IntN.{ℤ, pos, negsuc, ◌+ℤ◌, ◌-ℤ◌}
use Rattle.std.specs.Int.{int_rem_euclid}
use Rattle.std.specs.Int.RustNames.{unsigned_abs}
use Rattle.std.proofs.lemmas.Int.{ints, int_rem_euclid_is}
use Rattle.almanac.specs.Days.{days_after}
use Rattle.format.specs.Types.{interval_days}

-- what is left of a number modulo 1461
abbrev pub left : ℤ → ℕ
left z = unsigned_abs (int_rem_euclid z (pos interval_days))

pub left_lt : (z : ℤ) → left z < interval_days
left_lt (pos n) = omega arith
left_lt (negsuc n) = omega arith

-- by any natural number that comes by whole intervals
shifted : (z : ℤ) (k m : ℕ) → z +ℤ pos (k * interval_days) ≡ pos m → left z ≡ m % interval_days
shifted z k m e = ap unsigned_abs (int_rem_euclid_is z (pos interval_days) interval_days k m (omega arith) refl e)

-- of a difference, by what is left of each
pub left_minus : (a b : ℤ) → left (a -ℤ b) ≡ (left a + (interval_days - left b)) % interval_days
left_minus (pos a) (pos b) = omega (arith, shifted (pos a -ℤ pos b) b (a + b * (interval_days - 1)) (omega (arith, ints)))
left_minus (pos a) (negsuc b) = omega arith
left_minus (negsuc a) (pos b) = omega (arith, shifted (negsuc a -ℤ pos b) (a + b + 1) ((a + b + 1) * (interval_days - 1)) (omega (arith, ints)))
left_minus (negsuc a) (negsuc b) = omega (arith, shifted (negsuc a -ℤ negsuc b) a (b + a * (interval_days - 1)) (omega (arith, ints)))

differ : (f a b : ℤ) → b -ℤ a ≡ (b -ℤ f) -ℤ (a -ℤ f)
differ f a b = omega (arith, ints)

-- whichever day the row begins with
pub apart : (f a b : ℤ) → days_after a b ≡ (days_after f b + (interval_days - days_after f a)) % interval_days
unfolding days_after
apart f a b = ap left (differ f a b) ∙ left_minus (b -ℤ f) (a -ℤ f)

pub after_lt : (a b : ℤ) → days_after a b < interval_days
unfolding days_after
after_lt a b = left_lt (b -ℤ a)

-- ---- as the code counts, by what is left of each day
pub rem_left : (z : ℤ) → int_rem_euclid z (pos interval_days) ≡ pos (left z)
rem_left (pos n) = refl
rem_left (negsuc n) = refl

pub left_left : (a b : ℤ) → left (pos (left b) -ℤ pos (left a)) ≡ days_after a b
unfolding days_after
left_left a b = omega (arith, left_minus (pos (left b)) (pos (left a)), left_minus b a, left_lt a, left_lt b)
