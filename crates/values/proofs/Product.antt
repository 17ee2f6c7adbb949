-- A whole number of at most 53 binary digits times a power of two is exact as an f64: nothing is rounded. Assumes nothing.
use mathlib.Core.Path.{◌≡◌, refl, sym, ap, ◌∙◌, subst}
use mathlib.Core.Bool.{Bool, true, false, not}
use Prim.Native.Nat.{ℕ, zero, suc, ◌+◌, ◌-◌, ◌*◌, ◌%◌, ◌^◌, ◌≤◌, ◌<◌}
use native.Mathlib.Nat.{le_of_lt, lt_of_lt_of_le, mul_assoc, mul-one, one-mul, mul-pos}
use native.Mathlib.Omega.{arith}
use lib.Dec.{T, leb, ltb, le→leb, lt→ltb}
use lib.IntN.{ℤ, pos, negsuc, nat_abs}
use lib.Pow.{pow-add, pow_pos, pow_mono, shl_lt}
use lib.Ieee.{Float, nan, inf, fin, binary64, up, down, unlike, round}
use lib.Ieee.{mul, of_int, in_float, of_bits, to_bits, fits, is_nan, nan_bits, size}
use lib.Ieee.Fits.{down_pos, mul-fits, and_i}
use lib.Ieee.Bits.{of_bits-to_bits, nan_bits_is}
use lib.Ieee.Exact.{HasValue, round_exact}
use lib.Ieee.Scale.{round_same}
use lib.Ieee.Back.{round_whole}
use Rattle.bits.specs.Signed.{is_negative}
use Rattle.format.specs.Values.{digit_bits, scaled_bits, IsScaled}
use Rattle.values.proofs.Digits.{value-bits}

-- ---- 2 ^ -k

abbrev unit : ℕ → Float
unit zero = fin false 1 (pos 0)
unit (suc k) = fin false 1 (negsuc k)

unit_value : (k : ℕ) → HasValue (unit k) false 1 (2 ^ k)
unit_value zero = (refl, refl)
unit_value (suc k) = (refl, refl)

at-least_two : (n : ℕ) → 1 ≤ n → 2 ≤ 2 ^ n
at-least_two n h = pow_mono h

unit_fits : (k : ℕ) → k ≤ 1021 → T (fits binary64 (unit k))
unfolding fits
unit_fits zero h = tt
unit_fits (suc k) h =
    let low : suc k ≤ 1074 = omega arith in
    and_i (leb (2 ^ suc k) (2 ^ 1074)) (ltb 1 (2 ^ 1024 * 2 ^ suc k)) (le→leb (2 ^ suc k) (2 ^ 1074) (pow_mono low))
    (lt→ltb 1 (2 ^ 1024 * 2 ^ suc k) (rw (← pow-add 2 1024 (suc k)) (at-least_two (1024 + suc k) (omega arith))))

unit_bits_lem : (k : ℕ) → k ≤ 1021 → to_bits binary64 (unit k) ≡ (1023 - k) * 2 ^ 52
unfolding scaled_bits digit_bits size
unit_bits_lem k h = value-bits (unit k) (pos 1) k (unit_value k) (omega arith) h ∙ omega arith

-- the bits of the exponent alone, as the machine shifts them
abbrev shifted : ℕ → ℕ
shifted k = (1023 - k) * 4503599627370496 % 18446744073709551616

shifted_is : (k : ℕ) → k ≤ 1021 → of_bits binary64 (shifted k) ≡ unit k
shifted_is k h =
    let e : shifted k ≡ (1023 - k) * 2 ^ 52 = omega arith in
    ap (of_bits binary64) (e ∙ sym (unit_bits_lem k h)) ∙ of_bits-to_bits binary64 (unit k) (unit_fits k h)

pub power-exact : (k : ℕ) → k ≤ 1021 → IsScaled (pos 1) k (of_bits binary64 (shifted k))
power-exact k h =
    rw (shifted_is k h)
    (record { bits = value-bits (unit k) (pos 1) k (unit_value k) (omega arith) h; value = unit_value k })

pub power_no_nan : (k : ℕ) → k ≤ 1021 → T (not (nan_bits binary64 (shifted k)))
unfolding is_nan
power_no_nan zero h = rw (nan_bits_is binary64 (shifted zero), shifted_is zero h) tt
power_no_nan (suc k) h = rw (nan_bits_is binary64 (shifted (suc k)), shifted_is (suc k) h) tt

-- ---- a product

unlike_plus : (t u : Bool) → u ≡ false → unlike t u ≡ t
unlike_plus true true e = sym e
unlike_plus true false e = refl
unlike_plus false true e = e
unlike_plus false false e = refl

-- n / d is a and v / w is 1 / p: their product is a / p
cross : (n v p a d w : ℕ) → n * 1 ≡ a * d → v * p ≡ 1 * w → n * v * p ≡ a * (d * w)
cross n v p a d w h g =
    mul_assoc n v p ∙ ap (λ (x : ℕ). n * x) (g ∙ one-mul w) ∙ ap (λ (x : ℕ). x * w) (sym (mul-one n) ∙ h) ∙ mul_assoc a d w

times : (x y : Float) (s : Bool) (a k : ℕ) → HasValue x s a 1 → HasValue y false 1 (2 ^ k) → a < 2 ^ 53 → k ≤ 1021
    → HasValue (mul binary64 x y) s a (2 ^ k)
unfolding mul
times nan y s a k v w h l = absurd v
times (inf t) y s a k v w h l = absurd v
times (fin t m e) nan s a k v w h l = absurd w
times (fin t m e) (inf u) s a k v w h l = absurd w
times (fin t m e) (fin u n d) s a k v w h l =
    let j = 1074 - k in
    let num = m * up e * (n * up d) in
    let den = down e * down d in
    let whole : 1074 ≡ j + k = omega arith in
    let few : 53 + j ≤ 2098 = omega arith in
    let same : round binary64 (unlike t u) num den ≡ round binary64 s a (2 ^ k) =
    ap (λ (b : Bool). round binary64 b num den) (unlike_plus t u w.0 ∙ v.0)
    ∙ round_same binary64 s num den a (2 ^ k) (mul-pos (down_pos e) (down_pos d)) (pow_pos k)
    (cross (m * up e) (n * up d) (2 ^ k) a (down e) (down d) v.1 w.1) in
    let exact : a * 2 ^ 1074 ≡ a * 2 ^ j * 2 ^ k =
    ap (λ (x : ℕ). a * x) (ap (λ (x : ℕ). 2 ^ x) whole ∙ pow-add 2 j k) ∙ sym (mul_assoc a (2 ^ j) (2 ^ k)) in
    subst (λ (r : Float). HasValue r s a (2 ^ k)) (sym same)
    (round_exact binary64 s a (2 ^ k) a j (pow_pos k) h (lt_of_lt_of_le (shl_lt 53 j h) (pow_mono few)) exact)

-- the cast of a count loses nothing
pub in_float_lem : (z : ℤ) → nat_abs z < 2 ^ 53 → T (in_float binary64 z)
unfolding in_float
in_float_lem (pos n) h = le→leb n (2 ^ 53) (le_of_lt h)
in_float_lem (negsuc n) h = lt→ltb n (2 ^ 53) (omega arith)

cast_value : (z : ℤ) → nat_abs z < 2 ^ 53 → HasValue (of_int binary64 z) (is_negative z) (nat_abs z) 1
unfolding of_int
cast_value (pos n) h = round_whole binary64 false n (le_of_lt h)
cast_value (negsuc n) h = round_whole binary64 true (suc n) (le_of_lt h)

-- a count times a power
module _ (z : ℤ) (k : ℕ) (y : Float) (h : nat_abs z < 2 ^ 53) (l : k ≤ 1021) (p : IsScaled (pos 1) k y) where
  pub product-scaled : IsScaled z k (mul binary64 (of_int binary64 z) y)
  product-scaled =
      let x = mul binary64 (of_int binary64 z) y in
      let v = times (of_int binary64 z) y (is_negative z) (nat_abs z) k (cast_value z h) p.value h l in
      record { bits = value-bits x z k v h l; value = v }

  pub product_is : mul binary64 (of_int binary64 z) y ≡ of_bits binary64 (scaled_bits z k)
  product_is =
      sym (of_bits-to_bits binary64 (mul binary64 (of_int binary64 z) y) (mul-fits binary64 (of_int binary64 z) y))
      ∙ ap (of_bits binary64) product-scaled.bits
