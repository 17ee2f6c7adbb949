-- The bits of an f64 whose value is a count over a power of two. Assumes nothing.
use mathlib.Core.Path.{◌≡◌, sym, ap, ◌∙◌}
use mathlib.Core.Bool.{Bool, true, false, cond}
use Prim.Native.Nat.{ℕ, zero, suc, ◌+◌, ◌-◌, ◌*◌, ◌/◌, ◌^◌, ◌≤◌, ◌<◌}
use native.Mathlib.Nat.{lt_of_lt_of_le, lt_of_not-le, not-le_of_lt, zero-lt-suc}
use native.Mathlib.Nat.{mul_assoc, mul_right_comm, mul-le-mul_right, mul-div_cancel, zero-mul}
use native.Mathlib.Omega.{arith}
use lib.IntN.{ℤ, pos, negsuc, nat_abs}
use lib.Pow.{pow-add, pow_pos, pow_mono, shl_lt}
use lib.Ieee.{Float, nan, inf, fin, binary64, up, down, size, to_bits}
use lib.Ieee.Digits.{size-lt, size-le, size_reaches}
use lib.Ieee.Fits.{down_pos}
use lib.Ieee.Exact.{HasValue}
use Rattle.bits.specs.Signed.{is_negative}
use Rattle.format.specs.Values.{digit_bits, scaled_bits}

-- j more binary digits
size_above : (n j : ℕ) → 2 ^ j ≤ n → j < size n
size_above n j h = lt_of_not-le (λ (g : size n ≤ j). not-le_of_lt (lt_of_lt_of_le (size-lt n) (pow_mono g)) h)

size_shifted : (a j : ℕ) → 0 < a → size (a * 2 ^ j) ≡ size a + j
size_shifted a j h =
    let z = size a in
    let x = size (a * 2 ^ j) in
    let some : 0 < z = size_above a 0 h in
    let least : 2 ^ (z - 1 + j) ≤ a * 2 ^ j = rw (pow-add 2 (z - 1) j) (mul-le-mul_right (2 ^ j) (size_reaches a (z - 1) (omega arith))) in
    let most : x ≤ z + j = size-le (a * 2 ^ j) (z + j) (shl_lt z j (size-lt a)) in
    let more : z - 1 + j < x = size_above (a * 2 ^ j) (z - 1 + j) least in
    omega arith

-- the bits of a magnitude of n units of 2 ^ -1074
abbrev unit_bits : Bool → ℕ → ℕ
unit_bits s n = cond s (2 ^ 63) 0 + (size n - 53) * 2 ^ 52 + n / 2 ^ (size n - 53)

-- m * u / d is a / 2 ^ k, in these units
units_of : (m u d a k : ℕ) → 0 < d → m * u * 2 ^ k ≡ a * d → k ≤ 1074 → m * u * 2 ^ 1074 / d ≡ a * 2 ^ (1074 - k)
units_of m u d a k some h l =
    let j = 1074 - k in
    let whole : 1074 ≡ k + j = omega arith in
    let e : m * u * 2 ^ 1074 ≡ a * 2 ^ j * d =
    ap (λ (x : ℕ). m * u * x) (ap (λ (x : ℕ). 2 ^ x) whole ∙ pow-add 2 k j)
    ∙ sym (mul_assoc (m * u) (2 ^ k) (2 ^ j))
    ∙ ap (λ (x : ℕ). x * 2 ^ j) h
    ∙ mul_right_comm a d (2 ^ j) in
    ap (λ (x : ℕ). x / d) e ∙ mul-div_cancel (a * 2 ^ j) some

value_units : (x : Float) (s : Bool) (a k : ℕ) → HasValue x s a (2 ^ k) → k ≤ 1074 → to_bits binary64 x ≡ unit_bits s (a * 2 ^ (1074 - k))
unfolding to_bits
value_units nan s a k v l = absurd v
value_units (inf t) s a k v l = absurd v
value_units (fin t m e) s a k v l =
    ap (λ (b : Bool). unit_bits b (m * up e * 2 ^ 1074 / down e)) v.0
    ∙ ap (unit_bits s) (units_of m (up e) (down e) a k (down_pos e) v.1 l)

units_digits : (s : Bool) (a k : ℕ) → 0 < a → a < 2 ^ 53 → k ≤ 1021 → unit_bits s (a * 2 ^ (1074 - k)) ≡ digit_bits s a k
unfolding digit_bits
units_digits s a k some h l =
    let j = 1074 - k in
    let z = size a in
    let few : z ≤ 53 = size-le a 53 h in
    let n = z + j - 53 in
    let e : size (a * 2 ^ j) ≡ z + j = size_shifted a j some in
    let f : n ≡ z + 1021 - k = omega arith in
    let g : j ≡ (53 - z) + n = omega arith in
    let split : a * 2 ^ j ≡ a * 2 ^ (53 - z) * 2 ^ n =
    ap (λ (x : ℕ). a * 2 ^ x) g ∙ ap (λ (x : ℕ). a * x) (pow-add 2 (53 - z) n) ∙ sym (mul_assoc a (2 ^ (53 - z)) (2 ^ n)) in
    ap (λ (x : ℕ). cond s (2 ^ 63) 0 + (x - 53) * 2 ^ 52 + a * 2 ^ j / 2 ^ (x - 53)) e
    ∙ ap (λ (x : ℕ). cond s (2 ^ 63) 0 + n * 2 ^ 52 + x) (ap (λ (x : ℕ). x / 2 ^ n) split ∙ mul-div_cancel (a * 2 ^ (53 - z)) (pow_pos n))
    ∙ ap (λ (x : ℕ). cond s (2 ^ 63) 0 + x * 2 ^ 52 + a * 2 ^ (53 - z)) f

zero_units : (n : ℕ) → n ≡ 0 → unit_bits false n ≡ 0
unfolding size
zero_units n e = ap (unit_bits false) e

pub value-bits : (x : Float) (z : ℤ) (k : ℕ) → HasValue x (is_negative z) (nat_abs z) (2 ^ k) → nat_abs z < 2 ^ 53 → k ≤ 1021
    → to_bits binary64 x ≡ scaled_bits z k
unfolding scaled_bits
value-bits x (pos zero) k v h l = value_units x false 0 k v (omega arith) ∙ zero_units (0 * 2 ^ (1074 - k)) (zero-mul (2 ^ (1074 - k)))
value-bits x (pos (suc n)) k v h l = value_units x false (suc n) k v (omega arith) ∙ units_digits false (suc n) k (zero-lt-suc n) h l
value-bits x (negsuc n) k v h l = value_units x true (suc n) k v (omega arith) ∙ units_digits true (suc n) k (zero-lt-suc n) h l
