-- The bits of a word of 64 bits, place by place: after `&`, `!` and `<<`, and the first that is one. Assumes nothing.
use mathlib.Core.Path.{◌≡◌, refl, sym, ap, ◌∙◌, subst}
use mathlib.Core.Bool.{true, false, ◌&&◌, not}
use Prim.Native.Nat.{ℕ, zero, suc, ◌+◌, ◌-◌, ◌*◌, ◌/◌, ◌%◌, ◌^◌, ◌≤◌, ◌<◌, min}
use native.Mathlib.Nat.{mod-lt, div-eq_of_lt, zero-div, add-mul, mul_assoc, pow-suc}
use native.Mathlib.Decide.{dec_lt}
use native.Mathlib.Omega.{arith}
use lib.Bits.{bit_and, and_step, and_shr, shifted_even}
use lib.Count.{count_leading_zeros, leading_top}
use lib.ListN.{get_or, get_or-eq_default}
use lib.Pow.{pow_pos, pow-add, pow_mono, shr_lt, shr-shr, shl-shr, field, mod-mod-pow, ones_split, high, split}
use Rattle.bits.specs.Bits.{bits, odd, is_one, bit_at}
use Rattle.bits.proofs.Numbers.{length-bits}

-- ---- one bit of a number
-- `a & b`
odd-and : (a b : ℕ) → odd (bit_and a b) ≡ odd a && odd b
odd-and a b = ap is_one low ∙ both (a % 2) (b % 2) (omega arith) (omega arith)
  where
    low : bit_and a b % 2 ≡ min (a % 2) (b % 2)
    low = omega (arith, and_step a b)

    both : (x y : ℕ) → x < 2 → y < 2 → is_one (min x y) ≡ is_one x && is_one y
    both zero y hx hy = let e : min 0 y ≡ 0 = omega arith in ap is_one e
    both (suc zero) zero hx hy = refl
    both (suc zero) (suc zero) hx hy = refl
    both (suc zero) (suc (suc y)) hx hy = absurd (omega arith)
    both (suc (suc x)) y hx hy = absurd (omega arith)

bit-and : (a b k : ℕ) → odd (bit_and a b / 2 ^ k) ≡ odd (a / 2 ^ k) && odd (b / 2 ^ k)
bit-and a b k = ap odd (and_shr a b k) ∙ odd-and (a / 2 ^ k) (b / 2 ^ k)

-- a word keeps the low 64 bits
odd_word : (y k : ℕ) → k < 64 → odd (y % 2 ^ 64 / 2 ^ k) ≡ odd (y / 2 ^ k)
odd_word y k l =
    let e : 64 ≡ 64 - k + k = omega arith in
    let f : 64 - k ≡ 63 - k + 1 = omega arith in
    ap (λ (n : ℕ). odd (y % 2 ^ n / 2 ^ k)) e
    ∙ ap odd (field y (64 - k) k)
    ∙ ap (λ (n : ℕ). odd (y / 2 ^ k % 2 ^ n)) f
    ∙ ap is_one (mod-mod-pow (y / 2 ^ k) (63 - k) 1)

-- `x << i`
bit_shl : (x i k : ℕ) → i ≤ k → k < 64 → odd (x * 2 ^ i % 2 ^ 64 / 2 ^ k) ≡ odd (x / 2 ^ (k - i))
bit_shl x i k h l =
    let g : k ≡ i + (k - i) = omega arith in
    odd_word (x * 2 ^ i) k l
    ∙ ap (λ (n : ℕ). odd (x * 2 ^ i / 2 ^ n)) g
    ∙ ap odd (sym (shr-shr (x * 2 ^ i) i (k - i)) ∙ ap (λ (n : ℕ). n / 2 ^ (k - i)) (shl-shr x i))

below_shl : (x i k : ℕ) → k < i → k < 64 → odd (x * 2 ^ i % 2 ^ 64 / 2 ^ k) ≡ false
below_shl x i k h l =
    let m = i - k - 1 in
    let g : i ≡ suc m + k = omega arith in
    odd_word (x * 2 ^ i) k l
    ∙ ap (λ (n : ℕ). odd (x * 2 ^ n / 2 ^ k)) g
    ∙ ap (λ (n : ℕ). odd (n / 2 ^ k)) (ap (λ (n : ℕ). x * n) (pow-add 2 (suc m) k) ∙ sym (mul_assoc x (2 ^ suc m) (2 ^ k)))
    ∙ ap odd (shl-shr (x * 2 ^ suc m) k)
    ∙ ap is_one (shifted_even x m)

-- `!x`
odd_ones : (q m : ℕ) → q < 2 ^ (m + 1) → odd (2 ^ (m + 1) - 1 - q) ≡ not (odd q)
odd_ones q m h = at (q % 2) (omega arith) refl
  where
    double : 2 ^ (m + 1) ≡ 2 * 2 ^ m
    double = pow-add 2 m 1 ∙ omega arith

    at : (r : ℕ) → r < 2 → q % 2 ≡ r → odd (2 ^ (m + 1) - 1 - q) ≡ not (odd q)
    at zero l e = let f : (2 ^ (m + 1) - 1 - q) % 2 ≡ 1 = omega (arith, double) in ap is_one f ∙ sym (ap (λ (r : ℕ). not (is_one r)) e)
    at (suc zero) l e = let f : (2 ^ (m + 1) - 1 - q) % 2 ≡ 0 = omega (arith, double) in
        ap is_one f ∙ sym (ap (λ (r : ℕ). not (is_one r)) e)
    at (suc (suc r)) l e = absurd (omega arith)

shr_ones : (x j k : ℕ) → x < 2 ^ (j + k) → (2 ^ (j + k) - 1 - x) / 2 ^ k ≡ 2 ^ j - 1 - x / 2 ^ k
shr_ones x j k h =
    let q = x / 2 ^ k in
    let r = x % 2 ^ k in
    let rest = 2 ^ j - 1 - q in
    let lq : q < 2 ^ j = shr_lt j k h in
    let lr : r < 2 ^ k = mod-lt x (pow_pos k) in
    let whole : 2 ^ (j + k) - 1 ≡ (2 ^ j - 1) * 2 ^ k + (2 ^ k - 1) = ones_split j k in
    let parts : (2 ^ j - 1) * 2 ^ k ≡ rest * 2 ^ k + q * 2 ^ k =
    let e : 2 ^ j - 1 ≡ rest + q = omega arith in ap (λ (n : ℕ). n * 2 ^ k) e ∙ add-mul rest q (2 ^ k) in
    let e : 2 ^ (j + k) - 1 - x ≡ rest * 2 ^ k + (2 ^ k - 1 - r) = omega (arith, split x k) in
    ap (λ (n : ℕ). n / 2 ^ k) e ∙ high rest k (omega arith)

bit_not : (x k : ℕ) → x < 2 ^ 64 → k < 64 → odd ((2 ^ 64 - 1 - x) / 2 ^ k) ≡ not (odd (x / 2 ^ k))
bit_not x k h l =
    let j = 63 - k in
    let e : 64 ≡ j + 1 + k = omega arith in
    let g : x < 2 ^ (j + 1 + k) = subst (λ (n : ℕ). x < 2 ^ n) e h in
    ap (λ (n : ℕ). odd ((2 ^ n - 1 - x) / 2 ^ k)) e ∙ ap odd (shr_ones x (j + 1) k g) ∙ odd_ones (x / 2 ^ k) j (shr_lt (j + 1) k g)

-- the bits of a number, one by one
get_or-bits : (n x i : ℕ) → i < n → get_or (bits n x) i false ≡ odd (x / 2 ^ (n - 1 - i))
get_or-bits zero x i h = absurd (omega arith)
get_or-bits (suc n) x zero h = let e : n ≡ suc n - 1 - 0 = omega arith in ap (λ (k : ℕ). odd (x / 2 ^ k)) e
get_or-bits (suc n) x (suc i) h =
    let e : n - 1 - i ≡ suc n - 1 - suc i = omega arith in get_or-bits n x i (omega arith) ∙ ap (λ (k : ℕ). odd (x / 2 ^ k)) e

-- ---- the bits of a word by their places
bits-and : (n a b j : ℕ) → get_or (bits n (bit_and a b)) j false ≡ get_or (bits n a) j false && get_or (bits n b) j false
bits-and zero a b j = refl
bits-and (suc n) a b zero = bit-and a b n
bits-and (suc n) a b (suc j) = bits-and n a b j

-- `a & b`
pub at-and : (a b j : ℕ) → bit_at (bit_and a b) j ≡ bit_at a j && bit_at b j
unfolding bit_at
at-and = bits-and 64

-- the bit j of a word, counted from its high end
at_is : (x j : ℕ) → j < 64 → bit_at x j ≡ odd (x / 2 ^ (63 - j))
unfolding bit_at
at_is = get_or-bits 64

-- past the end of a word there is no one
pub at-end : (x j : ℕ) → 64 ≤ j → bit_at x j ≡ false
unfolding bit_at
at-end x j h = get_or-eq_default (bits 64 x) false {n = j} (omega (arith, length-bits 64 x))

-- `!x`
pub at-not : (x j : ℕ) → x < 2 ^ 64 → j < 64 → bit_at (2 ^ 64 - 1 - x) j ≡ not (bit_at x j)
at-not x j h l = at_is (2 ^ 64 - 1 - x) j l ∙ bit_not x (63 - j) h (omega arith) ∙ ap not (sym (at_is x j l))

-- `x << i`
pub at_shl : (x i j : ℕ) → bit_at (x * 2 ^ i % 2 ^ 64) j ≡ bit_at x (j + i)
at_shl x i j =
    elim (dec_lt (j + i) 64) [
      | yes l ↦
          let e : 63 - j - i ≡ 63 - (j + i) = omega arith in
          at_is (x * 2 ^ i % 2 ^ 64) j (omega arith) ∙ bit_shl x i (63 - j) (omega arith) (omega arith)
          ∙ ap (λ (k : ℕ). odd (x / 2 ^ k)) e ∙ sym (at_is x (j + i) l)
      | no l ↦
          elim (dec_lt j 64) [
            | yes m ↦ at_is (x * 2 ^ i % 2 ^ 64) j m ∙ below_shl x i (63 - j) (omega arith) (omega arith)
                ∙ sym (at-end x (j + i) (omega arith))
            | no m ↦ at-end (x * 2 ^ i % 2 ^ 64) j (omega arith) ∙ sym (at-end x (j + i) (omega arith))
          ]
    ]

-- the first one of a word
module _ (g : ℕ) (p : 0 < g) (h : g < 2 ^ 64) where
  abbrev top : (j : ℕ) × (count_leading_zeros 64 g + suc j ≡ 64) × (2 ^ j ≤ g) × (g < 2 ^ suc j)
  top = leading_top 64 g p h

  pub first_one : bit_at g (count_leading_zeros 64 g) ≡ true
  first_one =
      let j = top.0 in
      let e : 63 - count_leading_zeros 64 g ≡ j = omega (arith, top.1) in
      let f : g ≡ 1 * 2 ^ j + (g - 2 ^ j) = omega (arith, top.2) in
      at_is g (count_leading_zeros 64 g) (omega (arith, top.1)) ∙ ap (λ (k : ℕ). odd (g / 2 ^ k)) e
      ∙ ap (λ (x : ℕ). odd (x / 2 ^ j)) f ∙ ap odd (high 1 j (omega (arith, top.2, top.3, pow-suc 2 j)))

  pub before-first : (i : ℕ) → i < count_leading_zeros 64 g → bit_at g i ≡ false
  before-first i l =
      let k = 63 - i in
      let s : g < 2 ^ k = omega (arith, top.3, pow_mono {i = suc top.0} {j = k} (omega (arith, top.1))) in
      at_is g i (omega (arith, top.1)) ∙ ap odd (div-eq_of_lt s)

-- a word that is 0 has no one
pub no_ones : (g i : ℕ) → g ≡ 0 → i < 64 → bit_at g i ≡ false
no_ones g i e l = ap (λ (x : ℕ). bit_at x i) e ∙ at_is 0 i l ∙ ap odd (zero-div (2 ^ (63 - i)))
