-- The laws of `true_bits`, `recorded` and `mask`: the true bits of lent bytes, of either phase; and of `complement` and `true_bytes`, the
-- bytes that hold them straight. Assumes nothing.
use mathlib.Core.Path.{◌≡◌, refl, sym, ap, ap₂, ◌∙◌}
use mathlib.Core.Bool.{Bool, true, false, not}
use mathlib.Core.List.{List, [], ◌∷◌, ◌++◌, map}
use Prim.Native.Nat.{ℕ, zero, suc, ◌+◌, ◌-◌, ◌*◌, ◌/◌, ◌%◌, ◌^◌, ◌≤◌, ◌<◌}
use native.Mathlib.Nat.{zero-add, zero-mod, mod-eq_of_lt, pow-suc}
use native.Mathlib.Omega.{arith}
use lib.Bits.{bit_xor, bit_and, xor_zero_r, xor_add_and, and_mask}
use lib.ListN.{length, length-map, length-take, length-drop, get_or, take, drop}
use lib.Pow.{low, ones_split, ones_lt}
use lib.Seq.{length-take-le}
use Rattle.bits.specs.declared.Phase.{Phase}
use Rattle.bits.specs.declared.Phase.TheVariants.{Straight, Inverted}
use Rattle.bits.specs.Bits.{number, bits, unpack, true_bits, recorded, complement, true_bytes, mask, cut, bytes_for, Covers, covered_bytes}
use Rattle.bits.proofs.Bytes.{length-unpack, unpack_part}
use Rattle.bits.proofs.Lists.{length-cut, cut-cut, cut-map, map-append}
use Rattle.bits.proofs.Numbers.{number_lt, number-back, number-cut-lt, bits_back}

-- ---- the true bits
pub length_true : (φ : Phase) (s : List ℕ) → length (true_bits φ s) ≡ 8 * length s
length_true Straight s = length-unpack s
length_true Inverted s = length-map (unpack s) not ∙ length-unpack s

-- a part's bits are the whole's bits
pub true_part : (φ : Phase) (a k : ℕ) (s : List ℕ) → true_bits φ (take k (drop a s)) ≡ cut (8 * a) (8 * k) (true_bits φ s)
true_part Straight a k s = unpack_part a k s
true_part Inverted a k s = ap (map not) (unpack_part a k s) ∙ sym (cut-map not (8 * a) (8 * k) (unpack s))

pub cut_part : (φ : Phase) (a k o n q : ℕ) (s : List ℕ) → q ≡ 8 * a + o → o + n ≤ 8 * k
    → cut o n (true_bits φ (take k (drop a s))) ≡ cut q n (true_bits φ s)
cut_part φ a k o n q s e h =
    ap (cut o n) (true_part φ a k s) ∙ cut-cut o n (8 * a) (8 * k) (true_bits φ s) h ∙ ap (λ (m : ℕ). cut m n (true_bits φ s)) (sym e)

-- the bytes that the bits from a place on cover
module _ (s : List ℕ) (p n : ℕ) where
  pub part_covers : p + n ≤ 8 * length s → Covers (covered_bytes p n s) (p % 8) n
  unfolding covered_bytes cut
  part_covers h = record { first = omega arith; last = simp (length-take, length-drop) (omega arith) }

  pub part_bits : (φ : Phase) (o m q : ℕ) → q ≡ p + o → o + m ≤ n
      → cut (p % 8 + o) m (true_bits φ (covered_bytes p n s)) ≡ cut q m (true_bits φ s)
  unfolding covered_bytes cut
  part_bits φ o m q e h = cut_part φ (p / 8) (bytes_for (p % 8 + n)) (p % 8 + o) m q s (omega arith) (omega arith)

  pub covered-bits : (φ : Phase) → cut (p % 8) n (true_bits φ (covered_bytes p n s)) ≡ cut p n (true_bits φ s)
  unfolding covered_bytes cut
  covered-bits φ = cut_part φ (p / 8) (bytes_for (p % 8 + n)) (p % 8) n p s (omega arith) (omega arith)

-- a recording's bits are its bytes' true bits
pub length-recorded : (φ : Phase) (s : List ℕ) (count : ℕ) → count ≤ 8 * length s → length (recorded φ s count) ≡ count
unfolding recorded
length-recorded φ s count h = length-take-le count (true_bits φ s) (omega (arith, length_true φ s))

pub cut-recorded : (φ : Phase) (p n count : ℕ) (s : List ℕ) → p + n ≤ count → cut p n (recorded φ s count) ≡ cut p n (true_bits φ s)
unfolding recorded cut
cut-recorded φ p n count s h = cut-cut p n 0 count (true_bits φ s) h ∙ ap (λ (m : ℕ). cut m n (true_bits φ s)) (zero-add p)

-- ---- the other bits
-- the number that they make
number-not : (p : List Bool) → number (map not p) ≡ 2 ^ length p - 1 - number p
number-not [] = refl
number-not (true ∷ p) = omega (arith, number-not p, number_lt p, pow-suc 2 (length p), length-map p not)
number-not (false ∷ p) =
    omega (arith, number-not p, number_lt p, pow-suc 2 (length p), ap (λ (k : ℕ). 2 ^ k) (length-map p not))

-- `v ^ m` with a one in each of the n places
xor_ones : (n v : ℕ) → v < 2 ^ n → bit_xor v (2 ^ n - 1) ≡ 2 ^ n - 1 - v
xor_ones n v h =
    let e : bit_and v (2 ^ n - 1) ≡ v = and_mask v n ∙ mod-eq_of_lt h in
    omega (arith, xor_add_and v (2 ^ n - 1), e)

-- `v ^ m`: n recorded bits in v, and the mask m
pub masked : (φ : Phase) (s : List ℕ) (p n v m : ℕ) → v ≡ number (cut p n (unpack s)) → m ≡ mask φ n → p + n ≤ 8 * length s
    → bit_xor v m ≡ number (cut p n (true_bits φ s))
masked Straight s p n v m e f h = ap (bit_xor v) f ∙ xor_zero_r v ∙ e
masked Inverted s p n v m e f h =
    let u = unpack s in
    let l : p + n ≤ length u = omega (arith, length-unpack s) in
    ap₂ bit_xor e f
    ∙ xor_ones n (number (cut p n u)) (number-cut-lt p n u l)
    ∙ ap (λ (k : ℕ). 2 ^ k - 1 - number (cut p n u)) (sym (length-cut p n u l))
    ∙ sym (ap number (cut-map not p n u) ∙ number-not (cut p n u))

-- the low bits of a mask
pub mask_low : (φ : Phase) (j n : ℕ) → mask φ (j + n) % 2 ^ n ≡ mask φ n
mask_low Straight j n = zero-mod (2 ^ n)
mask_low Inverted j n = ap (λ (x : ℕ). x % 2 ^ n) (ones_split j n) ∙ low (2 ^ j - 1) n (ones_lt n)

-- ---- the complement
complement_byte : (x : ℕ) → x < 256 → bits 8 (255 - x) ≡ map not (bits 8 x)
complement_byte x h =
    let e : number (map not (bits 8 x)) ≡ 255 - x = number-not (bits 8 x) ∙ ap (λ (y : ℕ). 255 - y) (number-back 8 x h) in
    ap (bits 8) (sym e) ∙ bits_back 8 (map not (bits 8 x)) refl

-- its bits are the other ones
unpack-complement : (s : List ℕ) → ((i : ℕ) → get_or s i 0 < 256) → unpack (complement s) ≡ map not (unpack s)
unpack-complement [] h = refl
unpack-complement (x ∷ s) h =
    ap₂ (λ (p q : List Bool). p ++ q) (complement_byte x (h 0)) (unpack-complement s (λ i. h (suc i)))
    ∙ sym (map-append not (bits 8 x) (unpack s))

-- twice it gives the bytes back
pub complement-back : (s : List ℕ) → ((i : ℕ) → get_or s i 0 < 256) → complement (complement s) ≡ s
complement-back [] h = refl
complement-back (x ∷ s) h =
    let e : 255 - (255 - x) ≡ x = omega (arith, h 0) in
    ap₂ (λ (y : ℕ) (l : List ℕ). y ∷ l) e (complement-back s (λ i. h (suc i)))

-- ---- the bytes that hold the true bits straight
pub length-true_bytes : (φ : Phase) (s : List ℕ) → length (true_bytes φ s) ≡ length s
length-true_bytes Straight s = refl
length-true_bytes Inverted s = length-map s (λ (x : ℕ). 255 - x)

pub true_bytes-lt : (φ : Phase) (s : List ℕ) → ((i : ℕ) → get_or s i 0 < 256) → (i : ℕ) → get_or (true_bytes φ s) i 0 < 256
true_bytes-lt Straight s h i = h i
true_bytes-lt Inverted s h i = complement-lt s i
  where
    complement-lt : (s : List ℕ) (i : ℕ) → get_or (complement s) i 0 < 256
    complement-lt [] i = omega arith
    complement-lt (x ∷ s) zero = omega arith
    complement-lt (x ∷ s) (suc i) = complement-lt s i

unpack-true_bytes : (φ : Phase) (s : List ℕ) → ((i : ℕ) → get_or s i 0 < 256) → unpack (true_bytes φ s) ≡ true_bits φ s
unpack-true_bytes Straight s h = refl
unpack-true_bytes Inverted s h = unpack-complement s h

-- a recording of either phase is one of these bytes, straight
pub recorded_true : (φ : Phase) (s : List ℕ) (count : ℕ) → ((i : ℕ) → get_or s i 0 < 256)
    → recorded φ s count ≡ recorded Straight (true_bytes φ s) count
unfolding recorded
recorded_true φ s count h = ap (take count) (sym (unpack-true_bytes φ s h))

-- the complement, inverted, has the bytes' own bits
pub recorded-back : (s : List ℕ) (count : ℕ) → ((i : ℕ) → get_or s i 0 < 256)
    → recorded Inverted (complement s) count ≡ recorded Straight s count
recorded-back s count h =
    recorded_true Inverted (complement s) count (true_bytes-lt Inverted s h)
    ∙ ap (λ (t : List ℕ). recorded Straight t count) (complement-back s h)
