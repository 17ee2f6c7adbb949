-- Bits that are held until they fill a word. Assumes nothing.
use mathlib.Core.Path.{◌≡◌, sym, ap, ap₂, ◌∙◌}
use mathlib.Core.Bool.{Bool}
use mathlib.Core.List.{List, ◌++◌}
use Prim.Native.Nat.{ℕ, ◌+◌, ◌*◌, ◌%◌, ◌^◌, ◌≤◌, ◌<◌}
use native.Mathlib.Nat.{mod-eq_of_lt}
use native.Mathlib.Omega.{arith}
use lib.Arith.{digits_lt}
use lib.Bits.{bit_or, or_shifted}
use lib.ListN.{length}
use lib.Pow.{shl_exact, pow-add, high, low}
use Rattle.bits.specs.Bits.{bits, put}
use Rattle.bits.proofs.Lists.{put_none, put_join}
use Rattle.bits.proofs.Numbers.{length-bits, bits-append, bits-mod}
use Rattle.fields.specs.Coded.{after_held}
use Rattle.fields.specs.declared.words.FieldBits.{FieldBits}
use Rattle.fields.specs.declared.words.Held.{Held}

-- a number of n bits after one of m
bits_both : (m n a x : ℕ) → x < 2 ^ n → bits (m + n) (a * 2 ^ n + x) ≡ bits m a ++ bits n x
bits_both m n a x h =
    bits-append m n (a * 2 ^ n + x)
    ∙ ap₂ (λ (y : ℕ) (p : List Bool). bits m y ++ p) (high a n h) (bits-mod n (a * 2 ^ n + x) x (low a n h ∙ sym (mod-eq_of_lt h)))

both_lt : (m n a x : ℕ) → a < 2 ^ m → x < 2 ^ n → a * 2 ^ n + x < 2 ^ (m + n)
both_lt m n a x h l = rw (pow-add 2 m n) (digits_lt h l)

module _ (held : Held) (field : FieldBits) (room : held.count + field.width ≤ 64) where
  -- the new bits are behind the others
  word_is : bit_or (held.word * 2 ^ field.width % 2 ^ 64) field.word ≡ held.word * 2 ^ field.width + field.word
  word_is =
      ap (λ (y : ℕ). bit_or y field.word) (shl_exact held.count field.width 64 held.small room)
      ∙ or_shifted held.word field.width field.word field.small

  pub joined_lt : bit_or (held.word * 2 ^ field.width % 2 ^ 64) field.word < 2 ^ (held.count + field.width)
  joined_lt = rw word_is (both_lt held.count field.width held.word field.word held.small field.small)

  pub joined_put : (u : List Bool) → held.at + held.count + field.width ≤ length u
      → put held.at (bits (held.count + field.width) (bit_or (held.word * 2 ^ field.width % 2 ^ 64) field.word)) u
      ≡ put (held.at + held.count) (bits field.width field.word) (after_held held u)
  joined_put u inside =
      ap (λ (y : ℕ). put held.at (bits (held.count + field.width) y) u) word_is
      ∙ ap (λ (p : List Bool). put held.at p u) (bits_both held.count field.width held.word field.word field.small)
      ∙ sym (put_join held.at (held.at + held.count) (bits held.count held.word) (bits field.width field.word) u
      (ap (λ (n : ℕ). held.at + n) (sym (length-bits held.count held.word))) (omega (arith, length-bits field.width field.word)))

-- nothing is held at first
pub held_none : (held : Held) (u : List Bool) → held.count ≡ 0 → after_held held u ≡ u
held_none held u e = ap (λ (n : ℕ). put held.at (bits n held.word) u) e ∙ put_none held.at u
