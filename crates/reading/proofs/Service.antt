-- The record of a string from the numbers that the code fetches. Assumes nothing.
use mathlib.Core.Path.{◌≡◌, refl, sym, ap, ap₂, ◌∙◌}
use mathlib.Core.Bool.{Bool}
use mathlib.Core.List.{List}
use Prim.Native.Nat.{ℕ, ◌+◌, ◌-◌, ◌/◌, ◌%◌, ◌^◌, ◌≤◌}
use native.Mathlib.Omega.{arith}
use lib.IntN.{ℤ, pos}
use lib.ListN.{length, take, drop, replicate}
use lib.Seq.{take-take}
use Rattle.bits.specs.Bits.{number, cut, put, pack, filled}
use Rattle.bits.proofs.Lists.{cut_none, put_none}
use Rattle.bits.proofs.Numbers.{number_piece}
use Rattle.format.specs.declared.Record.{Record}
use Rattle.format.specs.Fields.{values, minus_zeros}
use Rattle.format.specs.Reading.{information_bits, record_at}
use Rattle.format.specs.Records.{raw_bytes, mark_of, blank}
use Rattle.format.specs.Strings.{string_bits, type_at, length_of, check_bits}
use Rattle.format.specs.Types.{places, places_of, raw_count}
use Rattle.format.proofs.Agree.{length_unit}
use Rattle.format.proofs.Information.{string-filled, values-take, minus_zeros-take}

-- what a blank record holds
pub blank_parts : {r : Record} → r ≡ blank → (r.numbers ≡ replicate places (pos 0)) × (r.minus ≡ 0) × (r.raw ≡ replicate raw_bytes 0)
unfolding blank
blank_parts e = (ap (λ (r : Record). r.numbers) e, ap (λ (r : Record). r.minus) e, ap (λ (r : Record). r.raw) e)

-- no raw bits make no bytes
pub no_raw : (u : List Bool) (from : ℕ) {n : ℕ} {raw : List ℕ} → n ≡ 0 → raw ≡ replicate raw_bytes 0
    → raw ≡ put 0 (pack (cut from n u)) (replicate raw_bytes 0)
unfolding pack filled
no_raw u from none blank =
    blank
    ∙ rw none
    (sym (ap (λ (p : List Bool). put 0 (pack p) (replicate raw_bytes 0)) (cut_none from u) ∙ put_none 0 (replicate raw_bytes 0)))

module _ (u : List Bool) (o : ℕ) (h : o + length_of (type_at u o) ≤ length u) where
  pub service-room : o + 50 ≤ length u
  service-room = omega (arith, length_unit (type_at u o))

  -- the information bits are those from bit 51 on
  front : information_bits u o ≡ take (length_of (type_at u o) - check_bits (type_at u o) - 50) (drop (o + 50) u)
  unfolding information_bits string_bits cut
  front =
      let l = length_of (type_at u o) - check_bits (type_at u o) in
      let a : o + 51 - 1 ≡ o + 50 = omega arith in
      let b : l + 1 - 51 ≡ l - 50 = omega arith in
      ap₂ (λ (i j : ℕ). take j (drop i u)) a b

  the_values : values (places_of (type_at u o)) (drop (o + 50) u) ≡ values (places_of (type_at u o)) (information_bits u o)
  the_values =
      let t = type_at u o in
      sym (ap (values (places_of t)) front
      ∙ values-take (places_of t) (length_of t - check_bits t - 50) (drop (o + 50) u) (omega (arith, string-filled t)))

  the_marks : minus_zeros (places_of (type_at u o)) (drop (o + 50) u) ≡ minus_zeros (places_of (type_at u o)) (information_bits u o)
  the_marks =
      let t = type_at u o in
      sym (ap (minus_zeros (places_of t)) front
      ∙ minus_zeros-take (places_of t) (length_of t - check_bits t - 50) (drop (o + 50) u) (omega (arith, string-filled t)))

  the_raw : cut (o + 50) (raw_count (type_at u o)) u ≡ take (raw_count (type_at u o)) (information_bits u o)
  unfolding cut
  the_raw =
      let t = type_at u o in
      sym (ap (take (raw_count t)) front
      ∙ take-take (raw_count t) (length_of t - check_bits t - 50) (drop (o + 50) u) (omega (arith, string-filled t)))

  module _ (v : ℕ) (e : v ≡ number (cut (o + 18) 32 u)) where
    -- n bits from bit `first` on, with k after them
    at : (first n k : ℕ) → first + n + k ≡ 51 → 19 ≤ first → v / 2 ^ k % 2 ^ n ≡ number (cut (o + first - 1) n u)
    at first n k f g =
        number_piece u (o + 18) 32 v (first - 19) n k (o + first - 1) e (omega (arith, service-room)) (omega arith) (omega arith)

    pub decoded_is : (kind : ℕ) (numbers : List ℤ) (minus : ℕ) (raw : List ℕ) → kind ≡ type_at u o
        → numbers ≡ values (places_of kind) (drop (o + 50) u) → minus ≡ mark_of (minus_zeros (places_of kind) (drop (o + 50) u))
        → raw ≡ put 0 (pack (cut (o + 50) (raw_count kind) u)) (replicate raw_bytes 0)
        → ◌≡◌ {A = Record} (record {
          kind = kind;
          satellite = v / 2 ^ 26 % 64;
          signal = v / 2 ^ 25 % 2;
          validity = v / 2 ^ 24 % 2;
          call = v / 2 ^ 20 % 16;
          attitude = v / 2 ^ 19 % 2;
          correction = v / 2 ^ 17 % 4;
          next = v / 2 ^ 16 % 2;
          time = v % 65536;
          numbers = numbers;
          minus = minus;
          raw = raw;
        }) (record_at u o)
    unfolding record_at string_bits
    decoded_is kind numbers minus raw k en em er =
        let a2 = at 19 6 26 refl (omega arith) in
        let a3 = at 25 1 25 refl (omega arith) in
        let a4 = at 26 1 24 refl (omega arith) in
        let a5 = at 27 4 20 refl (omega arith) in
        let a6 = at 31 1 19 refl (omega arith) in
        let a7 = at 32 2 17 refl (omega arith) in
        let a8 = at 34 1 16 refl (omega arith) in
        let whole : v ≡ v / 1 = omega arith in
        let a9 : v % 65536 ≡ number (cut (o + 35 - 1) 16 u) = ap (λ (x : ℕ). x % 65536) whole ∙ at 35 16 0 refl (omega arith) in
        let n : numbers ≡ values (places_of (type_at u o)) (information_bits u o) =
        en ∙ ap (λ (t : ℕ). values (places_of t) (drop (o + 50) u)) k ∙ the_values in
        let m : minus ≡ mark_of (minus_zeros (places_of (type_at u o)) (information_bits u o)) =
        em ∙ ap (λ (t : ℕ). mark_of (minus_zeros (places_of t) (drop (o + 50) u))) k ∙ ap mark_of the_marks in
        let w : raw ≡ put 0 (pack (take (raw_count (type_at u o)) (information_bits u o))) (replicate raw_bytes 0) =
        er ∙ ap (λ (t : ℕ). put 0 (pack (cut (o + 50) (raw_count t) u)) (replicate raw_bytes 0)) k
        ∙ ap (λ (x : List Bool). put 0 (pack x) (replicate raw_bytes 0)) the_raw in
        rw (k, a2, a3, a4, a5, a6, a7, a8, a9, n, m, w) refl
