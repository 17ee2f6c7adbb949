-- The string of a record from the pieces that the code puts. Assumes nothing.
use Rattle.std.specs.Prelude.{Ok}
use mathlib.Core.Path.{◌≡◌, refl, sym, ap, ap₂, ◌∙◌, subst}
use mathlib.Core.Bool.{Bool}
use mathlib.Core.List.{List, ◌++◌, append_assoc}
use Prim.Native.Nat.{ℕ, ◌+◌, ◌-◌, ◌*◌, ◌^◌, ◌≤◌, ◌<◌}
use native.Mathlib.Omega.{arith}
use lib.ListN.{length, length-append}
use Rattle.bits.specs.Bits.{number, bits, unpack, cut, put}
use Rattle.bits.proofs.Lists.{put_join, cut-put}
use Rattle.bits.proofs.Numbers.{number_lt, number_append, number-back, bits_back}
use Rattle.cyclic.specs.Register.{check}
use Rattle.format.specs.declared.Record.{Record}
use Rattle.format.specs.Fields.{total, codes}
use Rattle.format.specs.Records.{mark_bits, field_tests, record_tests}
use Rattle.format.specs.Strings.{mark, length_of, generator_of, check_bits}
use Rattle.format.specs.Types.{mark_width, places_of, raw_count}
use Rattle.format.specs.Writing.{service_bits, content_bits, checked, string}
use Rattle.format.proofs.Information.{string-filled}
use Rattle.format.proofs.Order.{then_pass}
use Rattle.format.proofs.Writing.{ranged, length-service, length-check_of, Typed, length_fields, length_raw}

-- ---- the service bits
-- a number in front of bits that make a number
in_front : (w x n k : ℕ) (q : List Bool) → x < 2 ^ w → length q ≡ n → number q ≡ k → number (bits w x ++ q) ≡ x * 2 ^ n + k
in_front w x n k q h l e = number_append (bits w x) q ∙ rw (number-back w x h, l, e) refl

pub service-number : (r : Record) → field_tests r ≡ Ok tt
    → ((((((((r.kind * 64 + r.satellite) * 2 + r.signal) * 2 + r.validity) * 16 + r.call) * 2 + r.attitude) * 4 + r.correction) * 2
    + r.next) * 65536 + r.time) ≡ number (service_bits r)
unfolding service_bits
service-number r e =
    let g = ranged r e in
    let q₈ = bits 1 r.next ++ bits 16 r.time in
    let q₇ = bits 2 r.correction ++ q₈ in
    let q₆ = bits 1 r.attitude ++ q₇ in
    let q₅ = bits 4 r.call ++ q₆ in
    let q₄ = bits 1 r.validity ++ q₅ in
    let q₃ = bits 1 r.signal ++ q₄ in
    let q₂ = bits 6 r.satellite ++ q₃ in
    let n₉ = number-back 16 r.time g.time in
    let n₈ = in_front 1 r.next 16 _ (bits 16 r.time) g.next refl n₉ in
    let n₇ = in_front 2 r.correction 17 _ q₈ g.correction refl n₈ in
    let n₆ = in_front 1 r.attitude 19 _ q₇ g.attitude refl n₇ in
    let n₅ = in_front 4 r.call 20 _ q₆ g.call refl n₆ in
    let n₄ = in_front 1 r.validity 24 _ q₅ g.validity refl n₅ in
    let n₃ = in_front 1 r.signal 25 _ q₄ g.signal refl n₄ in
    let n₂ = in_front 6 r.satellite 26 _ q₃ g.satellite refl n₃ in
    let n₁ = in_front 6 r.kind 32 _ q₂ g.kind refl n₂ in
    omega arith ∙ sym n₁

-- ---- check bits
pub check-lt : (t c degree : ℕ) (p : List Bool) → c ≡ number (check (generator_of t) p) → degree ≡ check_bits t → c < 2 ^ degree
check-lt t c degree p e d =
    let k = check (generator_of t) p in
    rw (e, d) (subst (λ (n : ℕ). number k < 2 ^ n) (length-check_of t p) (number_lt k))

-- ---- what passed tests say
pub service-lt : (r : Record) (x : ℕ) → x ≡ number (service_bits r) → x < 2 ^ 38
service-lt r x e = rw e (subst (λ (n : ℕ). number (service_bits r) < 2 ^ n) (length-service r) (number_lt (service_bits r)))

pub fields_pass : (r : Record) → record_tests r ≡ Ok tt → field_tests r ≡ Ok tt
unfolding record_tests
fields_pass r e = (then_pass (field_tests r) _ e).0

-- ---- the string put piece by piece
module _ (r : Record) (holds : Typed r) where
  abbrev fields : List Bool
  fields = codes (places_of r.kind) r.numbers (mark_bits mark_width r.minus)

  module _ (o long degree n x : ℕ) (u₀ u₁ u₂ u₃ : List Bool) (room : o + length_of r.kind ≤ length u₀) (el : long ≡ length_of r.kind)
      (ed : degree ≡ check_bits r.kind) (en : n ≡ raw_count r.kind) (ex : x ≡ number (service_bits r))
      (e₁ : u₁ ≡ put o (bits 50 (0x5F1 * 2 ^ 38 + x)) u₀) (e₂ : u₂ ≡ put (o + 50) fields u₁)
      (e₃ : u₃ ≡ put (o + (long - degree) - n) (cut 0 n (unpack r.raw)) u₂) where
    abbrev head : List Bool
    head = mark ++ service_bits r

    length_head : length head ≡ 50
    length_head = length-append mark (service_bits r) ∙ ap (λ (k : ℕ). 12 + k) (length-service r)

    head_bits : bits 50 (0x5F1 * 2 ^ 38 + x) ≡ head
    head_bits =
        let a : number head ≡ 0x5F1 * 2 ^ 38 + number (service_bits r) =
        number_append mark (service_bits r) ∙ ap (λ (k : ℕ). 0x5F1 * 2 ^ k + number (service_bits r)) (length-service r) in
        ap (λ (k : ℕ). bits 50 (0x5F1 * 2 ^ 38 + k)) ex ∙ ap (bits 50) (sym a)
        ∙ bits_back 50 head length_head

    sizes : 50 + total (places_of r.kind) + raw_count r.kind + check_bits r.kind ≡ length_of r.kind
    sizes = string-filled r.kind

    with_fields : u₂ ≡ put o (head ++ fields) u₀
    with_fields =
        e₂ ∙ ap (put (o + 50) fields) (e₁ ∙ ap (λ (v : List Bool). put o v u₀) head_bits)
        ∙ put_join o (o + 50) head fields u₀ (omega (arith, length_head)) (omega (arith, sizes, length_fields r holds))

    with_raw : u₃ ≡ put o (checked r) u₀
    unfolding checked content_bits cut
    with_raw =
        let w = cut 0 (raw_count r.kind) (unpack r.raw) in
        let q = o + (long - degree) - n in
        let lh = length-append head fields in
        e₃ ∙ ap (λ (k : ℕ). put q (cut 0 k (unpack r.raw)) u₂) en ∙ ap (put q w) with_fields
        ∙ put_join o q (head ++ fields) w u₀ (omega (arith, sizes, length_head, length_fields r holds))
        (omega (arith, sizes, length_raw r holds))
        ∙ ap (λ (v : List Bool). put o v u₀) (append_assoc head fields w ∙ append_assoc mark (service_bits r) (fields ++ w))

    length-checked : length (checked r) ≡ long - degree
    unfolding checked content_bits cut
    length-checked =
        let w = cut 0 (raw_count r.kind) (unpack r.raw) in
        omega (
          arith,
          sizes,
          length-append mark (service_bits r ++ (fields ++ w)),
          length-append (service_bits r) (fields ++ w),
          length-append fields w,
          length-service r,
          length_fields r holds,
          length_raw r holds,
        )

    -- the bits put so far
    so_far : cut o (long - degree) u₃ ≡ checked r
    so_far =
        ap (cut o (long - degree)) with_raw ∙ ap (λ (k : ℕ). cut o k (put o (checked r) u₀)) (sym length-checked)
        ∙ cut-put o (checked r) u₀ (omega arith)

    pub string-put : (c : ℕ) (u₄ : List Bool) → c ≡ number (check (generator_of r.kind) (cut o (long - degree) u₃))
        → u₄ ≡ put (o + (long - degree)) (bits degree c) u₃ → u₄ ≡ put o (string r) u₀
    unfolding string
    string-put c u₄ ec e₄ =
        let k = check (generator_of r.kind) (checked r) in
        let lk = length-check_of r.kind (checked r) in
        let b : bits degree c ≡ k =
        ap (bits degree) (ec ∙ ap (λ (p : List Bool). number (check (generator_of r.kind) p)) so_far)
        ∙ bits_back degree k (lk ∙ sym ed) in
        e₄ ∙ ap₂ (put (o + (long - degree))) b with_raw
        ∙ put_join o (o + (long - degree)) (checked r) k u₀ (omega (arith, length-checked)) (omega (arith, sizes, lk))
