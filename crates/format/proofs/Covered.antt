-- What a string says depends on its bits alone, and so on the bytes that it covers. Assumes nothing.
use Rattle.std.specs.Prelude.{Ok, Err}
use Rattle.format.specs.Tests.{Answer, giving}
use mathlib.Core.Path.{◌≡◌, refl, sym, ap, ap₂, ◌∙◌}
use mathlib.Core.Bool.{Bool, true, false, cond, not}
use mathlib.Core.List.{List}
use Prim.Native.Nat.{ℕ, ◌+◌, ◌-◌, ◌*◌, ◌/◌, ◌%◌, ◌≤◌}
use native.Mathlib.Omega.{arith}
use lib.ListN.{length, drop}
use borrow.Author.Tests.{ltb-false}
use Rattle.bits.specs.declared.Phase.{Phase}
use Rattle.bits.specs.Bits.{number, true_bits, recorded, cut, bytes_for, covered_bytes}
use Rattle.bits.specs.Signed.{all_zero}
use Rattle.bits.proofs.Phases.{length-recorded, cut-recorded, cut_part, part_bits}
use Rattle.cyclic.specs.Register.{remainder}
use Rattle.format.specs.declared.Record.{Record}
use Rattle.format.specs.declared.Refusal.{Refusal}
use Rattle.format.specs.declared.Refusal.TheVariants.{NoMark, RunsOut, CheckFails}
use Rattle.format.specs.Reading.{information_bits, record_at, reading, SameThere}
use Rattle.format.specs.Records.{field_tests}
use Rattle.format.specs.Standing.{begins, check_passes, string_tests, standing}
use Rattle.format.specs.Strings.{mark, string_bits, type_at, length_of, generator_of, check_bits}
use Rattle.format.specs.Tests.{is_passed, when, ◌then◌, above, place_tests}
use Rattle.format.proofs.Agree.{string_bits_lem, type_at_lem, length_unit, begins-mark, same_truth, pass_stands}
use Rattle.format.proofs.Information.{string-filled}
use Rattle.format.proofs.Order.{then_assoc, then_pass}
use Rattle.format.proofs.Tests.{place-passes}

-- ---- two places from which so many bits are the same
module _ (u v : List Bool) (p o : ℕ) (same : (a n : ℕ) → a + n ≤ length_of (type_at u p) → cut (o + a) n v ≡ cut (p + a) n u) where
  least : 125 ≤ length_of (type_at u p)
  least = omega (arith, length_unit (type_at u p))

  pub same-type : type_at v o ≡ type_at u p
  same-type = type_at_lem v o ∙ ap number (same 12 6 (omega (arith, least))) ∙ sym (type_at_lem u p)

  same_bits : (first last : ℕ) → 1 ≤ first → last ≤ length_of (type_at u p) → first ≤ last + 1
      → string_bits v o first last ≡ string_bits u p first last
  unfolding string_bits
  same_bits first last h k m =
      let a : o + first - 1 ≡ o + (first - 1) = omega arith in
      let b : p + (first - 1) ≡ p + first - 1 = omega arith in
      ap (λ (i : ℕ). cut i (last + 1 - first) v) a ∙ same (first - 1) (last + 1 - first) (omega arith)
      ∙ ap (λ (i : ℕ). cut i (last + 1 - first) u) b

  pub service-same : (first last : ℕ) → 1 ≤ first → last ≤ 125 → first ≤ last + 1
      → number (string_bits v o first last) ≡ number (string_bits u p first last)
  service-same first last h k m = ap number (same_bits first last h (omega (arith, least)) m)

  same_information : information_bits v o ≡ information_bits u p
  unfolding information_bits
  same_information =
      let t = type_at u p in
      ap (λ (t : ℕ). string_bits v o 51 (length_of t - check_bits t)) same-type
      ∙ same_bits 51 (length_of t - check_bits t) (omega arith) (omega arith) (omega (arith, string-filled t))

  pub same_record : record_at v o ≡ record_at u p
  unfolding record_at
  same_record =
      let s19 = service-same 19 24 (omega arith) (omega arith) (omega arith) in
      let s25 = service-same 25 25 (omega arith) (omega arith) (omega arith) in
      let s26 = service-same 26 26 (omega arith) (omega arith) (omega arith) in
      let s27 = service-same 27 30 (omega arith) (omega arith) (omega arith) in
      let s31 = service-same 31 31 (omega arith) (omega arith) (omega arith) in
      let s32 = service-same 32 33 (omega arith) (omega arith) (omega arith) in
      let s34 = service-same 34 34 (omega arith) (omega arith) (omega arith) in
      let s35 = service-same 35 50 (omega arith) (omega arith) (omega arith) in
      rw (same-type, s19, s25, s26, s27, s31, s32, s34, s35, same_information) refl

  pub same_check : check_passes v o ≡ check_passes u p
  unfolding check_passes
  same_check =
      ap (λ (t : ℕ). all_zero (remainder (generator_of t) (string_bits v o 1 (length_of t)))) same-type
      ∙ ap (λ (x : List Bool). all_zero (remainder (generator_of (type_at u p)) x))
      (same_bits 1 (length_of (type_at u p)) (omega arith) (omega arith) (omega arith))

-- ---- the bytes that a string covers give its bits
module _ (φ : Phase) (s : List ℕ) (n p long : ℕ) (k : p + long ≤ n) (e : long ≡ length_of (type_at (recorded φ s n) p)) where
  pub covers : (a m : ℕ) → a + m ≤ length_of (type_at (recorded φ s n) p)
      → cut (p % 8 + a) m (true_bits φ (covered_bytes p long s)) ≡ cut (p + a) m (recorded φ s n)
  covers a m l =
      part_bits s p long φ a m (p + a) refl (omega arith) ∙ sym (cut-recorded φ (p + a) m n s (omega arith))

-- ---- tests of which only those count that are reached
then_same : (a : Answer) {x y : Answer} → (a ≡ Ok tt → x ≡ y) → (a then x) ≡ (a then y)
unfolding ◌then◌
then_same (Ok u) h = h refl
then_same (Err r) h = refl

when-same : (b : Bool) (r : Refusal) {x y : Answer} → (b ≡ false → x ≡ y) → (when b r then x) ≡ (when b r then y)
unfolding when ◌then◌
when-same true r h = refl
when-same false r h = h refl

giving_same : (a : Answer) (q r : Record) → (a ≡ Ok tt → q ≡ r) → giving (a then field_tests q) q ≡ giving (a then field_tests r) r
unfolding ◌then◌
giving_same (Ok u) q r h = ap (λ (x : Record). giving (field_tests x) x) (h refl)
giving_same (Err x) q r h = refl

length-same : (a : Answer) (i j : ℕ) → (a ≡ Ok tt → i ≡ j) → cond (is_passed a) i 0 ≡ cond (is_passed a) j 0
length-same (Ok u) i j h = h refl
length-same (Err r) i j h = refl

-- ---- two recordings of one length that agree on the bytes that the string at a place of the first covers
module _ (φ : Phase) (s t : List ℕ) (n p : ℕ) (lengths : length t ≡ length s) (agree : SameThere φ t s n p) where
  abbrev u : List Bool
  u = recorded φ s n

  abbrev v : List Bool
  v = recorded φ t n

  abbrev long : ℕ
  long = length_of (type_at u p)

  agree_bits : (q m : ℕ) → p ≤ q → q + m ≤ p + long → q + m ≤ n → cut q m v ≡ cut q m u
  unfolding covered_bytes cut
  agree_bits q m a b c =
      let k = bytes_for (p % 8 + long) in
      let o = p % 8 + (q - p) in
      cut-recorded φ q m n t c ∙ sym (cut_part φ (p / 8) k o m q t (omega arith) (omega arith))
      ∙ ap (λ (x : List ℕ). cut o m (true_bits φ x)) agree
      ∙ cut_part φ (p / 8) k o m q s (omega arith) (omega arith) ∙ sym (cut-recorded φ q m n s c)

  module _ (inside : n ≤ 8 * length s) where
    size_u : length u ≡ n
    size_u = length-recorded φ s n inside

    size : length v ≡ length u
    size = length-recorded φ t n (omega arith) ∙ sym size_u

    -- the first 18 bits
    module _ (head : p + 18 ≤ n) where
      head_type : type_at v p ≡ type_at u p
      head_type =
          type_at_lem v p ∙ ap number (agree_bits (p + 12) 6 (omega arith) (omega (arith, length_unit (type_at u p))) (omega arith))
          ∙ sym (type_at_lem u p)

      head_mark : begins mark (drop p v) ≡ begins mark (drop p u)
      head_mark =
          let e : string_bits v p 1 12 ≡ string_bits u p 1 12 =
          string_bits_lem v p 12 ∙ agree_bits p 12 (omega arith) (omega (arith, length_unit (type_at u p))) (omega arith)
          ∙ sym (string_bits_lem u p 12) in
          same_truth _ _
          (λ h. (begins-mark u p).1 (sym e ∙ (begins-mark v p).0 h), λ h. (begins-mark v p).1 (e ∙ (begins-mark u p).0 h))

    -- the whole string
    module _ (fits : p + long ≤ n) where
      whole : (a m : ℕ) → a + m ≤ long → cut (p + a) m v ≡ cut (p + a) m u
      whole a m h = agree_bits (p + a) m (omega arith) (omega arith) (omega arith)

    tests_same : string_tests v p ≡ string_tests u p
    unfolding string_tests
    tests_same =
        ap (λ (m : ℕ).
        when (above (p + 18) m) (RunsOut p) then when (not (begins mark (drop p v))) (NoMark p)
        then when (above (p + length_of (type_at v p)) m) (RunsOut p)
        then when (not (check_passes v p)) (CheckFails p)) size
        ∙ when-same (above (p + 18) (length u)) (RunsOut p)
        (λ h.
        let k : p + 18 ≤ n = omega (arith, ltb-false (length u) (p + 18) h, size_u) in
        ap₂ (λ (b : Bool) (t : ℕ).
        when (not b) (NoMark p) then when (above (p + length_of t) (length u)) (RunsOut p)
        then when (not (check_passes v p)) (CheckFails p)) (head_mark k) (head_type k)
        ∙ when-same (not (begins mark (drop p u))) (NoMark p)
        (λ g.
        when-same (above (p + long) (length u)) (RunsOut p)
        (λ f.
        let m : p + long ≤ n = omega (arith, ltb-false (length u) (p + long) f, size_u) in
        ap (λ (b : Bool). when (not b) (CheckFails p)) (same_check u v p p (whole m)))))

    passed_fits : string_tests u p ≡ Ok tt → p + long ≤ n
    passed_fits e = omega (arith, (pass_stands u p e).fits, size_u)

    -- What stands at the place is the same.
    pub standing-covered : standing v p ≡ standing u p
    unfolding standing
    standing-covered =
        ap (λ (a : Answer). cond (is_passed a) (length_of (type_at v p)) 0) tests_same
        ∙ length-same (string_tests u p) (length_of (type_at v p)) long (λ e. ap length_of (same-type u v p p (whole (passed_fits e))))

  -- What reading gives at the place is the same.
  pub reading-covered : reading φ t n p ≡ reading φ s n p
  unfolding reading
  reading-covered =
      let q = place_tests (length s) n p in
      ap (λ (m : ℕ). giving (place_tests m n p then string_tests v p then field_tests (record_at v p)) (record_at v p)) lengths
      ∙ ap (λ (a : Answer). giving a (record_at v p)) (sym (then_assoc q (string_tests v p) (field_tests (record_at v p))))
      ∙ ap (λ (a : Answer). giving (a then field_tests (record_at v p)) (record_at v p))
      (then_same q (λ e. tests_same (place-passes s n p e).0.in_bytes))
      ∙ giving_same (q then string_tests u p) (record_at v p) (record_at u p)
      (λ e.
      let a = then_pass q (string_tests u p) e in
      let i = (place-passes s n p a.0).0.in_bytes in
      same_record u v p p (whole i (passed_fits i a.1)))
      ∙ ap (λ (a : Answer). giving a (record_at u p)) (then_assoc q (string_tests u p) (field_tests (record_at u p)))
