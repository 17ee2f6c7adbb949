-- What stands at a place, by the tests that the code makes. Assumes nothing.
use Rattle.std.specs.Prelude.{Ok, Err, Some, None}
use Rattle.std.specs.Bool.{then_some}
use mathlib.Core.Path.{◌≡◌, refl, sym, ap, ap₂, ◌∙◌, subst}
use mathlib.Core.Bool.{Bool, true, false, cond, not}
use mathlib.Core.List.{List}
use mathlib.Core.Logic.{◌↔◌}
use Prim.Native.Nat.{ℕ, zero, suc, ◌+◌, ◌-◌, ◌*◌, ◌/◌, ◌%◌, ◌≤◌, ◌<◌, min}
use native.Mathlib.Omega.{arith}
use lib.Arith.{digits_div, digits_mod}
use lib.ListN.{length, take, drop}
use borrow.Author.Tests.{lt-ltb, le-ltb, ltb-false}
use Rattle.bits.specs.declared.Phase.{Phase}
use Rattle.bits.specs.Bits.{number, true_bits, recorded, cut, covered_bytes}
use Rattle.bits.proofs.Phases.{length_true, length-recorded, cut-recorded, cut_part, covered-bits}
use Rattle.bits.proofs.Lists.{length-cut}
use Rattle.bits.proofs.Numbers.{number_injective, number-cut-lt, number-cut_split}
use Rattle.cyclic.specs.Poly.{Divides}
use Rattle.format.specs.declared.Refusal.TheVariants.{NoMark, RunsOut, CheckFails}
use Rattle.format.specs.Standing.{begins, check_passes, string_tests, standing}
use Rattle.format.specs.Strings.{mark, string_bits, type_at, length_of, generator_of}
use Rattle.format.specs.Tests.{Answer, is_passed, when, ◌then◌, giving, above}
use Rattle.format.specs.declared.Refusal.{Refusal}
use Rattle.format.proofs.Order.{then_assoc, then_pass, when_pass, giving_ok}
use Rattle.format.proofs.Agree.{string_bits_lem, type_at_lem, begins-mark, check_seen}
use Rattle.standing.specs.declared.Frame.{Frame}
use Rattle.standing.specs.Frames.{frame_tests, frame_at, as_length}

-- ---- frames and tests

-- the tests of a string are those of its frame, and its check
pub frame_tests_lem : (u : List Bool) (p : ℕ) → (frame_tests u p then when (not (check_passes u p)) (CheckFails p)) ≡ string_tests u p
unfolding string_tests frame_tests
frame_tests_lem u p =
    then_assoc _ _ _ ∙ ap (λ (x : Answer). when (above (p + 18) (length u)) (RunsOut p) then x) (then_assoc _ _ _)

-- what a frame with a string says
pub framed_says : (u : List Bool) (p : ℕ) {f : Frame} → frame_at u p ≡ Ok f
    → (frame_tests u p ≡ Ok tt) × (f.kind ≡ type_at u p) × (f.long ≡ length_of (type_at u p)) × (p + f.long ≤ length u)
unfolding frame_at frame_tests
framed_says u p {f} e =
    let l = length_of (type_at u p) in
    let g = giving_ok (frame_tests u p) (record { kind = type_at u p; long = l }) f e in
    let h = then_pass (when (above (p + 18) (length u)) (RunsOut p)) _ g.0 in
    let k = then_pass (when (not (begins mark (drop p u))) (NoMark p)) (when (above (p + l) (length u)) (RunsOut p)) h.1 in
    let same : f.long ≡ l = ap (λ (x : Frame). x.long) (sym g.1) in (
      g.0,
      ap (λ (x : Frame). x.kind) (sym g.1),
      same,
      omega (arith, ltb-false (length u) (p + l) (when_pass (above (p + l) (length u)) (RunsOut p) k.1), same),
    )

-- what stands, of a frame that there is not, or of one and its check
pub frame_refused : (u : List Bool) (p : ℕ) {r : Refusal} → frame_at u p ≡ Err r → None ≡ as_length (standing u p)
unfolding frame_at standing ◌then◌
frame_refused u p {r} e =
    let l = length_of (type_at u p) in
    rw (← frame_tests_lem u p) (at (frame_tests u p) _ l (record { kind = type_at u p; long = l }) e)
  where
    at : (a b : Answer) (l : ℕ) (f : Frame) → giving a f ≡ Err r → None ≡ as_length (cond (is_passed (a then b)) l 0)
    at (Ok u) b l f e = let z : ◌≡◌ {A = ℕ} 0 1 = cc in absurd (omega arith)
    at (Err x) b l f e = refl

pub frame_stands : (u : List Bool) (p : ℕ) {f : Frame} {b : Bool} → frame_at u p ≡ Ok f → b ≡ check_passes u p → 0 < f.long
    → then_some b f.long ≡ as_length (standing u p)
unfolding standing when ◌then◌
frame_stands u p {f} {b} e h k =
    let s = framed_says u p e in
    rw (← frame_tests_lem u p, s.0, ← h, ← s.2) (at f.long b k)
  where
    at : (l : ℕ) (b : Bool) → 0 < l
        → then_some b l ≡ as_length (cond (is_passed (cond {A = Answer} (not b) (Err (CheckFails p)) (Ok (tt {0})))) l 0)
    at zero b h = absurd (omega arith)
    at (suc n) true h = refl
    at (suc n) false h = refl

-- what that says of the length
pub some_length : (n : ℕ) {l : ℕ} → as_length n ≡ Some l → (l ≡ n) × (l ≡ 0 → ⊥)
some_length zero e = let z : ◌≡◌ {A = ℕ} 0 1 = cc in absurd (omega arith)
some_length (suc n) {l} e = let s : l ≡ suc n = cc in (s, λ z. omega (arith, s, z))

pub no_length : (n : ℕ) → as_length n ≡ None → n ≡ 0
no_length zero e = refl
no_length (suc n) e = let z : ◌≡◌ {A = ℕ} 0 1 = cc in absurd (omega arith)

not-begins : (b : Bool) → (b ≡ true → ⊥) → b ≡ false
not-begins true n = absurd (n refl)
not-begins false n = refl

-- ---- the frame, from the first 18 bits
-- fetched from the eight bytes at the place, or fewer at the end
pub head_is : (φ : Phase) (s : List ℕ) (p : ℕ) {v end : ℕ} {bytes : List ℕ} {ψ : Phase} → p + 18 ≤ 8 * length s
    → end ≡ min (length s) (p / 8 + 8) → bytes ≡ take (end - p / 8) (drop (p / 8) s) → ψ ≡ φ
    → v ≡ number (cut (p % 8) 18 (true_bits ψ bytes)) → v ≡ number (cut p 18 (true_bits φ s))
head_is φ s p {end = end} h k eb eφ e =
    e ∙ ap number (ap₂ (λ (x : Phase) (y : List ℕ). cut (p % 8) 18 (true_bits x y)) eφ eb
    ∙ cut_part φ (p / 8) (end - p / 8) (p % 8) 18 p s (omega arith) (omega (arith, k)))

module _ (φ : Phase) (s : List ℕ) (n p : ℕ) (h : n ≤ 8 * length s) where
  abbrev u : List Bool
  u = recorded φ s n

  length_u : length u ≡ n
  length_u = length-recorded φ s n h

  pub frame_short : n < p + 18 → Err (RunsOut p) ≡ frame_at u p
  unfolding frame_at frame_tests when ◌then◌
  frame_short k = simp (lt-ltb (length u) (p + 18) (omega (arith, length_u)))

  module _ (l : p + 18 ≤ n) (v : ℕ) (e : v ≡ number (cut p 18 (true_bits φ s))) where
    -- the first 18 bits: the mark and the type
    split : v ≡ number (cut p 12 (true_bits φ s)) * 64 + number (cut (p + 12) 6 (true_bits φ s))
    split = e ∙ number-cut_split p 12 6 (true_bits φ s) (omega (arith, length_true φ s))

    last-lt : number (cut (p + 12) 6 (true_bits φ s)) < 64
    last-lt = number-cut-lt (p + 12) 6 (true_bits φ s) (omega (arith, length_true φ s))

    head : v / 64 ≡ number (cut p 12 (true_bits φ s))
    head = ap (λ (x : ℕ). x / 64) split ∙ digits_div (number (cut p 12 (true_bits φ s))) last-lt

    pub head_kind : v % 64 ≡ type_at u p
    head_kind =
        ap (λ (x : ℕ). x % 64) split ∙ digits_mod (number (cut p 12 (true_bits φ s))) last-lt
        ∙ sym (type_at_lem u p ∙ ap number (cut-recorded φ (p + 12) 6 n s (omega arith)))

    pub head_mark : (string_bits u p 1 12 ≡ mark → v / 64 ≡ 0x5F1) × (v / 64 ≡ 0x5F1 → string_bits u p 1 12 ≡ mark)
    head_mark = (
      λ m. head ∙ ap number (sym (string_bits_lem u p 12 ∙ cut-recorded φ p 12 n s (omega arith)) ∙ m),
      λ z.
          string_bits_lem u p 12 ∙ cut-recorded φ p 12 n s (omega arith)
          ∙ number_injective (cut p 12 (true_bits φ s)) mark (length-cut p 12 (true_bits φ s) (omega (arith, length_true φ s)))
          (sym head ∙ z),
    )

    -- the frame where the mark is not there
    pub frame_unmarked : (v / 64 ≡ 0x5F1 → ⊥) → Err (NoMark p) ≡ frame_at u p
    unfolding frame_at frame_tests when ◌then◌
    frame_unmarked z =
        simp (
          le-ltb (length u) (p + 18) (omega (arith, length_u)),
          not-begins (begins mark (drop p u))
              (λ b. z (head_mark.0 ((begins-mark u p).0 b))),
        )

    module _ (z : v / 64 ≡ 0x5F1) (long : ℕ) (el : long ≡ length_of (v % 64)) where
      length-here : long ≡ length_of (type_at u p)
      length-here = el ∙ ap length_of head_kind

      -- the string runs past the bit count
      pub frame_beyond : n < p + long → Err (RunsOut p) ≡ frame_at u p
      unfolding frame_at frame_tests when ◌then◌
      frame_beyond k =
          simp (
            le-ltb (length u) (p + 18) (omega (arith, length_u)),
            (begins-mark u p).1 (head_mark.1 z),
            lt-ltb (length u) (p + length_of (type_at u p)) (omega (arith, length_u, length-here)),
          )

      -- it fits
      pub frame_framed : p + long ≤ n → Ok (record { kind = v % 64; long = long }) ≡ frame_at u p
      unfolding frame_at frame_tests when ◌then◌
      frame_framed k =
          ap₂ (λ (k l : ℕ). Ok (record { kind = k; long = l })) head_kind length-here
          ∙ simp (
            le-ltb (length u) (p + 18) (omega (arith, length_u)),
            (begins-mark u p).1 (head_mark.1 z),
            le-ltb (length u) (p + length_of (type_at u p)) (omega (arith, length_u, length-here)),
          )

-- ---- the check, from the bytes that a string covers
module _ (φ : Phase) (s : List ℕ) (n p : ℕ) {f : Frame} (h : n ≤ 8 * length s) (framed : frame_at (recorded φ s n) p ≡ Ok f) where
  said : (f.kind ≡ type_at (recorded φ s n) p) × (f.long ≡ length_of (type_at (recorded φ s n) p)) × (p + f.long ≤ length (recorded φ s n))
  said = let s = framed_says (recorded φ s n) p framed in (s.1, s.2, s.3)

  pub fits : p + f.long ≤ n
  fits = omega (arith, said.2, length-recorded φ s n h)

  pub check_is_lem : {t : Bool} {bytes : List ℕ} {ψ : Phase} → bytes ≡ covered_bytes p f.long s → ψ ≡ φ
      → (t ≡ true) ↔ Divides (generator_of f.kind) (cut (p % 8) f.long (true_bits ψ bytes)) → t ≡ check_passes (recorded φ s n) p
  check_is_lem {t} {bytes} {ψ} eb eφ e =
      let b : cut (p % 8) f.long (true_bits ψ bytes) ≡ cut p f.long (recorded φ s n) =
      ap₂ (λ (x : Phase) (y : List ℕ). cut (p % 8) f.long (true_bits x y)) eφ eb
      ∙ covered-bits s p f.long φ ∙ sym (cut-recorded φ p f.long n s fits) in
      check_seen (recorded φ s n) p t said.0 (said.1 ∙ ap length_of (sym said.0))
      (subst (λ (x : List Bool). (t ≡ true) ↔ Divides (generator_of f.kind) x) b e)
