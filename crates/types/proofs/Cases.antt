-- A type's length, generator and check bits by its cases: type 1, type 2, and every other; and where a string of it lies. Assumes nothing.
use mathlib.Core.Path.{◌≡◌, sym, ap, ap₂, ◌∙◌, subst}
use mathlib.Core.Bool.{Bool, true, cond}
use mathlib.Core.List.{List}
use mathlib.Core.Logic.{◌↔◌}
use Prim.Native.Nat.{ℕ, ◌+◌, ◌*◌, ◌≤◌}
use native.Mathlib.Decide.{ℕ_discrete}
use native.Mathlib.Omega.{arith}
use lib.ListN.{length}
use borrow.Author.Tests.{eq-eqb, ne_eqb}
use Rattle.bits.specs.Bits.{number, bits, Covers}
use Rattle.cyclic.specs.Generators.{generator16, generator24}
use Rattle.cyclic.specs.Poly.{Divides}
use Rattle.cyclic.specs.Register.{degree, check}
use Rattle.cyclic.proofs.Worked.{number16, number24}
use Rattle.format.specs.Fields.{total}
use Rattle.format.specs.Strings.{length_of, generator_of, check_bits}
use Rattle.format.specs.Types.{places_of, raw_count}
use Rattle.format.proofs.Agree.{length_unit}
use Rattle.format.proofs.Information.{string-filled}

-- ---- lengths
pub length-least : (t l : ℕ) → l ≡ length_of t → (125 ≤ l) × (l ≤ 375)
length-least t l e = let u = length_unit t in (omega arith, omega arith)

-- ---- generators
generator_two : (t : ℕ) → t ≡ 2 → generator24 ≡ generator_of t
unfolding generator_of
generator_two t e = sym (ap (λ (b : Bool). cond b generator24 generator16) (eq-eqb t 2 e))

generator_other : (t : ℕ) → (t ≡ 2 → ⊥) → generator16 ≡ generator_of t
unfolding generator_of
generator_other t n = sym (ap (λ (b : Bool). cond b generator24 generator16) (ne_eqb t 2 n))

-- the degrees and numbers that the code has for the generators are those of the types
pub number_two : (t : ℕ) {d g : ℕ} → t ≡ 2 → d ≡ 24 → g ≡ 0x1864CFB → bits (d + 1) g ≡ generator_of t
number_two t e h k = ap₂ (λ (d g : ℕ). bits (d + 1) g) h k ∙ number24 ∙ generator_two t e

pub number_other : (t : ℕ) {d g : ℕ} → (t ≡ 2 → ⊥) → d ≡ 16 → g ≡ 0x16F63 → bits (d + 1) g ≡ generator_of t
number_other t n h k = ap₂ (λ (d g : ℕ). bits (d + 1) g) h k ∙ number16 ∙ generator_other t n

-- ---- check bits
pub check_two : (t : ℕ) → t ≡ 2 → 24 ≡ check_bits t
check_two t e = ap degree (generator_two t e)

pub check_other : (t : ℕ) → (t ≡ 2 → ⊥) → 16 ≡ check_bits t
check_other t n = ap degree (generator_other t n)

pub check_few : (t : ℕ) → check_bits t ≤ 24
check_few t = elim (ℕ_discrete t 2) [ yes e ↦ omega (arith, check_two t e) | no n ↦ omega (arith, check_other t n) ]

-- ---- how a string's bits are parted: mark and service fields, information fields, raw bits, check bits
pub parted : (t : ℕ) {n degree long : ℕ} → n ≡ raw_count t → degree ≡ check_bits t → long ≡ length_of t
    → 50 + total (places_of t) + n + degree ≡ long
parted t n d l = omega (arith, string-filled t, n, d, l)

-- ---- a string's bits in the bytes that it covers
pub covered-run : {s : List ℕ} {offset long : ℕ} (t : ℕ) → Covers s offset long → long ≡ length_of t
    → (125 ≤ long) × (offset + long ≤ 8 * length s) × (offset + long ≤ 382)
covered-run t c e =
    let l = length-least t _ e in
    (l.0, omega (arith, l.0, c.last), omega (arith, l.1, c.first))

-- a test by a generator is a test by the type's
pub by_generator : {g g' p : List Bool} {v : Bool} → g ≡ g' → (v ≡ true) ↔ Divides g p → (v ≡ true) ↔ Divides g' p
by_generator {g} {g'} {p} {v} e = subst (λ (x : List Bool). (v ≡ true) ↔ Divides x p) e

-- check bits by a generator are those by the type's
pub check_by : {g g' : List Bool} {c : ℕ} (p : List Bool) → g ≡ g' → c ≡ number (check g p) → c ≡ number (check g' p)
check_by {g} {g'} {c} p e = subst (λ (x : List Bool). c ≡ number (check x p)) e
