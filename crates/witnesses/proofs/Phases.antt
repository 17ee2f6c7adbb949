-- Recordings in opposite phase: what was shown of straight ones holds of their complements inverted; and a straight one that is read
-- inverted. Every fact about bits is computed. Assumes nothing.
use Rattle.std.specs.Prelude.{Ok}
use mathlib.Core.Path.{◌≡◌, refl, sym, ap, ◌∙◌, subst}
use mathlib.Core.Bool.{Bool, true, ◌&&◌, and-eq-true_iff}
use mathlib.Core.List.{List, [], ◌∷◌}
use Prim.Native.Nat.{ℕ, zero, suc, ◌<◌}
use native.Mathlib.Omega.{arith}
use lib.Dec.{ltb}
use lib.ListN.{get_or}
use borrow.Author.Tests.{ltb-true}
use Rattle.bits.specs.declared.Phase.TheVariants.{Straight, Inverted}
use Rattle.bits.specs.Bits.{recorded, complement, cut}
use Rattle.bits.proofs.Phases.{complement-back, true_bytes-lt}
use Rattle.cyclic.specs.Burst.{Burst}
use Rattle.cyclic.specs.Register.{remainder}
use Rattle.format.specs.Answers.{answer_code}
use Rattle.format.specs.Demand3.{Clean}
use Rattle.format.specs.Fields.{in_range, values, minus_zeros}
use Rattle.format.specs.Reading.{information_bits, record_at, reading}
use Rattle.format.specs.Records.{ranges, field_tests}
use Rattle.format.specs.Standing.{check_passes, string_tests}
use Rattle.format.specs.Strings.{string_bits, type_at, length_of, check_bits, generator_of, Stands}
use Rattle.format.specs.Tests.{when, ◌then◌, count_tests, place_tests, answer_of}
use Rattle.format.specs.Types.{places_of}
use Rattle.format.specs.Sets.{set_reading}
use Rattle.format.proofs.Theorems.{inverted_back, inverted_reads-set}
use Rattle.witnesses.specs.Recordings.{across, damaged}
use Rattle.witnesses.specs.Sets.{worked, worked_bytes}
use Rattle.witnesses.specs.Strings.{tb959}
use Rattle.witnesses.proofs.Sets.{worked-reads}
use Rattle.witnesses.proofs.Witnesses.{was, across_clean, struck_250, gone_250}

-- ---- bytes
abbrev all_bytes : List ℕ → Bool
all_bytes [] = true
all_bytes (x ∷ s) = ltb x 256 && all_bytes s

below : (s : List ℕ) → all_bytes s ≡ true → (i : ℕ) → get_or s i 0 < 256
below [] h i = omega arith
below (x ∷ s) h zero = ltb-true x 256 ((and-eq-true_iff (ltb x 256) (all_bytes s)).0 h).0
below (x ∷ s) h (suc i) = below s ((and-eq-true_iff (ltb x 256) (all_bytes s)).0 h).1 i

-- ---- one string: its complement reads inverted, and it itself has no mark inverted
pub complement-reads : answer_of (reading Inverted (complement tb959) 250 0) ≡ Ok tt
unfolding tb959 reading recorded cut string_bits type_at length_of generator_of remainder check_passes string_tests count_tests place_tests
    when ◌then◌ field_tests ranges in_range record_at information_bits values minus_zeros places_of
complement-reads = refl

pub straight_unmarked : answer_code (reading Inverted tb959 250 0) ≡ (4, 0)
unfolding tb959 reading recorded cut string_bits type_at length_of generator_of remainder check_passes string_tests count_tests place_tests
    when ◌then◌
straight_unmarked = refl

-- ---- a set
pub set-reads_inverted : set_reading Inverted (complement worked_bytes) 753 3 ≡ Ok worked
unfolding worked_bytes
set-reads_inverted =
    inverted_reads-set (complement worked_bytes) 753 (true_bytes-lt Inverted worked_bytes (below worked_bytes refl)) 3
    ∙ ap (λ (s : List ℕ). set_reading Straight s 753 3) (complement-back worked_bytes (below worked_bytes refl)) ∙ worked-reads

-- ---- demand 3: a damaged stretch of an inverted recording, and a burst between recordings of different phases
pub across_inverted : Clean (Stands (recorded Inverted (complement across) 953)) 953 203 (328 ∷ 578 ∷ [])
unfolding across
across_inverted =
    subst (λ (u : List Bool). Clean (Stands u) 953 203 (328 ∷ 578 ∷ [])) (sym (inverted_back across 953 (below across refl))) across_clean

abbrev inverted : List Bool
inverted = recorded Inverted (complement damaged) 755

inverted_bits : recorded Straight damaged 755 ≡ inverted
unfolding damaged
inverted_bits = sym (inverted_back damaged 755 (below damaged refl))

pub struck_inverted : Burst (check_bits (type_at was 130)) (string_bits was 130 1 250) (string_bits inverted 130 1 250)
struck_inverted =
    subst (λ (u : List Bool). Burst (check_bits (type_at was 130)) (string_bits was 130 1 250) (string_bits u 130 1 250)) inverted_bits
    struck_250.burst

pub same_length_inverted : length_of (type_at inverted 130) ≡ 250
same_length_inverted = subst (λ (u : List Bool). length_of (type_at u 130) ≡ 250) inverted_bits struck_250.same_length

pub gone_inverted : (l : ℕ) → Stands inverted 130 l → ⊥
gone_inverted = subst (λ (u : List Bool). (l : ℕ) → Stands u 130 l → ⊥) inverted_bits gone_250
