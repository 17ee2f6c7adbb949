-- The recordings of `specs/Recordings` meet the premises of demand 3, and what follows of them. Every fact about bits is computed.
-- Assumes nothing.
use mathlib.Core.Path.{◌≡◌, refl, sym, ap, ◌∙◌, subst}
use mathlib.Core.Bool.{Bool, true}
use mathlib.Core.List.{List, [], ◌∷◌}
use mathlib.Core.Logic.{inl}
use Prim.Native.Nat.{ℕ, suc, ◌+◌, ◌≤◌, ◌<◌}
use native.Mathlib.Decide.{dec_le}
use native.Mathlib.Omega.{arith}
use lib.ListN.{length}
use Rattle.bits.specs.declared.Phase.TheVariants.{Straight}
use Rattle.bits.specs.Bits.{number, recorded, cut}
use Rattle.cyclic.specs.Burst.{Burst}
use Rattle.cyclic.specs.Register.{remainder}
use Rattle.format.specs.Demand3.{from, Clean, Across, InStep}
use Rattle.format.specs.Tests.{when, ◌then◌, Passes}
use Rattle.format.specs.Listing.{starts}
use Rattle.format.specs.Standing.{check_passes, string_tests, standing}
use Rattle.format.specs.Strings.{mark, string_bits, type_at, length_of, generator_of, check_bits, Stands}
use Rattle.format.proofs.Agree.{standing-stands}
use Rattle.format.proofs.Damage.{damaged_none}
use Rattle.format.proofs.Resync.{resync}
use Rattle.format.proofs.Sure.{front, sure, sound, apart}
use Rattle.witnesses.specs.Recordings.{across, farthest, farthest_first, undamaged, damaged}
use Rattle.witnesses.proofs.Tests.{walk, walked, widest_burst}

-- ---- `across`: a listed string lies across the first true boundary
pub across-passes : Passes across 953
unfolding across
across-passes = record { short_enough = omega arith; in_bytes = omega arith }

across-count : length (recorded Straight across 953) ≡ 953
unfolding across recorded
across-count = refl

across_sure : sure (recorded Straight across 953) 203 (328 ∷ 578 ∷ []) ≡ true
unfolding across sure recorded front standing check_passes string_tests when ◌then◌ string_bits cut type_at length_of generator_of remainder
across_sure = refl

pub across_clean : Clean (Stands (recorded Straight across 953)) 953 203 (328 ∷ 578 ∷ [])
across_clean =
    subst (λ (end : ℕ). Clean (Stands (recorded Straight across 953)) end 203 (328 ∷ 578 ∷ [])) across-count
    (sound (recorded Straight across 953) 203 (328 ∷ 578 ∷ []) across_sure)

across_walk : walk (recorded Straight across 953) 0 0 ≡ 61 ∷ 328 ∷ 578 ∷ []
unfolding across walk recorded front string_bits cut type_at length_of generator_of remainder
across_walk = refl

pub across-starts : starts (recorded Straight across 953) ≡ 61 ∷ 328 ∷ 578 ∷ []
across-starts = walked (recorded Straight across 953) (61 ∷ 328 ∷ 578 ∷ []) across_walk

across-length : standing (recorded Straight across 953) 61 ≡ 250
unfolding across recorded front standing check_passes string_tests when ◌then◌ string_bits cut type_at length_of generator_of remainder
across-length = refl

pub across_lies : Across (Stands (recorded Straight across 953)) (starts (recorded Straight across 953)) 203
across_lies = record {
  start = 61;
  long = 250;
  is_listed = rw across-starts (inl refl);
  stands = standing-stands (recorded Straight across 953) 61 250 across-length (omega arith);
  before = omega arith;
  past = omega arith;
}

-- The first start that listing gives at or past 203 is not 203.
pub across-from : from 203 (starts (recorded Straight across 953)) ≡ 328 ∷ 578 ∷ []
unfolding from dec_le
across-from = rw across-starts refl

-- ---- `farthest`: the first start given is 625 bits on
pub farthest-passes : Passes farthest 936
unfolding farthest
farthest-passes = record { short_enough = omega arith; in_bytes = omega arith }

farthest-count : length (recorded Straight farthest 936) ≡ 936
unfolding farthest recorded
farthest-count = refl

farthest_sure : sure (recorded Straight farthest 936) 61 (311 ∷ 686 ∷ 811 ∷ []) ≡ true
unfolding farthest sure recorded front standing check_passes string_tests when ◌then◌ string_bits cut type_at length_of generator_of
    remainder
farthest_sure = refl

farthest_sound : Clean (Stands (recorded Straight farthest 936)) (length (recorded Straight farthest 936)) 61 (311 ∷ 686 ∷ 811 ∷ [])
farthest_sound = sound (recorded Straight farthest 936) 61 (311 ∷ 686 ∷ 811 ∷ []) farthest_sure

pub farthest_clean : Clean (Stands (recorded Straight farthest 936)) 936 61 (311 ∷ 686 ∷ 811 ∷ [])
farthest_clean =
    subst (λ (end : ℕ). Clean (Stands (recorded Straight farthest 936)) end 61 (311 ∷ 686 ∷ 811 ∷ [])) farthest-count farthest_sound

farthest_walk : walk (recorded Straight farthest 936) 0 0 ≡ 19 ∷ 686 ∷ 811 ∷ []
unfolding farthest walk recorded front string_bits cut type_at length_of generator_of remainder
farthest_walk = refl

pub farthest-starts : starts (recorded Straight farthest 936) ≡ 19 ∷ 686 ∷ 811 ∷ []
farthest-starts = walked (recorded Straight farthest 936) (19 ∷ 686 ∷ 811 ∷ []) farthest_walk

pub farthest-from : from 61 (starts (recorded Straight farthest 936)) ≡ farthest_first ∷ 811 ∷ []
unfolding from dec_le
farthest-from = rw farthest-starts refl

pub farthest_distance : farthest_first ≡ 61 + 625
farthest_distance = refl

-- Demand 3, applied to `farthest`, gives the start `farthest_first`.
pub farthest_step : InStep (Stands (recorded Straight farthest 936)) 61 (311 ∷ 686 ∷ 811 ∷ []) (starts (recorded Straight farthest 936))
farthest_step = resync (recorded Straight farthest 936) 61 (311 ∷ 686 ∷ 811 ∷ []) farthest_sound

abbrev head_of : List ℕ → ℕ
head_of [] = 0
head_of (x ∷ xs) = x

pub farthest_first_lem : farthest_step.first ≡ farthest_first
farthest_first_lem = ap head_of (sym farthest_step.is_first ∙ farthest-from)

-- ---- `undamaged` and `damaged`: a burst in a string of each length
abbrev pub was : List Bool
was = recorded Straight undamaged 755

abbrev pub now : List Bool
now = recorded Straight damaged 755

-- The premises of the promise's clause `damage` for the string of `long` bits at `place`. A burst has changed it from its bit `first` to
-- its bit `last`, counted from 0: one bit wider and the clause says nothing.
pub record Struck (place long first last : ℕ) : Type 0 where
  pub stood : Stands was place long
  pub inside : place + long ≤ 755
  pub burst : Burst (check_bits (type_at was place)) (string_bits was place 1 long) (string_bits now place 1 long)
  pub is_first : burst.first ≡ first
  pub is_last : burst.last ≡ last
  pub widest : suc last ≡ first + check_bits (type_at was place)
  pub same_length : length_of (type_at now place) ≡ long

module _ (place long first last : ℕ) where
  struck : standing was place ≡ long → 0 < long → place + long ≤ 755 → suc last ≡ first + check_bits (type_at was place)
      → apart (check_bits (type_at was place)) first last (string_bits was place 1 long) (string_bits now place 1 long) ≡ true
      → length_of (type_at now place) ≡ long
      → Struck place long first last
  struck s h k e a l =
      let t = widest_burst (check_bits (type_at was place)) first last (string_bits was place 1 long) (string_bits now place 1 long) a e in
      record {
        stood = standing-stands was place long s h;
        inside = k;
        burst = t.0;
        is_first = t.1;
        is_last = t.2;
        widest = e;
        same_length = l;
      }

  -- Nothing stands where a burst has struck.
  pub gone : Struck place long first last → (l : ℕ) → Stands now place l → ⊥
  gone s = damaged_none s.stood s.burst s.same_length

pub struck_125 : Struck 5 125 7 22
unfolding undamaged damaged recorded front standing check_passes string_tests when ◌then◌ string_bits cut type_at length_of generator_of
    remainder apart
struck_125 = struck 5 125 7 22 refl (omega arith) (omega arith) refl refl refl

pub struck_250 : Struck 130 250 16 31
unfolding undamaged damaged recorded front standing check_passes string_tests when ◌then◌ string_bits cut type_at length_of generator_of
    remainder apart
struck_250 = struck 130 250 16 31 refl (omega arith) (omega arith) refl refl refl

pub struck_375 : Struck 380 375 351 374
unfolding undamaged damaged recorded front standing check_passes string_tests when ◌then◌ string_bits cut type_at length_of generator_of
    remainder apart
struck_375 = struck 380 375 351 374 refl (omega arith) (omega arith) refl refl refl

pub gone_125 : (l : ℕ) → Stands now 5 l → ⊥
gone_125 = gone 5 125 7 22 struck_125

pub gone_250 : (l : ℕ) → Stands now 130 l → ⊥
gone_250 = gone 130 250 16 31 struck_250

pub gone_375 : (l : ℕ) → Stands now 380 l → ⊥
gone_375 = gone 380 375 351 374 struck_375

-- The first burst reaches into the mark, the second into the type.
pub mark_struck : string_bits now 5 1 12 ≡ mark → ⊥
unfolding damaged recorded string_bits cut
mark_struck = λ e. omega (arith, ap number e)

pub type_struck : (type_at was 130 ≡ 10) × (type_at now 130 ≡ 9)
unfolding undamaged damaged recorded string_bits cut type_at
type_struck = (refl, refl)
