-- Two premises of demand 3 are needed: the recordings of `specs/Needed` meet all others, and what demand 3 claims does not hold of them.
-- Every fact about bits is computed. Assumes nothing.
use mathlib.Core.Path.{◌≡◌, refl, sym, ap, ◌∙◌}
use mathlib.Core.Bool.{Bool, true}
use mathlib.Core.List.{List, [], ◌∷◌}
use mathlib.Core.Logic.{inl, ⊎_elim}
use Prim.Native.Nat.{ℕ, ◌+◌, ◌≤◌, ◌<◌}
use native.Mathlib.Decide.{dec_le}
use native.Mathlib.Omega.{arith}
use lib.ListN.{length}
use Rattle.bits.specs.declared.Phase.TheVariants.{Straight}
use Rattle.bits.specs.Bits.{recorded, cut}
use Rattle.cyclic.specs.Burst.{Burst}
use Rattle.cyclic.specs.Register.{remainder}
use Rattle.format.specs.Demand3.{In, from, Run, ended, next, InStep}
use Rattle.format.specs.Tests.{when, ◌then◌, Passes}
use Rattle.format.specs.Listing.{starts}
use Rattle.format.specs.Standing.{check_passes, string_tests, standing}
use Rattle.format.specs.Strings.{string_bits, type_at, length_of, generator_of, check_bits, Stands}
use Rattle.format.proofs.Agree.{length_unit, standing-stands}
use Rattle.format.proofs.Rule.{list_all, list_end, list_stands}
use Rattle.format.proofs.Sure.{apart}
use Rattle.witnesses.specs.Needed.{covered, stretched, shortened}
use Rattle.witnesses.proofs.Tests.{narrower_burst}

-- ---- "one begins at least 375 bits on"
-- The other premises of demand 3, from b on, in the words of `Clean`. But no true boundary is at least 375 bits on; and no start that the
-- rule finds is at or past b, so listing is nowhere in step.
pub record OutOfStep (bytes : List ℕ) (count b : ℕ) (bs : List ℕ) : Type 0 where
  pub passes : Passes bytes count
  pub run : Run (Stands (recorded Straight bytes count)) count b (b ∷ bs)
  pub alone : (place long : ℕ) → b ≤ place → place < count → (In place (b ∷ bs) → ⊥) → Stands (recorded Straight bytes count) place long → ⊥
  pub none_far : (t : ℕ) → In t (b ∷ bs) → t < b + 375
  pub none_from : from b (starts (recorded Straight bytes count)) ≡ []
  pub not-in_step : InStep (Stands (recorded Straight bytes count)) b bs (starts (recorded Straight bytes count)) → ⊥

covered-count : length (recorded Straight covered 375) ≡ 375
unfolding covered recorded
covered-count = refl

-- A string stands at 0, and it covers another, which stands at 250.
pub covering_stands : Stands (recorded Straight covered 375) 0 375
unfolding covered recorded standing check_passes string_tests when ◌then◌ string_bits cut type_at length_of generator_of remainder
covering_stands = standing-stands (recorded Straight covered 375) 0 375 refl (omega arith)

pub covered-stands : Stands (recorded Straight covered 375) 250 125
unfolding covered recorded standing check_passes string_tests when ◌then◌ string_bits cut type_at length_of generator_of remainder
covered-stands = standing-stands (recorded Straight covered 375) 250 125 refl (omega arith)

-- The rule finds the one at 0, and is at the end after it.
pub covered-starts : starts (recorded Straight covered 375) ≡ 0 ∷ []
covered-starts =
    list_all (recorded Straight covered 375) ∙ list_stands (recorded Straight covered 375) covering_stands
    ∙ ap (0 ∷◌) (list_end (recorded Straight covered 375) 375 (omega (arith, covered-count)))

covered-from : from 250 (starts (recorded Straight covered 375)) ≡ []
unfolding from dec_le
covered-from = rw covered-starts refl

pub covered_out_of_step : OutOfStep covered 375 250 []
unfolding covered
covered_out_of_step = record {
  passes = record { short_enough = omega arith; in_bytes = omega arith };
  run = next covered-stands (ended refl);
  alone = λ p l h k out s.
      out (inl (omega (arith, s.named, s.fits, length_unit (type_at (recorded Straight covered 375) p), covered-count)));
  none_far = λ t i. ⊎_elim (λ e. omega arith) (λ n. absurd n) i;
  none_from = covered-from;
  not-in_step = λ s. omega (arith, ap length (sym covered-from ∙ s.is_first));
}

-- ---- "if its type still names the same length"
-- The other premises of the promise's clause `damage`, for a string of 375 bits at a place. Only two of its bits have changed, 16 and 17
-- counted from 0, the last two of its type. But the type is 1 now; and a string of 125 bits stands there, and the rule finds it.
pub record StandsAgain (was now : List Bool) (place : ℕ) : Type 0 where
  pub stood : Stands was place 375
  pub inside : place + 375 ≤ length now
  pub burst : Burst (check_bits (type_at was place)) (string_bits was place 1 375) (string_bits now place 1 375)
  pub two_bits : (burst.first ≡ 16) × (burst.last ≡ 17)
  pub types : (type_at was place ≡ 2) × (type_at now place ≡ 1)
  pub stands : Stands now place 125
  pub listed : In place (starts now)

abbrev was : List Bool
was = recorded Straight stretched 375

abbrev now : List Bool
now = recorded Straight shortened 375

changed : apart 2 16 17 (string_bits was 0 1 375) (string_bits now 0 1 375) ≡ true
unfolding stretched shortened recorded string_bits cut apart
changed = refl

changed_types : (type_at was 0 ≡ 2) × (type_at now 0 ≡ 1)
unfolding stretched shortened recorded string_bits cut type_at
changed_types = (refl, refl)

check-width : check_bits (type_at was 0) ≡ 24
unfolding generator_of
check-width = ap check_bits changed_types.0

stretched-stands : Stands was 0 375
unfolding stretched recorded standing check_passes string_tests when ◌then◌ string_bits cut type_at length_of generator_of remainder
stretched-stands = standing-stands was 0 375 refl (omega arith)

shortened-stands : Stands now 0 125
unfolding shortened recorded standing check_passes string_tests when ◌then◌ string_bits cut type_at length_of generator_of remainder
shortened-stands = standing-stands now 0 125 refl (omega arith)

pub shortened_again : StandsAgain (recorded Straight stretched 375) (recorded Straight shortened 375) 0
unfolding shortened recorded
shortened_again =
    let width : 2 ≤ check_bits (type_at was 0) = omega (arith, check-width) in
    let t = narrower_burst 2 (check_bits (type_at was 0)) 16 17 (string_bits was 0 1 375) (string_bits now 0 1 375) changed refl width in
    record {
      stood = stretched-stands;
      inside = omega arith;
      burst = t.0;
      two_bits = (t.1, t.2);
      types = changed_types;
      stands = shortened-stands;
      listed = rw (list_all now, list_stands now shortened-stands) (inl refl);
    }
