-- Laws of the tests of a bit count and a place: each case, and what passing them says. Assumes nothing.
use Rattle.std.specs.Prelude.{Ok, Err}
use Rattle.format.specs.Tests.{Answer}
use mathlib.Core.Path.{◌≡◌, sym}
use mathlib.Core.List.{List}
use Prim.Native.Nat.{ℕ, ◌+◌, ◌*◌, ◌/◌, ◌≤◌, ◌<◌}
use native.Mathlib.Omega.{arith}
use lib.ListN.{length}
use borrow.Author.Tests.{lt-ltb, le-ltb, ltb-false}
use Rattle.format.specs.declared.Refusal.TheVariants.{TooLong, BeyondBytes, BeyondCount}
use Rattle.format.specs.Tests.{bit_limit, when, ◌then◌, above, count_tests, place_tests, Passes}
use Rattle.format.proofs.Order.{then_pass, then_passed, when_pass, when_no}

-- ---- 1, 2, as the code tests them
module _ (bytes count : ℕ) where
  pub count_long : bit_limit < count → Err TooLong ≡ count_tests bytes count
  unfolding count_tests when ◌then◌
  count_long h = simp (lt-ltb bit_limit count h)

  pub count-bytes : count ≤ bit_limit → bytes < (count + 7) / 8 → Err BeyondBytes ≡ count_tests bytes count
  unfolding count_tests when ◌then◌
  count-bytes h k = let l : 8 * bytes < count = omega arith in simp (le-ltb bit_limit count h, lt-ltb (8 * bytes) count l)

  pub count_fits : count ≤ bit_limit → (count + 7) / 8 ≤ bytes → Ok tt ≡ count_tests bytes count
  unfolding count_tests when ◌then◌
  count_fits h k = let l : count ≤ 8 * bytes = omega arith in simp (le-ltb bit_limit count h, le-ltb (8 * bytes) count l)

-- ---- 3 after 1 and 2
module _ (bytes count place : ℕ) {counted : Answer} (e : counted ≡ count_tests bytes count) where
  pub place-within : place ≤ count → counted ≡ place_tests bytes count place
  unfolding place_tests
  place-within h = rw (e, ← when_no (BeyondCount place) (le-ltb count place h), then_passed)

-- ---- what passed tests say
pub count-passes : (bytes : List ℕ) (count : ℕ) → count_tests (length bytes) count ≡ Ok tt → Passes bytes count
unfolding count_tests
count-passes bytes count e =
    let n = 8 * length bytes in
    let a = then_pass (when (above count bit_limit) TooLong) (when (above count n) BeyondBytes) e in
    record {
      short_enough = ltb-false bit_limit count (when_pass (above count bit_limit) TooLong a.0);
      in_bytes = ltb-false n count (when_pass (above count n) BeyondBytes a.1);
    }

pub place-passes : (bytes : List ℕ) (count place : ℕ) → place_tests (length bytes) count place ≡ Ok tt
    → Passes bytes count × (place ≤ count)
unfolding place_tests
place-passes bytes count place e =
    let a = then_pass (count_tests (length bytes) count) (when (above place count) (BeyondCount place)) e in
    (count-passes bytes count a.0, ltb-false count place (when_pass (above place count) (BeyondCount place) a.1))

-- both pass where nothing applies
pub passes_count : {bytes : List ℕ} {count : ℕ} → Passes bytes count → count_tests (length bytes) count ≡ Ok tt
passes_count {bytes} {count} p = sym (count_fits (length bytes) count p.short_enough (omega (arith, p.in_bytes)))

pub passes-place : {bytes : List ℕ} {count place : ℕ} → Passes bytes count → place ≤ count → place_tests (length bytes) count place ≡ Ok tt
passes-place {bytes} {count} {place} p h = sym (place-within (length bytes) count place (sym (passes_count p)) h)
