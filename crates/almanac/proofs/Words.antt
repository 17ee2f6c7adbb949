-- A held record is superseded exactly where the words say so. Assumes nothing.
use mathlib.Core.Path.{◌≡◌, refl}
use mathlib.Core.Bool.{Bool, true, false, ◌&&◌, ◌||◌, and-eq-true_iff}
use mathlib.Core.Logic.{◌⊎◌, inl, inr}
use Prim.Native.Nat.{ℕ, ◌≤◌}
use native.Mathlib.Omega.{arith}
use lib.Dec.{eqb, leb}
use borrow.Author.Tests.{leb-true, eqb-true, le-leb, ne_eqb}
use Rattle.format.specs.declared.Record.{Record}
use Rattle.almanac.specs.Book.{age_of, day_of, wins, supersedes}
use Rattle.almanac.specs.Days.{days_after, most_later, is_later}
use Rattle.almanac.specs.Offers.{Supersedes}

or_none : (a : Bool) → a ≡ (a || false)
or_none true = refl
or_none false = refl

either : (a b : Bool) → (a || b) ≡ true → (a ≡ true) ⊎ (b ≡ true)
either true b e = inl refl
either false b e = inr e

-- the test and its words, of how many days later the new record is, and whether its age wins
module _ (days : ℕ) (w : Bool) where
  abbrev Says : Type 0
  Says = ((1 ≤ days) × (days ≤ most_later)) ⊎ ((days ≡ 0) × (w ≡ true))

  says : (is_later days || eqb days 0 && w) ≡ true → Says
  says e = pick (either (is_later days) (eqb days 0 && w) e)
    where
      pick : (is_later days ≡ true) ⊎ ((eqb days 0 && w) ≡ true) → Says
      pick (inl p) =
          let q = (and-eq-true_iff (leb 1 days) (leb days most_later)).0 p in inl (leb-true 1 days q.0, leb-true days most_later q.1)
      pick (inr p) = let q = (and-eq-true_iff (eqb days 0) w).0 p in inr (eqb-true days 0 q.0, q.1)

  tells : Says → (is_later days || eqb days 0 && w) ≡ true
  tells (inl p) = rw (le-leb 1 days p.0, le-leb days most_later p.1) refl
  tells (inr p) = rw (p.0, p.1) refl

pub superseded : (held new : Record) → supersedes held new ≡ true → Supersedes held new
unfolding supersedes
superseded held new e = says (days_after (day_of held) (day_of new)) (wins (age_of new) (age_of held)) e

pub superseding : (held new : Record) → Supersedes held new → supersedes held new ≡ true
unfolding supersedes
superseding held new e = tells (days_after (day_of held) (day_of new)) (wins (age_of new) (age_of held)) e

-- as the code asks: on equal days by the ages, else by the days
module _ (held new : Record) where
  pub by_age : days_after (day_of held) (day_of new) ≡ 0 → wins (age_of new) (age_of held) ≡ supersedes held new
  unfolding supersedes
  by_age e = rw e refl

  pub by_day : (days_after (day_of held) (day_of new) ≡ 0 → ⊥)
      → leb (days_after (day_of held) (day_of new)) most_later ≡ supersedes held new
  unfolding supersedes
  by_day n =
      rw (le-leb 1 (days_after (day_of held) (day_of new)) (omega arith), ne_eqb (days_after (day_of held) (day_of new)) 0 n)
      (or_none (leb (days_after (day_of held) (day_of new)) most_later))
