-- In a row of 731 days, superseding is an order: by the place of the day in the row, then by the age. Assumes nothing.
use mathlib.Core.Path.{◌≡◌, refl, sym, ◌∙◌}
use mathlib.Core.Bool.{Bool, true, false}
use mathlib.Core.Logic.{◌⊎◌, inl, inr}
use Prim.Native.Nat.{ℕ, ◌<◌}
use native.Mathlib.Decide.{dec_lt}
use native.Mathlib.Omega.{arith}
use lib.IntN.{ℤ}
use Rattle.format.specs.declared.Record.{Record}
use Rattle.almanac.specs.Book.{age_of, day_of, wins}
use Rattle.almanac.specs.Days.{days_after, row_days}
use Rattle.almanac.specs.Offers.{Supersedes}
use Rattle.almanac.proofs.Rows.{apart}
use Rattle.almanac.proofs.Ties.{wins_chain, wins_across}

module _ (first : ℤ) where
  -- the place of a record's day in the row that begins with `first`
  abbrev pub place : Record → ℕ
  place r = days_after first (day_of r)

  -- a new record n is ahead of a held one, h, or is not
  abbrev pub Ahead : Record → Record → Type 0
  Ahead h n = (place h < place n) ⊎ ((place n ≡ place h) × (wins (age_of n) (age_of h) ≡ true))

  abbrev pub Behind : Record → Record → Type 0
  Behind h n = (place n < place h) ⊎ ((place n ≡ place h) × (wins (age_of n) (age_of h) ≡ false))

  pub ahead_chain : (a b c : Record) → Ahead a b → Ahead b c → Ahead a c
  ahead_chain a b c (inl p) (inl q) = inl (omega arith)
  ahead_chain a b c (inl p) (inr q) = inl (omega (arith, q.0))
  ahead_chain a b c (inr p) (inl q) = inl (omega (arith, p.0))
  ahead_chain a b c (inr p) (inr q) = inr (q.0 ∙ p.0, wins_chain (age_of c) (age_of b) (age_of a) q.1 p.1)

  -- a record that stays behind a held one falls behind what is ahead of that
  pub behind_ahead : (a b c : Record) → Behind b a → Ahead b c → Ahead a c
  behind_ahead a b c (inl p) (inl q) = inl (omega arith)
  behind_ahead a b c (inl p) (inr q) = inl (omega (arith, q.0))
  behind_ahead a b c (inr p) (inl q) = inl (omega (arith, p.0))
  behind_ahead a b c (inr p) (inr q) = inr (q.0 ∙ sym p.0, wins_across (age_of c) (age_of b) (age_of a) q.1 p.1)

  module _ (h n : Record) (in_h : place h < row_days) (in_n : place n < row_days) where
    pub ahead : Supersedes h n → Ahead h n
    ahead (inl p) = inl (omega (arith, apart first (day_of h) (day_of n), p.0, p.1))
    ahead (inr p) = inr (omega (arith, apart first (day_of h) (day_of n), p.0), p.1)

    pub behind : (Supersedes h n → ⊥) → Behind h n
    behind none = pick (dec_lt (place n) (place h)) (dec_lt (place h) (place n))
      where
        level : place n ≡ place h → (t : Bool) → wins (age_of n) (age_of h) ≡ t → Behind h n
        level p true w = absurd (none (inr (omega (arith, apart first (day_of h) (day_of n)), w)))
        level p false w = inr (p, w)

        pick : Dec (place n < place h) → Dec (place h < place n) → Behind h n
        pick (yes p) q = inl p
        pick (no p) (yes q) =
            let d = apart first (day_of h) (day_of n) in
            absurd (none (inl (omega (arith, d), omega (arith, d))))
        pick (no p) (no q) = level (omega arith) (wins (age_of n) (age_of h)) refl
