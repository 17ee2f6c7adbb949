-- An entry after records of its satellite whose days lie in a row: it holds one of them, which all earlier ones gave way to and which no
-- later one superseded. Assumes nothing.
use mathlib.Core.Path.{◌≡◌, refl, sym, ap, ◌∙◌}
use mathlib.Core.Bool.{Bool, true, false, cond, true≢false}
use mathlib.Core.List.{List, [], ◌∷◌, ◌++◌}
use mathlib.Core.Logic.{◌⊎◌, inl, inr}
use Prim.Native.Nat.{◌≤◌, ◌<◌}
use native.Mathlib.Omega.{arith}
use lib.IntN.{ℤ}
use lib.Signed.{◌≤ℤ◌}
use Rattle.std.specs.List.{All}
use Rattle.std.proofs.lemmas.Int.{ints}
use Rattle.std.proofs.lemmas.List.Elements.{All-nil, All-cons, All-head, All-tail, All-append, All-same, All-weaker}
use Rattle.format.specs.declared.Record.{Record}
use Rattle.almanac.specs.declared.Entry.{Entry}
use Rattle.almanac.specs.Book.{age_of, day_of, supersedes, empty_entry, holding, takes}
use Rattle.almanac.specs.Days.{days_after, row_days}
use Rattle.almanac.specs.Offers.{InRow, Current}
use Rattle.almanac.proofs.Ranks.{place, Ahead, Behind, ahead, behind, ahead_chain, behind_ahead}
use Rattle.almanac.proofs.Ties.{won, lost, no_win}
use Rattle.almanac.proofs.Words.{superseded, superseding}

-- an entry after a record of its satellite, and after records, the latest first
abbrev pub entry_after : Entry → Record → Entry
entry_after e r = cond (takes e r) (holding r) e

unfoldable pub entry_of : List Record → Entry
entry_of [] = empty_entry
entry_of (r ∷ came) = entry_after (entry_of came) r

module _ (first : ℤ) where
  -- of records that came, the latest first, the one that is held
  record Split (came : List Record) (kept : Record) : Type 0 where
    later : List Record
    earlier : List Record
    one : came ≡ later ++ kept ∷ earlier
    inside : place first kept < row_days
    below : All (λ x. Behind first kept x) later
    above : All (λ x. Ahead first x kept) earlier

  -- what holds of each record before the held one, of this, and of each after it, holds of all
  all_came : (P : Record → Type 0) (came : List Record) (kept : Record) (s : Split came kept)
      → All P s.later → P kept → All P s.earlier → All P came
  all_came P came kept s p q t =
      All-same P came (s.later ++ kept ∷ s.earlier) s.one (All-append P s.later (kept ∷ s.earlier) p (All-cons P kept s.earlier q t))

  alone : (r : Record) → place first r < row_days → Split (r ∷ []) r
  alone r h = record {
    later = [];
    earlier = [];
    one = refl;
    inside = h;
    below = All-nil (λ x. Behind first r x);
    above = All-nil (λ x. Ahead first x r);
  }

  -- a further record is taken, and all others gave way to it
  taken : (came : List Record) (kept r : Record) → Split came kept → place first r < row_days → Ahead first kept r → Split (r ∷ came) r
  taken came kept r s h a = record {
    later = [];
    earlier = came;
    one = refl;
    inside = h;
    below = All-nil (λ x. Behind first r x);
    above =
        all_came (λ x. Ahead first x r) came kept s
        (All-weaker (λ x. Behind first kept x) (λ x. Ahead first x r) (λ x b. behind_ahead first x kept r b a) s.later s.below)
        a
        (All-weaker (λ x. Ahead first x kept) (λ x. Ahead first x r) (λ x b. ahead_chain first x kept r b a) s.earlier s.above);
  }

  -- or it is passed over
  passed_over : (came : List Record) (kept r : Record) → Split came kept → Behind first kept r → Split (r ∷ came) kept
  passed_over came kept r s b = record {
    later = r ∷ s.later;
    earlier = s.earlier;
    one = ap (λ (l : List Record). r ∷ l) s.one;
    inside = s.inside;
    below = All-cons (λ x. Behind first kept x) r s.later b s.below;
    above = s.above;
  }

  abbrev Settles : List Record → Type 0
  Settles came = (kept : Record) × (entry_of came ≡ holding kept) × Split came kept

  step : (came : List Record) (kept r : Record) → entry_of came ≡ holding kept → Split came kept → place first r < row_days
      → Settles (r ∷ came)
  unfolding entry_of
  step came kept r e s h = go (supersedes kept r) refl
    where
      after : (t : Bool) → supersedes kept r ≡ t → entry_of (r ∷ came) ≡ cond t (holding r) (holding kept)
      after t f = ap (λ (x : Entry). entry_after x r) e ∙ ap (λ (b : Bool). cond b (holding r) (holding kept)) f

      go : (t : Bool) → supersedes kept r ≡ t → Settles (r ∷ came)
      go true f = (r, after true f, taken came kept r s h (ahead first kept r s.inside h (superseded kept r f)))
      go false f = (
        kept,
        after false f,
        passed_over came kept r s (
            behind first kept r s.inside h (λ w. true≢false (sym (superseding kept r w) ∙ f))),
      )

  settle : (r : Record) (came : List Record) → InRow first (r ∷ came) → Settles (r ∷ came)
  unfolding entry_of
  settle r [] row = (r, refl, alone r (All-head (λ x. place first x < row_days) r [] row))
  settle r (q ∷ came) row =
      let s = settle q came (All-tail (λ x. place first x < row_days) r (q ∷ came) row) in
      step (q ∷ came) s.0 r s.1 s.2 (All-head (λ x. place first x < row_days) r (q ∷ came) row)

  -- ---- in the words of the request
  -- a record is earlier in the row than the one that is kept, or of its day with no smaller an age
  abbrev AtMost : Record → Record → Type 0
  AtMost kept x = (place first x < place first kept) ⊎ ((place first x ≡ place first kept) × (age_of kept ≤ℤ age_of x))

  from_behind : (kept x : Record) → Behind first kept x → AtMost kept x
  from_behind kept x (inl p) = inl p
  from_behind kept x (inr p) = inr (p.0, lost (age_of x) (age_of kept) p.1)

  from_ahead : (kept x : Record) → Ahead first x kept → AtMost kept x
  from_ahead kept x (inl p) = inl p
  from_ahead kept x (inr p) = inr (sym p.0, won (age_of kept) (age_of x) p.1)

  no_later : (kept x : Record) → AtMost kept x → place first x ≤ place first kept
  no_later kept x (inl p) = omega arith
  no_later kept x (inr p) = omega (arith, p.0)

  no_younger : (kept x : Record) → AtMost kept x → day_of x ≡ day_of kept → age_of kept ≤ℤ age_of x
  no_younger kept x (inl p) e = absurd (omega (arith, ap (days_after first) e))
  no_younger kept x (inr p) e = p.1

  no_tie : (kept x : Record) → Ahead first x kept → day_of x ≡ day_of kept → age_of x ≡ age_of kept → ⊥
  no_tie kept x (inl p) e f = omega (arith, ap (days_after first) e)
  no_tie kept x (inr p) e f = no_win (age_of kept) (age_of x) (sym f) p.1

  current : (came : List Record) (kept : Record) → Split came kept → Current first came kept
  current came kept s =
      let all : All (AtMost kept) came =
      all_came (AtMost kept) came kept s (All-weaker (λ x. Behind first kept x) (AtMost kept) (from_behind kept) s.later s.below)
      (inr (refl, grind (arith, ints))) (All-weaker (λ x. Ahead first x kept) (AtMost kept) (from_ahead kept) s.earlier s.above) in
      record {
        later = s.later;
        earlier = s.earlier;
        one = s.one;
        latest = All-weaker (AtMost kept) (λ x. place first x ≤ place first kept) (no_later kept) came all;
        youngest = All-weaker (AtMost kept) (λ x. day_of x ≡ day_of kept → age_of kept ≤ℤ age_of x) (no_younger kept) came all;
        first_come =
            All-weaker (λ x. Ahead first x kept) (λ x. day_of x ≡ day_of kept → age_of x ≡ age_of kept → ⊥) (no_tie kept) s.earlier s.above;
      }

  pub holds_current : (r : Record) (came : List Record) → InRow first (r ∷ came)
      → (kept : Record) × (entry_of (r ∷ came) ≡ holding kept) × Current first (r ∷ came) kept
  holds_current r came row = let s = settle r came row in (s.0, s.1, current (r ∷ came) s.0 s.2)
