-- `almanac::supersedes`: on equal days by the ages, else by the days. Assumes nothing.
use mathlib.Core.Path.{◌≡◌, sym, ap, ap₂, ◌∙◌}
use borrow.Author.Rules.{rules}
use Prim.Native.Nat.{ℕ}
use lib.Dec.{leb}
use lib.IntN.{ℤ}
use mir.Syntax.{w64}
use mir.Val.{of_z, to_z, SFits}
use Rattle.std.proofs.lemmas.Int.{to_z-of_z}
use Rattle.almanac.specs.Book.{age_of, day_of, wins}
use Rattle.almanac.specs.Days.{days_after, most_later}
use Rattle.almanac.proofs.Words.{by_age, by_day}
use Rattle.almanac.proofs.supersedes.Goals as goal

-- what is told of numbers as the machine has them, of a held record's and a new one's
told : {A : Type 0} (f : ℤ → ℤ → A) (x y : ℤ) → SFits w64 x → SFits w64 y → f (to_z w64 (of_z w64 x)) (to_z w64 (of_z w64 y)) ≡ f x y
told f x y p q = ap₂ f (to_z-of_z w64 x p) (to_z-of_z w64 y q)

pub returns-then-days-eq0 : goal.returns-then-days-eq0
returns-then-days-eq0 c =
    let h = c.args.held.now in
    let n = c.args.new.now in
    let days = c.days_after-days.ensures ∙ told days_after (day_of h) (day_of n) (search rules) (search rules) in
    told wins (age_of n) (age_of h) (search rules) (search rules) ∙ by_age h n (sym days ∙ c.if-days-eq0.true)

pub returns-else-days-eq0 : goal.returns-else-days-eq0
returns-else-days-eq0 c =
    let h = c.args.held.now in
    let n = c.args.new.now in
    let days = c.days_after-days.ensures ∙ told days_after (day_of h) (day_of n) (search rules) (search rules) in
    ap (λ (d : ℕ). leb d most_later) days ∙ by_day h n (λ z. c.if-days-eq0.false (days ∙ z))
