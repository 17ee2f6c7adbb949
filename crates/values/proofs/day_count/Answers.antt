-- `values::day_count`: the tests of N4 and NT in their order, and the count by whole numbers. Assumes nothing.
use Rattle.std.specs.Prelude.{Ok, Err, is_err}
use borrow.Author.Rules.{rules}
use Rattle.format.specs.Tests.{Answer, when, giving}
use Rattle.format.specs.declared.Refusal.{Refusal}
use Rattle.ranges.proofs.Laws.{as_read, among, signed_within, signed_passed}
use mathlib.Core.Path.{◌≡◌, sym, ap, ap₂, ◌∙◌}
use mathlib.Core.Bool.{Bool, true, false, not, cond, ◌&&◌, false≢true}
use Prim.Native.Nat.{ℕ, ◌+◌, ◌-◌, ◌*◌, ◌≤◌}
use native.Mathlib.Omega.{arith}
use lib.IntN.{ℤ, pos, nat_abs}
use lib.Dec.{T}
use lib.Signed.{le_z, non_neg}
use mir.Facts.{to_z-of_z}
use mir.Syntax.{w64}
use mir.Val.{SFits, to_z, of_z}
use Rattle.format.specs.declared.Refusal.TheVariants.{OutOfRange}
use Rattle.format.specs.Fields.{in_range}
use Rattle.format.specs.Records.{ranges}
use Rattle.format.specs.Values.{day_count, days_of}
use Rattle.format.proofs.Numbered.{days_promised}
use Rattle.values.proofs.Fields.{inside}
use Rattle.values.proofs.day_count.Goals as goal

abbrev is_interval : ℤ → Bool
is_interval n4 = le_z (pos 1) n4 && le_z n4 (pos 31)

abbrev is_day : ℤ → Bool
is_day nt = le_z (pos 1) nt && le_z nt (pos 1461)

module _ (n4 nt : ℤ) where
  -- why N4, then NT, is refused
  no-interval : (r : Refusal) → when (not (is_interval n4)) (OutOfRange 10) ≡ Err r → Err r ≡ day_count n4 nt
  unfolding day_count ranges in_range when
  no-interval r e = at (is_interval n4) (cond (is_day nt) (Ok tt) (Err (OutOfRange 11))) e
    where
      at : (b : Bool) (a : Answer) → cond {A = Answer} (not b) (Err (OutOfRange 10)) (Ok (tt {0})) ≡ Err r
          → Err r ≡ giving (cond b a (Err (OutOfRange 10))) (days_of n4 nt)
      at true a e = absurd (false≢true (ap is_err e))
      at false a e = cc

  no-day : (r : Refusal) → is_interval n4 ≡ true → when (not (is_day nt)) (OutOfRange 11) ≡ Err r → Err r ≡ day_count n4 nt
  unfolding day_count ranges in_range when
  no-day r e f = rw e (at (is_day nt) f)
    where
      at : (b : Bool) → cond {A = Answer} (not b) (Err (OutOfRange 11)) (Ok (tt {0})) ≡ Err r
          → Err r ≡ giving (cond {A = Answer} b (Ok (tt {0})) (Err (OutOfRange 11))) (days_of n4 nt)
      at true e = absurd (false≢true (ap is_err e))
      at false e = cc

  counted : is_interval n4 ≡ true → is_day nt ≡ true → Ok (1461 * (nat_abs n4 - 1) + nat_abs nt - 1) ≡ day_count n4 nt
  unfolding day_count ranges in_range
  counted e f = rw (e, f)

abbrev cast : ℤ → ℕ
cast z = nat_abs (to_z w64 (of_z w64 z))

record Cast (z : ℤ) (b : ℕ) : Type 0 where
  same : cast z ≡ nat_abs z
  plus : T (non_neg (to_z w64 (of_z w64 z)))
  least : 1 ≤ cast z
  most : cast z ≤ b

cast-inside : (z : ℤ) (b : ℕ) → SFits w64 z → (le_z (pos 1) z && le_z z (pos b)) ≡ true → Cast z b
cast-inside z b f e =
    let t = inside 1 b z e in
    let u = to_z-of_z {w = w64} f in
    record { same = ap nat_abs u; plus = rw (u, t.0) tt; least = rw u t.1; most = rw u t.2 }

-- what the tests let pass, as the machine reads it back
passed : (z : ℤ) (k field : ℕ) → SFits w64 z → {x : Answer} → x ≡ when (not (among (pos 1) (as_read z) (pos k))) (OutOfRange field)
    → x ≡ Ok tt → ((le_z (pos 1) z && le_z z (pos k)) ≡ true) × Cast z k
passed z k field s e h = let p = signed_passed field (pos 1) (pos k) s e h in (p, cast-inside z k s p)

pub returns-in_err-within : goal.returns-in_err-within
returns-in_err-within c =
    let t = signed_within 10 (pos 1) (pos 31) c.ranges.n4 c.within.ensures in
    let r : c.from_residual.result ≡ Err c.in_err-within.field-0.0 = search rules in
    days_promised (r ∙ no-interval c.args.n4 c.args.nt _ (sym t ∙ c.in_err-within.was))

pub returns-in_err-within-2 : goal.returns-in_err-within-2
returns-in_err-within-2 c =
    let n = passed c.args.n4 31 10 c.ranges.n4 c.within.ensures c.in_ok-within.was in
    let t = signed_within 11 (pos 1) (pos 1461) c.ranges.nt c.within-2.ensures in
    let r : c.from_residual-in_err-within-2.result ≡ Err c.in_err-within-2.field-0.0 = search rules in
    days_promised (r ∙ no-day c.args.n4 c.args.nt _ n.0 (sym t ∙ c.in_err-within-2.was))

pub overflow_cast-interval : goal.overflow_cast-interval
overflow_cast-interval c =
    let n = passed c.args.n4 31 10 c.ranges.n4 c.within.ensures c.in_ok-within.was in
    (n.1.plus, record { fits = omega (arith, n.1.most) })

pub overflow_cast-day : goal.overflow_cast-day
overflow_cast-day c =
    let d = passed c.args.nt 1461 11 c.ranges.nt c.within-2.ensures c.in_ok-within-2.was in
    (d.1.plus, record { fits = omega (arith, d.1.most) })

pub overflow_sub-result : goal.overflow_sub-result
overflow_sub-result c =
    let n = passed c.args.n4 31 10 c.ranges.n4 c.within.ensures c.in_ok-within.was in
    n.1.least

pub overflow_mul-result : goal.overflow_mul-result
overflow_mul-result c =
    let n = passed c.args.n4 31 10 c.ranges.n4 c.within.ensures c.in_ok-within.was in
    record { fits = omega (arith, n.1.most) }

pub overflow_add-result : goal.overflow_add-result
overflow_add-result c =
    let n = passed c.args.n4 31 10 c.ranges.n4 c.within.ensures c.in_ok-within.was in
    let d = passed c.args.nt 1461 11 c.ranges.nt c.within-2.ensures c.in_ok-within-2.was in
    record { fits = omega (arith, n.1.most, d.1.most) }

pub overflow_sub-result-2 : goal.overflow_sub-result-2
overflow_sub-result-2 c =
    let d = passed c.args.nt 1461 11 c.ranges.nt c.within-2.ensures c.in_ok-within-2.was in
    omega (arith, d.1.least)

pub returns : goal.returns
returns c =
    let n = passed c.args.n4 31 10 c.ranges.n4 c.within.ensures c.in_ok-within.was in
    let d = passed c.args.nt 1461 11 c.ranges.nt c.within-2.ensures c.in_ok-within-2.was in
    days_promised
    (ap₂ (λ (a b : ℕ). Ok (1461 * (a - 1) + b - 1)) n.1.same d.1.same
    ∙ counted c.args.n4 c.args.nt n.0 d.0)
