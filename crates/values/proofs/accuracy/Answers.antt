-- `values::accuracy`: the table at the factor plus 15, and 0 past its end. Assumes nothing.
use Rattle.std.specs.Prelude.{Ok, Err, is_err}
use borrow.Author.Rules.{rules}
use mathlib.Core.Path.{◌≡◌, refl, sym, ap, ◌∙◌}
use mathlib.Core.Bool.{Bool, true, false, cond, not, ◌&&◌, and-eq-true_iff, false≢true}
use Prim.Native.Nat.{ℕ, suc, ◌-◌, ◌≤◌, ◌<◌}
use native.Mathlib.Nat.{lt_of_lt_of_le}
use native.Mathlib.Omega.{arith}
use lib.Dec.{ltb, leb, lit≤}
use lib.IntN.{ℤ, pos, negsuc, nat_abs, sub_ℕ, ◌+ℤ◌}
use lib.ListN.{get_or}
use lib.Signed.{le_z}
use mir.Facts.{to_z-of_z}
use mir.Syntax.{w64}
use mir.Val.{SFits, to_z, of_z}
use borrow.Author.Tests.{leb-true, le-ltb}
use Rattle.format.specs.Tests.{Answer, when, giving}
use Rattle.format.specs.declared.Refusal.{Refusal}
use Rattle.ranges.proofs.Laws.{as_read, among, signed_within, signed_passed}
use Rattle.format.specs.declared.Refusal.TheVariants.{OutOfRange}
use Rattle.format.specs.Fields.{in_range}
use Rattle.format.specs.Records.{ranges}
use Rattle.format.specs.Values.{centimetres, centimetres_of, above_least, accuracy}
use Rattle.format.proofs.Numbered.{accuracy_promised}
use Rattle.values.proofs.accuracy.Goals as goal

abbrev is_factor : ℤ → Bool
is_factor f = le_z (negsuc 14) f && le_z f (pos 15)

no-factor : (f : ℤ) (r : Refusal) → when (not (is_factor f)) (OutOfRange 19) ≡ Err r → Err r ≡ accuracy f
unfolding accuracy ranges in_range when
no-factor f r e = at (is_factor f) e
  where
    at : (b : Bool) → cond {A = Answer} (not b) (Err (OutOfRange 19)) (Ok (tt {0})) ≡ Err r
        → Err r ≡ giving (cond {A = Answer} b (Ok (tt {0})) (Err (OutOfRange 19))) (centimetres_of f)
    at true e = absurd (false≢true (ap is_err e))
    at false e = cc

in_table : (f : ℤ) → is_factor f ≡ true → Ok (get_or centimetres (above_least f) 0) ≡ accuracy f
unfolding accuracy ranges in_range
in_table f e = rw e

sum_is : (f : ℤ) → is_factor f ≡ true → (f +ℤ pos 15 ≡ pos (above_least f)) × (above_least f < 31)
sum_is (pos m) e = let h : m ≤ 15 = leb-true m 15 e in (refl, omega arith)
sum_is (negsuc m) e =
    let h : m ≤ 14 = leb-true m 14 ((and-eq-true_iff (leb m 14) _).0 e).0 in
    let t : ltb 15 (suc m) ≡ false = le-ltb 15 (suc m) (omega arith) in
    let d : sub_ℕ 15 (suc m) ≡ pos (15 - suc m) = ap (λ (b : Bool). cond b (negsuc (suc m - 16)) (pos (15 - suc m))) t in
    (d ∙ ap (λ (z : ℤ). pos (nat_abs z)) (sym d), rw d (omega arith))

-- a factor that the test lets pass, and its sum with 15 as the machine reads it back
record Passes (f : ℤ) : Type 0 where
  among : is_factor f ≡ true
  few : above_least f < 31
  fits : SFits w64 (to_z w64 (of_z w64 f) +ℤ pos 15)
  back : to_z w64 (of_z w64 (to_z w64 (of_z w64 f) +ℤ pos 15)) ≡ pos (above_least f)

passes : (f : ℤ) → SFits w64 f → {x : Answer} → x ≡ when (not (among (negsuc 14) (as_read f) (pos 15))) (OutOfRange 19) → x ≡ Ok tt
    → Passes f
passes f s e h =
    let among : is_factor f ≡ true = signed_passed 19 (negsuc 14) (pos 15) s e h in
    let sum : to_z w64 (of_z w64 f) +ℤ pos 15 ≡ pos (above_least f) = rw (to_z-of_z {w = w64} s) (sum_is f among).0 in
    let few : above_least f < 31 = (sum_is f among).1 in
    let fits : SFits w64 (to_z w64 (of_z w64 f) +ℤ pos 15) = rw sum (record { sfits = lt_of_lt_of_le few (lit≤ tt) }) in
    record { among = among; few = few; fits = fits; back = to_z-of_z {w = w64} fits ∙ sum }

pub returns-in_err-within : goal.returns-in_err-within
returns-in_err-within c =
    let t = signed_within 19 (negsuc 14) (pos 15) c.ranges.factor c.within.ensures in
    let r : c.from_residual.result ≡ Err c.in_err-within.field-0.0 = search rules in
    accuracy_promised (r ∙ no-factor c.args.factor _ (sym t ∙ c.in_err-within.was))

pub overflow_add-i : goal.overflow_add-i
overflow_add-i c =
    let p = passes _ c.ranges.factor c.within.ensures c.in_ok-within.was in
    p.fits

pub overflow_cast-i : goal.overflow_cast-i
overflow_cast-i c =
    let p = passes _ c.ranges.factor c.within.ensures c.in_ok-within.was in
    rw p.back (tt, record { fits = lt_of_lt_of_le p.few (lit≤ tt) })

pub returns-then-i-eq30 : goal.returns-then-i-eq30
returns-then-i-eq30 c =
    let p = passes _ c.ranges.factor c.within.ensures c.in_ok-within.was in
    let e : above_least c.args.factor ≡ 30 = sym (ap nat_abs p.back) ∙ c.if-i-eq30.true in
    accuracy_promised (ap (λ (n : ℕ). Ok (get_or centimetres n 0)) (sym e) ∙ in_table c.args.factor p.among)

pub offset_bounds-i : goal.offset_bounds-i
offset_bounds-i c =
    let p = passes _ c.ranges.factor c.within.ensures c.in_ok-within.was in
    record { fits = omega (arith, ap nat_abs p.back, p.few) }

pub bounds-i : goal.bounds-i
bounds-i c =
    let p = passes _ c.ranges.factor c.within.ensures c.in_ok-within.was in
    let n = c.if-i-eq30.false in omega (arith, ap nat_abs p.back, p.few)

pub returns : goal.returns
returns c =
    let p = passes _ c.ranges.factor c.within.ensures c.in_ok-within.was in
    accuracy_promised (ap (λ (n : ℕ). Ok (get_or centimetres n 0)) (ap nat_abs p.back) ∙ in_table c.args.factor p.among)
