-- `sets::fill`: each return is where the chain of the three strings' answers and the set's tests ends. Assumes nothing.
use borrow.Author.Rules.{rules}
use mathlib.Core.Path.{◌≡◌, sym, ap, ◌∙◌}
use Prim.Native.Nat.{ℕ, ◌+◌}
use native.Mathlib.Omega.{arith}
use Rattle.std.specs.Prelude.{Err}
use Rattle.reading.proofs.Chain.{refused, tested, found_refused, found_read}
use Rattle.sets.proofs.Answering.{near, first-refuses, second-refuses, third-refuses, set-tested}
use Rattle.sets.proofs.fill.Goals as goal

pub returns-in_err-read_into : goal.returns-in_err-read_into
returns-in_err-read_into c =
    let r : c.from_residual.result ≡ Err c.in_err-read_into.field-0.0 = search rules in
    refused r (first-refuses _ _ _ _ (found_refused _ (sym c.read_into.ensures.answered ∙ c.in_err-read_into.was)))

pub overflow_add-second_place : goal.overflow_add-second_place
overflow_add-second_place c =
    let e = found_read _ _ (sym c.read_into.ensures.answered ∙ c.in_ok-read_into.was) c.read_into.ensures.content in
    record { fits = omega (arith, near _ _ _ c.args.place c.args.place e, c.length_of.ensures) }

pub returns-in_err-read_into-2 : goal.returns-in_err-read_into-2
returns-in_err-read_into-2 c =
    let r : c.from_residual-in_err-read_into-2.result ≡ Err c.in_err-read_into-2.field-0.0 = search rules in
    let e = found_read _ _ (sym c.read_into.ensures.answered ∙ c.in_ok-read_into.was) c.read_into.ensures.content in
    let f = ap (λ (n : ℕ). c.args.place + n) c.length_of.ensures in
    refused r (second-refuses _ _ _ _ e f (found_refused _ (sym c.read_into-2.ensures.answered ∙ c.in_err-read_into-2.was)))

pub overflow_add-third_place : goal.overflow_add-third_place
overflow_add-third_place c =
    let g = found_read _ _ (sym c.read_into-2.ensures.answered ∙ c.in_ok-read_into-2.was) c.read_into-2.ensures.content in
    record { fits = omega (arith, near _ _ _ c.args.place (c.args.place + c.length_of.result) g, c.length_of-2.ensures) }

pub returns-in_err-read_into-3 : goal.returns-in_err-read_into-3
returns-in_err-read_into-3 c =
    let r : c.from_residual-in_err-read_into-3.result ≡ Err c.in_err-read_into-3.field-0.0 = search rules in
    let e = found_read _ _ (sym c.read_into.ensures.answered ∙ c.in_ok-read_into.was) c.read_into.ensures.content in
    let f = ap (λ (n : ℕ). c.args.place + n) c.length_of.ensures in
    let g = found_read _ _ (sym c.read_into-2.ensures.answered ∙ c.in_ok-read_into-2.was) c.read_into-2.ensures.content in
    let h = ap (λ (n : ℕ). c.args.place + c.length_of.result + n) c.length_of-2.ensures in
    refused r (third-refuses _ _ _ _ e f g h (found_refused _ (sym c.read_into-3.ensures.answered ∙ c.in_err-read_into-3.was)))

pub returns : goal.returns
returns c =
    let e = found_read _ _ (sym c.read_into.ensures.answered ∙ c.in_ok-read_into.was) c.read_into.ensures.content in
    let f = ap (λ (n : ℕ). c.args.place + n) c.length_of.ensures in
    let g = found_read _ _ (sym c.read_into-2.ensures.answered ∙ c.in_ok-read_into-2.was) c.read_into-2.ensures.content in
    let h = ap (λ (n : ℕ). c.args.place + c.length_of.result + n) c.length_of-2.ensures in
    let k = found_read _ _ (sym c.read_into-3.ensures.answered ∙ c.in_ok-read_into-3.was) c.read_into-3.ensures.content in
    tested _ _ (set-tested _ _ _ _ e f g h k c.set_tests.ensures)
