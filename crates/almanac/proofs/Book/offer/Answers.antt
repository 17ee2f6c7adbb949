-- `almanac::Book::offer`: its answer and the book afterwards are those of the definitions, and the promise follows. Assumes nothing.
use Rattle.std.specs.Prelude.{Err}
use mathlib.Core.Path.{◌≡◌, sym, ◌∙◌}
use native.Mathlib.Omega.{arith}
use borrow.Author.Rules.{rules}
use Rattle.almanac.proofs.Books.{passed}
use Rattle.almanac.proofs.Answering.{refuses, takes_in, passes_over}
use Rattle.almanac.proofs.Book.offer.Goals as goal

pub returns-in_err-offer_tests : goal.returns-in_err-offer_tests
returns-in_err-offer_tests c =
    let e : c.from_residual.result ≡ Err c.in_err-offer_tests.field-0.0 = search rules in
    refuses c.args.self.now c.args.r.now (search rules) _ (sym c.offer_tests.ensures ∙ c.in_err-offer_tests.was) _ e

pub overflow_sub-i : goal.overflow_sub-i
overflow_sub-i c = omega (arith, c.from-i.ensures, (passed c.args.r.now (sym c.offer_tests.ensures ∙ c.in_ok-offer_tests.was)).least)

pub bounds-self-i : goal.bounds-self-i
bounds-self-i c = omega (arith, c.from-i.ensures, (passed c.args.r.now (sym c.offer_tests.ensures ∙ c.in_ok-offer_tests.was)).most)

pub bounds-self-i-then-taken : goal.bounds-self-i-then-taken
bounds-self-i-then-taken c =
    omega (arith, c.from-i.ensures, (passed c.args.r.now (sym c.offer_tests.ensures ∙ c.in_ok-offer_tests.was)).most)

pub returns-then-taken : goal.returns-then-taken
returns-then-taken c =
    takes_in c.args.self.now c.args.r.now (search rules) (sym c.offer_tests.ensures ∙ c.in_ok-offer_tests.was) _ c.from-i.ensures _ _
    c.takes-taken.ensures c.if-taken.true _ c.holding.ensures

pub returns-else-taken : goal.returns-else-taken
returns-else-taken c =
    passes_over c.args.self.now c.args.r.now (search rules) (sym c.offer_tests.ensures ∙ c.in_ok-offer_tests.was) _ c.from-i.ensures _ _
    c.takes-taken.ensures c.if-taken.false
