-- `sets::read`: the set that is filled, or the refusal. Assumes nothing.
use borrow.Author.Rules.{rules}
use mathlib.Core.Path.{◌≡◌, sym, ◌∙◌}
use Rattle.std.specs.Prelude.{Err}
use Rattle.reading.proofs.Chain.{found_refused}
use Rattle.sets.proofs.Answering.{promised}
use Rattle.sets.proofs.read.Goals as goal

pub returns-in_err-fill : goal.returns-in_err-fill
returns-in_err-fill c =
    let r : c.from_residual.result ≡ Err c.in_err-fill.field-0.0 = search rules in
    promised c.args.phase c.args.count c.args.place c.type_inv.rec
    (r ∙ sym (found_refused _ (sym c.fill.ensures.answered ∙ c.in_err-fill.was)))

pub returns : goal.returns
returns c = promised c.args.phase c.args.count c.args.place c.type_inv.rec (sym (c.fill.ensures.read c.in_ok-fill.was))
