-- `reading::read`: the record that is filled, or the refusal. Assumes nothing.
use borrow.Author.Rules.{rules}
use mathlib.Core.Path.{◌≡◌, sym, ◌∙◌}
use Prim.Native.Nat.{ℕ, ◌<◌}
use lib.ListN.{get_or}
use Rattle.std.specs.Prelude.{Err}
use Rattle.reading.proofs.Chain.{found_refused, promised}
use Rattle.reading.proofs.read.Goals as goal

pub returns-in_err-fill : goal.returns-in_err-fill
returns-in_err-fill c =
    let below : (i : ℕ) → get_or c.args.rec.now i 0 < 256 = λ i. (c.type_inv.rec i).fits in
    let r : c.from_residual.result ≡ Err c.in_err-fill.field-0.0 = search rules in
    promised _ _ _ _ below (r ∙ sym (found_refused _ (sym c.fill.ensures.answered ∙ c.in_err-fill.was)))

pub returns : goal.returns
returns c =
    let below : (i : ℕ) → get_or c.args.rec.now i 0 < 256 = λ i. (c.type_inv.rec i).fits in
    promised _ _ _ _ below (sym (c.fill.ensures.read c.in_ok-fill.was))
