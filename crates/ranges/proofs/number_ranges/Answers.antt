-- `ranges::number_ranges`: the places from i on answer what all answer. Assumes nothing.
use mathlib.Core.Path.{◌≡◌, ◌∙◌}
use native.Mathlib.Omega.{arith}
use lib.ListN.{length}
use borrow.Author.Rules.{rules}
use Rattle.std.specs.Prelude.{Err}
use Rattle.format.specs.Types.{places}
use Rattle.ranges.proofs.Laws.{row-takes, row-refuses, ranges-end}
use Rattle.ranges.proofs.number_ranges.Goals as goal

pub returns-in_err-number_range : goal.returns-in_err-number_range
returns-in_err-number_range c =
    let long : length c.args.r.now.numbers ≡ places = search rules in
    let r : c.from_residual.result ≡ Err c.in_err-number_range.field-0.0 = search rules in
    r ∙ row-refuses c.places_of-places.ensures c.loop-i.i _ c.loop-i-test.true long c.number_range.ensures c.in_err-number_range.was
    ∙ c.loop-i.invariant

pub loop-i-preserved : goal.loop-i-preserved
loop-i-preserved c =
    let long : length c.args.r.now.numbers ≡ places = search rules in
    row-takes c.places_of-places.ensures c.loop-i.i _ c.loop-i-test.true long c.number_range.ensures c.in_ok-number_range.was
    ∙ c.loop-i.invariant

pub returns : goal.returns
returns c = ranges-end c.places_of-places.ensures c.loop-i.i _ (omega arith) ∙ c.loop-i.invariant
