-- `ranges::narrow_ranges`: the places of the list from an index on answer what all answer. Assumes nothing.
use mathlib.Core.Path.{◌≡◌, ◌∙◌}
use native.Mathlib.Omega.{arith}
use borrow.Author.Rules.{rules}
use Rattle.std.specs.Prelude.{Err}
use Rattle.ranges.proofs.Decoded.{narrow-start, narrow_inside, first-end, first-takes, first-refuses}
use Rattle.ranges.proofs.narrow_ranges.Goals as goal

pub loop-i-init : goal.loop-i-init
loop-i-init c = narrow-start c.requires c.narrow_of-i-items.ensures

pub number_range-requires : goal.number_range-requires
number_range-requires c =
    let d = c.places_of-places.ensures in
    (d, narrow_inside c.requires c.narrow_of-i-items.ensures d c.loop-i.i-index c.loop-i-test.true)

pub returns-in_err-number_range : goal.returns-in_err-number_range
returns-in_err-number_range c =
    let r : c.from_residual.result ≡ Err c.in_err-number_range.field-0.0 = search rules in
    r ∙ first-refuses _ _ _ c.loop-i.i-index c.loop-i-test.true c.number_range.ensures c.in_err-number_range.was ∙ c.loop-i.invariant

pub loop-i-preserved : goal.loop-i-preserved
loop-i-preserved c =
    first-takes _ _ _ c.loop-i.i-index c.loop-i-test.true c.number_range.ensures c.in_ok-number_range.was ∙ c.loop-i.invariant

pub returns : goal.returns
returns c = first-end _ _ _ c.loop-i.i-index (omega arith) ∙ c.loop-i.invariant
