-- `ranges::number_range`: the range of the table is that of the field. Assumes nothing.
use borrow.Author.Rules.{rules}
use mathlib.Core.Path.{ap, ◌∙◌}
use mathlib.Core.Bool.{Bool, not}
use Prim.Native.Nat.{◌+◌}
use Rattle.format.specs.declared.Refusal.TheVariants.{OutOfRange}
use Rattle.format.specs.Tests.{when}
use Rattle.ranges.proofs.Laws.{in_range_lem}
use Rattle.ranges.proofs.number_range.Goals as goal

pub returns : goal.returns
returns c =
    let a = c.args in
    c.within.ensures
    ∙ ap (λ (b : Bool). when (not b) (OutOfRange (10 + a.i)))
    (in_range_lem c.requires.0 a.i a.r.now.numbers c.requires.1 (search rules) (search rules) (search rules))
