-- `ranges::within`: by its test. Assumes nothing.
use Rattle.format.specs.Tests.{when}
use Rattle.ranges.proofs.within.Goals as goal

pub returns-then-contains : goal.returns-then-contains
unfolding when
returns-then-contains g c =
    let e = simp (c.new.ensures.start, c.new.ensures.end, c.new.ensures.exhausted) at c.contains.ensures.value in
    simp (← e, c.if-contains.true)

pub returns-else-contains : goal.returns-else-contains
unfolding when
returns-else-contains g c =
    let e = simp (c.new.ensures.start, c.new.ensures.end, c.new.ensures.exhausted) at c.contains.ensures.value in
    simp (← e, c.if-contains.false)
