-- `ranges::service_outside`: each limit is a field of the test. Assumes nothing.
use mathlib.Core.Path.{refl}
use Rattle.format.specs.Records.{first_outside}
use Rattle.ranges.proofs.Laws.{outside_found}
use Rattle.ranges.proofs.service_outside.Goals as goal

pub returns : goal.returns
unfolding first_outside
returns c =
    outside_found _ _ _ _ _ _ _ _ c.outside.ensures
    (outside_found _ _ _ _ _ _ _ _ c.outside-found-8.ensures
    (outside_found _ _ _ _ _ _ _ _ c.outside-found-7.ensures
    (outside_found _ _ _ _ _ _ _ _ c.outside-found-6.ensures
    (outside_found _ _ _ _ _ _ _ _ c.outside-found-5.ensures
    (outside_found _ _ _ _ _ _ _ _ c.outside-found-4.ensures
    (outside_found _ _ _ _ _ _ _ _ c.outside-found-3.ensures
    (outside_found _ _ _ _ _ _ _ _ c.outside-found-2.ensures
    (outside_found _ _ _ _ _ _ _ _ c.outside-found.ensures refl))))))))
