-- `types::divides`: a string is a run in its bytes, and the generator is the type's. Assumes nothing.
use native.Mathlib.Omega.{arith}
use Rattle.types.proofs.Cases.{number_two, number_other, by_generator, covered-run}
use Rattle.types.proofs.divides.Goals as goal

pub divides-requires : goal.divides-requires
divides-requires c =
    let r = covered-run _ c.requires.0 c.requires.1 in
    record { run_inside = (omega (arith, r.0), omega (arith, r.0, r.1), omega (arith, r.2)) }

pub divides-requires-in_default : goal.divides-requires-in_default
divides-requires-in_default c =
    let s = covered-run _ c.requires.0 c.requires.1 in
    record { run_inside = (omega (arith, s.0), omega (arith, s.0, s.1), omega (arith, s.2)) }

pub returns-in-2 : goal.returns-in-2
returns-in-2 c =
    let g = c.generator24.ensures in
    by_generator (number_two _ c.in-2.is g.0 g.1) c.divides.ensures

pub returns-in_default : goal.returns-in_default
returns-in_default c =
    let h = c.generator16.ensures in
    by_generator (number_other _ (λ e. omega arith) h.0 h.1) c.divides-in_default.ensures
