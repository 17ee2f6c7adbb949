-- `types::generator_of`: the number of the generator that the type has. Assumes nothing.
use mathlib.Core.Path.{◌≡◌, ◌∙◌}
use native.Mathlib.Omega.{arith}
use Rattle.types.proofs.Cases.{number_two, number_other, check_two, check_other}
use Rattle.types.proofs.generator_of.Goals as goal

pub returns-in-2 : goal.returns-in-2
returns-in-2 c =
    let g = c.generator24.ensures in
    let k = c.in-2.is in
    record { generator = number_two _ k g.0 g.1; degree = g.0 ∙ check_two _ k; whole_bytes = omega (arith, g.0) }

pub returns-in_default : goal.returns-in_default
returns-in_default c =
    let h = c.generator16.ensures in
    let k : c.args.kind ≡ 2 → ⊥ = λ e. omega arith in
    record { generator = number_other _ k h.0 h.1; degree = h.0 ∙ check_other _ k; whole_bytes = omega (arith, h.0) }
