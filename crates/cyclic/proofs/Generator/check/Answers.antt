-- `cyclic::Generator::check`: the register of the remainder after as many zeros as the degree. Assumes nothing.
use mathlib.Core.Path.{◌≡◌, ap, ◌∙◌}
use mathlib.Core.List.{[], ◌∷◌}
use Prim.Native.Nat.{ℕ, ◌*◌, ◌/◌}
use native.Mathlib.Omega.{arith}
use Rattle.bits.specs.Bits.{zeros, cut}
use Rattle.bits.proofs.Bytes.{unpack_part}
use Rattle.cyclic.proofs.Remainders.{remainder-lt, the_check, first-zeros}
use Rattle.cyclic.proofs.Generator.check.Goals as goal

pub bytes_after-requires : goal.bytes_after-requires
bytes_after-requires c = let s = c.args.self in remainder-lt s.number s.degree s.is_table.highest _ _ c.remainder-register.ensures

pub returns : goal.returns
returns c =
    let s = c.args.self in
    let d = s.degree in
    let e : 8 * (d / 8) ≡ d = omega arith in
    let none =
    unpack_part 0 (d / 8) (0 ∷ 0 ∷ 0 ∷ []) ∙ ap (λ (n : ℕ). cut 0 n (zeros 24)) e ∙ first-zeros d 24 (omega (arith, s.is_table.most)) in
    the_check s.number d s.is_table.highest _ _ _ _ c.remainder-register.ensures none c.bytes_after.ensures
