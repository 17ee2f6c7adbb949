-- `writing::service`: the fields are in their ranges, so the number holds each one's bits. Assumes nothing.
use native.Mathlib.Omega.{arith}
use Rattle.format.proofs.Writing.{ranged}
use Rattle.writing.proofs.Strings.{service-number}
use Rattle.writing.proofs.service.Goals as goal

pub overflow_add-result : goal.overflow_add-result
overflow_add-result c = omega (arith, (ranged _ c.requires).time)

pub returns : goal.returns
returns c =
    simp (
      c.from.ensures,
      c.from-2.ensures,
      c.from-3.ensures,
      c.from-4.ensures,
      c.from-5.ensures,
      c.from-6.ensures,
      c.from-7.ensures,
      c.from-8.ensures,
    ) (service-number _ c.requires)
