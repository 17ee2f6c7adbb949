-- `l1oc::l1oc_read_set`: the promise of reading a set, of the phase that the number names. Assumes nothing.
use mathlib.Core.Path.{ap, ◌∙◌}
use Prim.Native.Nat.{ℕ}
use Rattle.format.specs.Answers.{answer_code}
use Rattle.format.specs.Tests.{Answer}
use Rattle.format.proofs.Numbered.{answered_code}
use Rattle.l1oc.proofs.l1oc_read_set.Goals as goal

pub returns-clause-numbered : goal.returns-clause-numbered
returns-clause-numbered c =
    let read = c.read_into-answer.ensures in
    let code = ap (λ (a : Answer). answer_code a) read.answered ∙ answered_code _ ∙ read.promise.numbered in
    rw (← c.phase_of.ensures)
    (c.answer_code-number.ensures.0 ∙ ap (λ (x : ℕ × ℕ). x.0) code, c.answer_code-number.ensures.1 ∙ ap (λ (x : ℕ × ℕ). x.1) code)
