-- `ranges::all_ranges`: fields 1 to 9, then the others. Assumes nothing.
use mathlib.Core.Path.{sym, ap, ◌∙◌}
use Prim.Native.Nat.{ℕ}
use Rattle.format.specs.Records.{ranges}
use Rattle.format.specs.Types.{places_of}
use Rattle.ranges.proofs.Laws.{found_then, found_out, all_are}
use Rattle.ranges.proofs.all_ranges.Goals as goal

pub returns-then-field-ne0 : goal.returns-then-field-ne0
returns-then-field-ne0 c =
    let r = c.args.r.now in
    let others = ranges (places_of r.kind) r.numbers 10 in
    found_out others c.if-field-ne0.true ∙ ap (λ (n : ℕ). found_then n others) c.service_outside-field.ensures ∙ all_are r

pub returns : goal.returns
returns c =
    let r = c.args.r.now in
    let others = ranges (places_of r.kind) r.numbers 10 in
    c.number_ranges.ensures
    ∙ ap (λ (n : ℕ). found_then n others) (sym c.if-field-ne0.false ∙ c.service_outside-field.ensures) ∙ all_are r
