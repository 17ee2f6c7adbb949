-- `types::raw_count`: a type without fields has raw bits in their place, and one with fields has none. Assumes nothing.
use mathlib.Core.Path.{◌≡◌, sym, ◌∙◌}
use mathlib.Core.Logic.{inl, inr}
use Prim.Native.Nat.{◌<◌}
use native.Mathlib.Omega.{arith}
use lib.ListN.{length}
use borrow.Author.Tests.{eqb-true, eqb-false}
use Rattle.format.proofs.Information.{fields-or_raw, string-filled}
use Rattle.types.proofs.Table.{no_bits, some_bits}
use Rattle.types.proofs.raw_count.Goals as goal

pub overflow_sub-result : goal.overflow_sub-result
overflow_sub-result c = omega (arith, string-filled c.args.kind, c.length_of.ensures)

pub overflow_sub-result-then-is_empty : goal.overflow_sub-result-then-is_empty
overflow_sub-result-then-is_empty c = omega (arith, string-filled c.args.kind, c.length_of.ensures, c.check_count.ensures)

pub returns-then-is_empty : goal.returns-then-is_empty
returns-then-is_empty c =
    let none : length c.places_of.result.now ≡ 0 = eqb-true _ 0 (sym c.is_empty.ensures ∙ c.if-is_empty.true) in
    omega (arith, string-filled c.args.kind, no_bits c.places_of.ensures none, c.length_of.ensures, c.check_count.ensures)

pub returns-else-is_empty : goal.returns-else-is_empty
returns-else-is_empty c =
    let some : 0 < length c.places_of.result.now =
    omega (arith, eqb-false (length c.places_of.result.now) 0 (sym c.is_empty.ensures ∙ c.if-is_empty.false)) in
    elim (fields-or_raw c.args.kind) [ inl e ↦ absurd (omega (arith, e, some_bits c.places_of.ensures some)) | inr e ↦ sym e ]
