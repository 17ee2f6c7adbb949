-- `values::power_of`: the table's power at the field's place; none before field 10 and past the last place. Assumes nothing.
use mathlib.Core.Path.{◌≡◌, sym, ap, ◌∙◌}
use Prim.Native.Nat.{ℕ, ◌<◌}
use native.Mathlib.Omega.{arith}
use lib.ListN.{get_or-eq_default}
use Rattle.std.specs.Prelude.{Option, None}
use Rattle.std.specs.Option.{SomeIff}
use Rattle.types.specs.declared.rows.Place.{Place}
use Rattle.types.specs.Rows.{no_place}
use Rattle.values.proofs.Fields.{power_early, table_power}
use Rattle.values.proofs.power_of.Goals as goal

nothing : {x : Option ℕ} {k : ℕ} → x ≡ None → k ≡ 0 → SomeIff x (0 < k) k
nothing e z = rw e (λ l. omega (arith, z, l))

pub returns-in_err-i : goal.returns-in_err-i
returns-in_err-i c = nothing c.from_residual.ensures (power_early c.args.kind c.args.field (omega (arith, c.in_err-i.ensures)))

pub returns-in_err-place : goal.returns-in_err-place
returns-in_err-place c =
    let i = c.in_ok-i.ensures in
    let past = get_or-eq_default c.places_of.result.now no_place c.in_err-place.ensures.lookup.3 in
    nothing c.from_residual-in_err-place.ensures
    (sym (table_power c.args.field c.in_ok-i.i c.places_of.ensures i.0 i.1) ∙ ap (λ (p : Place). p.power) past)

pub returns-then-place-eq0 : goal.returns-then-place-eq0
returns-then-place-eq0 c =
    let i = c.in_ok-i.ensures in
    let here = ap (λ (p : Place). p.power) (c.in_ok-place.ensures.lookup.3.1 no_place) in
    let table = table_power c.args.field c.in_ok-i.i c.places_of.ensures i.0 i.1 in
    λ l. omega (arith, here, table, l, c.if-place-eq0.true)

pub returns-else-place-eq0 : goal.returns-else-place-eq0
returns-else-place-eq0 c =
    let i = c.in_ok-i.ensures in
    let here = ap (λ (p : Place). p.power) (c.in_ok-place.ensures.lookup.3.1 no_place) in
    let table = table_power c.args.field c.in_ok-i.i c.places_of.ensures i.0 i.1 in
    (omega (arith, here, table, c.if-place-eq0.false), here ∙ table)
