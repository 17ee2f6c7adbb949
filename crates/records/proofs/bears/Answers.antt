-- `records::bears`: a signed field's zero, by the table. Assumes nothing.
use mathlib.Core.Path.{sym, ap, ◌∙◌}
use mathlib.Core.Bool.{Bool, ◌&&◌}
use lib.IntN.{pos}
use lib.ListN.{get_or, get_or-eq_default}
use borrow.Author.Tests.{ltb-false}
use borrow.Author.Rules.{rules}
use Rattle.ranges.proofs.Laws.{zero_seen}
use Rattle.format.specs.Records.{is_zero}
use Rattle.types.specs.declared.rows.Place.{Place}
use Rattle.types.specs.Rows.{no_place}
use Rattle.records.proofs.Tests.{may_at}
use Rattle.records.proofs.bears.Goals as goal

pub returns-then-place : goal.returns-then-place
returns-then-place c =
    let v = get_or c.args.r.now.numbers c.args.i (pos 0) in
    let signed = sym (ap (λ (p : Place). p.signed) (c.in-Some.ensures.lookup.3.1 no_place)) ∙ c.if-place.true in
    zero_seen v (search rules) ∙ sym (ap (λ (b : Bool). b && is_zero v) signed) ∙ may_at c.args.i v c.requires

pub returns-else-place : goal.returns-else-place
returns-else-place c =
    let v = get_or c.args.r.now.numbers c.args.i (pos 0) in
    let signed = sym (ap (λ (p : Place). p.signed) (c.in-Some.ensures.lookup.3.1 no_place)) ∙ c.if-place.false in
    c.if-place.false ∙ sym (ap (λ (b : Bool). b && is_zero v) signed) ∙ may_at c.args.i v c.requires

pub returns-in-None : goal.returns-in-None
returns-in-None c =
    let v = get_or c.args.r.now.numbers c.args.i (pos 0) in
    let past = get_or-eq_default c.args.places.now no_place (ltb-false c.args.i _ (sym c.in-None.ensures.lookup.0)) in
    sym (ap (λ (p : Place). p.signed && is_zero v) past) ∙ may_at c.args.i v c.requires
