-- `ranges::decoded_tests`: 7 of the fields that can be out of range, then 8. Assumes nothing.
use borrow.Author.Rules.{rules}
use mathlib.Core.Path.{◌≡◌, refl, sym, ◌∙◌}
use lib.IntN.{pos}
use lib.ListN.{get_or}
use mir.Facts.{to_z-of_z}
use mir.Syntax.{w64}
use Rattle.std.specs.Prelude.{Err}
use Rattle.format.specs.Tests.{◌then◌}
use Rattle.ranges.proofs.Decoded.{satellite_found, time_found, tests_are}
use Rattle.ranges.proofs.decoded_tests.Goals as goal

pub returns-in_err-within : goal.returns-in_err-within
unfolding ◌then◌
returns-in_err-within c =
    let r : c.from_residual.result ≡ Err c.in_err-within.field-0.0 = search rules in
    let two = satellite_found c.args.r.now.satellite c.within.ensures ∙ c.in_err-within.was in
    r ∙ rw (tests_are c.requires, two) refl

pub returns-in_err-within-2 : goal.returns-in_err-within-2
unfolding ◌then◌
returns-in_err-within-2 c =
    let r : c.from_residual-in_err-within-2.result ≡ Err c.in_err-within-2.field-0.0 = search rules in
    let two = satellite_found c.args.r.now.satellite c.within.ensures ∙ c.in_ok-within.was in
    let nine = time_found c.args.r.now.time c.within-2.ensures ∙ c.in_err-within-2.was in
    r ∙ rw (tests_are c.requires, two, nine) refl

pub returns-in_err-narrow_ranges : goal.returns-in_err-narrow_ranges
unfolding ◌then◌
returns-in_err-narrow_ranges c =
    let r : c.from_residual-in_err-narrow_ranges.result ≡ Err c.in_err-narrow_ranges.field-0.0 = search rules in
    let two = satellite_found c.args.r.now.satellite c.within.ensures ∙ c.in_ok-within.was in
    let nine = time_found c.args.r.now.time c.within-2.ensures ∙ c.in_ok-within-2.was in
    r ∙ rw (tests_are c.requires, two, nine, sym c.narrow_ranges.ensures ∙ c.in_err-narrow_ranges.was) refl

pub returns : goal.returns
unfolding ◌then◌
returns c =
    let numbers = c.args.r.now.numbers in
    let v = to_z-of_z {w = w64} {z = get_or numbers 0 (pos 0)} (search rules) in
    let two = satellite_found c.args.r.now.satellite c.within.ensures ∙ c.in_ok-within.was in
    let nine = time_found c.args.r.now.time c.within-2.ensures ∙ c.in_ok-within-2.was in
    rw (tests_are c.requires, two, nine, sym c.narrow_ranges.ensures ∙ c.in_ok-narrow_ranges.was) (rw v at c.orbit_test.ensures)
