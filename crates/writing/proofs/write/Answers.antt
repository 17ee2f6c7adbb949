-- `writing::write`: each return is where the chain of tests ends. Assumes nothing.
use mathlib.Core.Path.{sym, ◌∙◌}
use native.Mathlib.Omega.{arith}
use borrow.Author.Rules.{rules}
use Rattle.format.specs.Tests.{◌then◌}
use Rattle.format.specs.Writing.{writing, write_tests}
use Rattle.format.proofs.Tests.{place-passes}
use Rattle.format.proofs.Writing.{Typed}
use Rattle.writing.proofs.Answering.{refuses, ready, writes}
use Rattle.writing.proofs.write.Goals as goal

pub returns-in_err-place_tests : goal.returns-in_err-place_tests
unfolding writing write_tests ◌then◌
returns-in_err-place_tests c = refuses _ _ _ _ c.from_residual.ensures.0 (search rules)

pub returns-in_err-record_tests : goal.returns-in_err-record_tests
unfolding writing write_tests ◌then◌
returns-in_err-record_tests c = refuses _ _ _ _ c.from_residual-in_err-record_tests.ensures.0 (search rules)

pub room_test-requires : goal.room_test-requires
room_test-requires c =
    let inside = place-passes c.args.rec.now c.args.count c.args.place (sym c.place_tests.ensures ∙ c.in_ok-place_tests.was) in
    (inside.0.short_enough, inside.1)

pub returns-in_err-room_test : goal.returns-in_err-room_test
unfolding writing write_tests ◌then◌
returns-in_err-room_test c = refuses _ _ _ _ c.from_residual-in_err-room_test.ensures.0 (search rules)

pub put_at-requires : goal.put_at-requires
put_at-requires c =
    let l = c.length_of-long.ensures in
    let k = ready _ _ _ _ _ c.length_of-long.ensures (sym c.place_tests.ensures ∙ c.in_ok-place_tests.was)
    (sym c.record_tests.ensures ∙ c.in_ok-record_tests.was) (sym c.room_test.ensures ∙ c.in_ok-room_test.was) in
    (omega (arith, k.room, k.passes.short_enough, l), omega (arith, k.room, k.passes.in_bytes, l))

pub overflow_add-result : goal.overflow_add-result
overflow_add-result c =
    let k = ready _ _ _ _ _ c.length_of-long.ensures (sym c.place_tests.ensures ∙ c.in_ok-place_tests.was)
    (sym c.record_tests.ensures ∙ c.in_ok-record_tests.was) (sym c.room_test.ensures ∙ c.in_ok-room_test.was) in
    record { fits = omega (arith, k.room, k.passes.short_enough) }

pub returns : goal.returns
returns c =
    let k = ready _ _ _ _ _ c.length_of-long.ensures (sym c.place_tests.ensures ∙ c.in_ok-place_tests.was)
    (sym c.record_tests.ensures ∙ c.in_ok-record_tests.was) (sym c.room_test.ensures ∙ c.in_ok-room_test.was) in
    let holds : Typed c.args.r = search rules in
    writes holds k _ c.put_at.ensures
