-- `sets::write`: each return is where the chain of tests ends, and the three strings are put one after another. Assumes nothing.
use borrow.Author.Rules.{rules}
use mathlib.Core.Path.{◌≡◌, sym, ◌∙◌}
use native.Mathlib.Omega.{arith}
use lib.ListN.{length}
use Rattle.format.specs.declared.Set.{Set}
use Rattle.format.specs.Sets.{set_writing, set_write_tests}
use Rattle.format.specs.Tests.{◌then◌}
use Rattle.format.proofs.Sets.{TypedSet, lengths}
use Rattle.format.proofs.Tests.{place-passes}
use Rattle.format.proofs.Writing.{Typed}
use Rattle.sets.proofs.Answering.{refuses, ready, writes, length-first, length-second, all_put}
use Rattle.sets.proofs.write.Goals as goal

typed : (s : Set) → Typed s.first → Typed s.second → Typed s.third → TypedSet s
typed s a b c = record { first = a; second = b; third = c }

pub returns-in_err-place_tests : goal.returns-in_err-place_tests
unfolding set_writing set_write_tests ◌then◌
returns-in_err-place_tests c = refuses _ _ _ _ c.from_residual.ensures.0 (search rules)

pub returns-in_err-member_tests : goal.returns-in_err-member_tests
unfolding set_writing set_write_tests ◌then◌
returns-in_err-member_tests c = refuses _ _ _ _ c.from_residual-in_err-member_tests.ensures.0 (search rules)

pub returns-in_err-set_tests : goal.returns-in_err-set_tests
unfolding set_writing set_write_tests ◌then◌
returns-in_err-set_tests c = refuses _ _ _ _ c.from_residual-in_err-set_tests.ensures.0 (search rules)

pub room_test-requires : goal.room_test-requires
room_test-requires c =
    let inside = place-passes c.args.rec.now c.args.count c.args.place (sym c.place_tests.ensures ∙ c.in_ok-place_tests.was) in
    (inside.0.short_enough, inside.1)

pub returns-in_err-room_test : goal.returns-in_err-room_test
unfolding set_writing set_write_tests ◌then◌
returns-in_err-room_test c = refuses _ _ _ _ c.from_residual-in_err-room_test.ensures.0 (search rules)

pub overflow_add-second : goal.overflow_add-second
overflow_add-second c =
    let k = ready _ _ _ _ (sym c.place_tests.ensures ∙ c.in_ok-place_tests.was) (sym c.member_tests.ensures ∙ c.in_ok-member_tests.was)
    (sym c.set_tests.ensures ∙ c.in_ok-set_tests.was) (sym c.room_test.ensures ∙ c.in_ok-room_test.was) in
    record { fits = omega (arith, k.fits, k.passes.short_enough) }

pub overflow_add-third : goal.overflow_add-third
overflow_add-third c =
    let k = ready _ _ _ _ (sym c.place_tests.ensures ∙ c.in_ok-place_tests.was) (sym c.member_tests.ensures ∙ c.in_ok-member_tests.was)
    (sym c.set_tests.ensures ∙ c.in_ok-set_tests.was) (sym c.room_test.ensures ∙ c.in_ok-room_test.was) in
    record { fits = omega (arith, k.fits, k.passes.short_enough) }

pub invariant_of-put_at : goal.invariant_of-put_at
invariant_of-put_at c =
    let k = ready _ _ _ _ (sym c.place_tests.ensures ∙ c.in_ok-place_tests.was) (sym c.member_tests.ensures ∙ c.in_ok-member_tests.was)
    (sym c.set_tests.ensures ∙ c.in_ok-set_tests.was) (sym c.room_test.ensures ∙ c.in_ok-room_test.was) in
    record { passes = k.first }

pub put_at-requires : goal.put_at-requires
put_at-requires c =
    let k = ready _ _ _ _ (sym c.place_tests.ensures ∙ c.in_ok-place_tests.was) (sym c.member_tests.ensures ∙ c.in_ok-member_tests.was)
    (sym c.set_tests.ensures ∙ c.in_ok-set_tests.was) (sym c.room_test.ensures ∙ c.in_ok-room_test.was) in
    let l = (lengths c.args.s k.together).0 in
    (omega (arith, k.fits, k.passes.short_enough, l), omega (arith, k.room, l))

pub invariant_of-put_at-2 : goal.invariant_of-put_at-2
invariant_of-put_at-2 c =
    let k = ready _ _ _ _ (sym c.place_tests.ensures ∙ c.in_ok-place_tests.was) (sym c.member_tests.ensures ∙ c.in_ok-member_tests.was)
    (sym c.set_tests.ensures ∙ c.in_ok-set_tests.was) (sym c.room_test.ensures ∙ c.in_ok-room_test.was) in
    record { passes = k.second }

pub put_at-requires-2 : goal.put_at-requires-2
put_at-requires-2 c =
    let k = ready _ _ _ _ (sym c.place_tests.ensures ∙ c.in_ok-place_tests.was) (sym c.member_tests.ensures ∙ c.in_ok-member_tests.was)
    (sym c.set_tests.ensures ∙ c.in_ok-set_tests.was) (sym c.room_test.ensures ∙ c.in_ok-room_test.was) in
    let l = (lengths c.args.s k.together).1 in
    let holds = typed c.args.s (search rules) (search rules) (search rules) in
    let same = length-first c.args.rec.now c.args.place c.args.s holds k.together k.room c.put_at.ensures in
    (omega (arith, k.fits, k.passes.short_enough, l), omega (arith, k.room, same, l))

pub invariant_of-put_at-3 : goal.invariant_of-put_at-3
invariant_of-put_at-3 c =
    let k = ready _ _ _ _ (sym c.place_tests.ensures ∙ c.in_ok-place_tests.was) (sym c.member_tests.ensures ∙ c.in_ok-member_tests.was)
    (sym c.set_tests.ensures ∙ c.in_ok-set_tests.was) (sym c.room_test.ensures ∙ c.in_ok-room_test.was) in
    record { passes = k.third }

pub put_at-requires-3 : goal.put_at-requires-3
put_at-requires-3 c =
    let k = ready _ _ _ _ (sym c.place_tests.ensures ∙ c.in_ok-place_tests.was) (sym c.member_tests.ensures ∙ c.in_ok-member_tests.was)
    (sym c.set_tests.ensures ∙ c.in_ok-set_tests.was) (sym c.room_test.ensures ∙ c.in_ok-room_test.was) in
    let l = (lengths c.args.s k.together).2 in
    let holds = typed c.args.s (search rules) (search rules) (search rules) in
    let same : length c.put_at-2.new.rec ≡ length c.args.rec.now =
    length-second c.args.rec.now c.args.place c.args.s holds k.together k.room c.put_at.ensures c.put_at-2.ensures in
    (omega (arith, k.fits, k.passes.short_enough, l), omega (arith, k.room, same, l))

pub overflow_add-result : goal.overflow_add-result
overflow_add-result c =
    let k = ready _ _ _ _ (sym c.place_tests.ensures ∙ c.in_ok-place_tests.was) (sym c.member_tests.ensures ∙ c.in_ok-member_tests.was)
    (sym c.set_tests.ensures ∙ c.in_ok-set_tests.was) (sym c.room_test.ensures ∙ c.in_ok-room_test.was) in
    record { fits = omega (arith, k.fits, k.passes.short_enough) }

pub returns : goal.returns
returns c =
    let k = ready _ _ _ _ (sym c.place_tests.ensures ∙ c.in_ok-place_tests.was) (sym c.member_tests.ensures ∙ c.in_ok-member_tests.was)
    (sym c.set_tests.ensures ∙ c.in_ok-set_tests.was) (sym c.room_test.ensures ∙ c.in_ok-room_test.was) in
    let holds = typed c.args.s (search rules) (search rules) (search rules) in
    writes holds k _
    (all_put c.args.rec.now c.args.place c.args.s holds k.together k.room c.put_at.ensures c.put_at-2.ensures c.put_at-3.ensures)
