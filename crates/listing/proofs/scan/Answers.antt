-- `listing::scan`: what the scan has done when it has come to the place p. Assumes nothing.
use mathlib.Core.Path.{◌≡◌, sym, ap, ◌∙◌}
use mathlib.Core.Bool.{cond}
use Prim.Native.Nat.{ℕ}
use native.Mathlib.Omega.{arith}
use lib.Dec.{ltb}
use lib.ListN.{length, set}
use borrow.Author.Rules.{rules}
use Rattle.bits.proofs.Phases.{length-recorded}
use Rattle.standing.proofs.Here.{some_length, no_length}
use Rattle.listing.proofs.Scanning.{done_none, done_skip, done-here, done_all, done_few, done-length, stands_fit}
use Rattle.listing.proofs.scan.Goals as goal

pub loop-p-init : goal.loop-p-init
loop-p-init c = (search rules, done_none _ _ _)

pub overflow_add-found : goal.overflow_add-found
overflow_add-found c =
    let r = c.args.rec in
    let long = length-recorded r.part.phase _ _ r.passes.in_bytes in
    record { fits = omega (arith, done_few _ _ _ c.loop-p.invariant.1, long, r.passes.short_enough) }

pub overflow_add-p : goal.overflow_add-p
overflow_add-p c =
    let r = c.args.rec in
    let long = length-recorded r.part.phase _ _ r.passes.in_bytes in
    let here = some_length _ (sym c.standing.ensures ∙ c.in-Some.is) in
    record { fits = omega (arith, stands_fit _ _ _ here.0 here.1, long, r.passes.short_enough) }

pub loop-p-preserved-in-Some : goal.loop-p-preserved-in-Some
loop-p-preserved-in-Some c =
    let r = c.args.rec in
    let long = length-recorded r.part.phase _ _ r.passes.in_bytes in
    let here = some_length _ (sym c.standing.ensures ∙ c.in-Some.is) in
    let d = c.loop-p.invariant.1 in
    let same : length c.loop-p.list ≡ length c.args.list.now = done-length _ _ _ d (omega arith) in
    let noted =
    c.note.ensures ∙ ap (λ (n : ℕ). cond (ltb c.loop-p.found n) (set c.loop-p.list c.loop-p.found c.loop-p.p) c.loop-p.list) same in (
      omega (arith, stands_fit _ _ _ here.0 here.1, long),
      done-here _ c.args.list.now _ _ _ d (omega arith) here.0 here.1 noted,
    )

pub loop-p-preserved : goal.loop-p-preserved
loop-p-preserved c =
    let r = c.args.rec in
    let m = c.next_mark-p.ensures in (
      omega (arith, m.within, length-recorded r.part.phase _ _ r.passes.in_bytes),
      done_skip _ c.args.list.now _ _ c.loop-p.invariant.1 (no_length _ (sym c.standing.ensures ∙ c.in_default.is)) m,
    )

pub returns-clause-found : goal.returns-clause-found
returns-clause-found c =
    let r = c.args.rec in
    let long = length-recorded r.part.phase _ _ r.passes.in_bytes in
    (done_all _ c.args.list.now _ c.loop-p.invariant.1 (omega (arith, long))).0

pub returns-clause-left : goal.returns-clause-left
returns-clause-left c =
    let r = c.args.rec in
    let long = length-recorded r.part.phase _ _ r.passes.in_bytes in
    (done_all _ c.args.list.now _ c.loop-p.invariant.1 (omega (arith, long))).1
