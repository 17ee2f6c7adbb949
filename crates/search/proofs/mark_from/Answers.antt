-- `search::mark_from`: no place from `from` to below p has the mark. Assumes nothing.
use native.Mathlib.Omega.{arith}
use Rattle.search.proofs.Searching.{free_none, free_more, next_here, next-end}
use Rattle.search.proofs.mark_from.Goals as goal

pub loop-p-init : goal.loop-p-init
loop-p-init c = free_none _ c.args.from

pub returns-then-field-eq-MARK : goal.returns-then-field-eq-MARK
returns-then-field-eq-MARK c =
    let a = c.args in
    next_here a.rec.phase a.rec.bytes.now a.count c.requires.1 a.from c.loop-p.p _ c.loop-p.invariant (omega arith)
    (omega (arith, c.saturating_sub-p-end.ensures)) c.field.ensures c.if-field-eq-MARK.true

pub loop-p-preserved : goal.loop-p-preserved
loop-p-preserved c =
    let a = c.args in
    free_more a.rec.phase a.rec.bytes.now a.count c.requires.1 a.from c.loop-p.p _ c.loop-p.invariant c.field.ensures
    c.if-field-eq-MARK.false

pub returns : goal.returns
returns c =
    let a = c.args in
    next-end a.rec.phase a.rec.bytes.now a.count c.requires.1 a.from c.loop-p.p c.loop-p.invariant c.requires.2
    (omega (arith, c.saturating_sub-p-end.ensures))
