-- `records::stray`: the mark's bits that are left answer what all answer. Assumes nothing.
use mathlib.Core.Path.{◌≡◌, sym, ap, ◌∙◌}
use mathlib.Core.Bool.{Bool, false, not, ◌&&◌}
use native.Mathlib.Omega.{arith}
use lib.IntN.{pos}
use lib.ListN.{get_or}
use Rattle.bits.specs.Bits.{odd}
use Rattle.format.specs.Fields.{absent}
use Rattle.format.specs.Records.{may_bear}
use Rattle.format.specs.Types.{mark_width, places_of}
use Rattle.records.proofs.Tests.{mark_set, mark_clear, stray-end, stray-next, stray-found}
use Rattle.records.proofs.stray.Goals as goal
use Rattle.records.proofs.stray.Goals.{else-marks-eq1-via-then-marks-eq1+else-not-bears, else-marks-eq1-via-else-marks-eq1}

pub returns-then-not-bears : goal.returns-then-not-bears
returns-then-not-bears c =
    let strays = mark_set c.loop-i.marks _ c.if-marks-eq1.true ∙ ap not (sym c.bears.ensures ∙ c.if-not-bears.true) in
    stray-found _ _ mark_width _ _ c.loop-i-test.true strays ∙ c.loop-i.invariant

pub loop-i-preserved : goal.loop-i-preserved
loop-i-preserved c =
    let may : Bool = may_bear (get_or (places_of c.args.r.now.kind) c.loop-i.i absent) (get_or c.args.r.now.numbers c.loop-i.i (pos 0)) in
    let none : (odd c.loop-i.marks && not may) ≡ false =
    elim c.else-marks-eq1.branch [
      | else-marks-eq1-via-then-marks-eq1+else-not-bears w ↦
          mark_set c.loop-i.marks (not may) w.if-marks-eq1.true ∙ ap not (sym w.bears.ensures ∙ w.if-not-bears.false)
      | else-marks-eq1-via-else-marks-eq1 w ↦ mark_clear c.loop-i.marks (not may) w.if-marks-eq1.false
    ] in
    stray-next _ _ mark_width _ _ c.loop-i-test.true none ∙ c.loop-i.invariant

pub returns : goal.returns
returns c = stray-end _ _ mark_width _ _ (omega arith) ∙ c.loop-i.invariant
