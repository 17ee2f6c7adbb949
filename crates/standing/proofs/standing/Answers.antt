-- `standing::standing`: what stands, of the frame and the check of its bits. Assumes nothing.
use mathlib.Core.Path.{sym, ap, ◌∙◌}
use native.Mathlib.Omega.{arith}
use Rattle.bits.proofs.Phases.{part_covers}
use Rattle.format.specs.Strings.{length_of}
use Rattle.types.proofs.Cases.{length-least}
use Rattle.standing.proofs.Here.{frame_refused, frame_stands, framed_says, fits, check_is_lem}
use Rattle.standing.proofs.standing.Goals as goal

pub returns-in_default : goal.returns-in_default
returns-in_default c = frame_refused _ _ (sym c.frame_at.ensures ∙ c.in_default.is)

pub covering-part-requires : goal.covering-part-requires
covering-part-requires c =
    let framed = sym c.frame_at.ensures ∙ c.in-Ok.is in
    let room = fits _ _ _ _ c.args.rec.passes.in_bytes framed in
    (omega (arith, room, c.args.rec.passes.in_bytes), omega (arith, room, c.args.rec.passes.short_enough))

pub divides-requires : goal.divides-requires
divides-requires c =
    let framed = sym c.frame_at.ensures ∙ c.in-Ok.is in
    let says = framed_says _ _ framed in
    let room = fits _ _ _ _ c.args.rec.passes.in_bytes framed in (
      rw c.covering-part.ensures.0 (part_covers _ _ c.in-Ok.field-0.long (omega (arith, room, c.args.rec.passes.in_bytes))),
      says.2 ∙ ap length_of (sym says.1),
    )

pub returns : goal.returns
returns c =
    let framed = sym c.frame_at.ensures ∙ c.in-Ok.is in
    let part = c.covering-part.ensures in
    let passes = check_is_lem _ _ _ _ c.args.rec.passes.in_bytes framed part.0 part.1 c.divides.ensures in
    let least = length-least _ _ (framed_says _ _ framed).2 in
    c.then_some.ensures ∙ frame_stands _ _ framed passes (omega (arith, least))
