-- `standing::frame_at`: each return is a case of the frame, from the first 18 bits. Assumes nothing.
use Prim.Native.Nat.{◌+◌, ◌≤◌}
use native.Mathlib.Omega.{arith}
use Rattle.standing.proofs.Here.{head_is, frame_short, frame_unmarked, frame_beyond, frame_framed}
use Rattle.standing.proofs.frame_at.Goals as goal

pub returns-then-rec-place-lt18 : goal.returns-then-rec-place-lt18
returns-then-rec-place-lt18 c = frame_short _ _ _ _ c.args.rec.passes.in_bytes (omega arith)

pub returns-then-head-ne-MARK : goal.returns-then-head-ne-MARK
returns-then-head-ne-MARK c =
    let near : c.args.place + 18 ≤ c.args.rec.count = omega arith in
    let in_bytes = c.args.rec.passes.in_bytes in
    let head = head_is _ _ _ (omega arith) c.min-end.ensures c.slice.ensures.0 c.slice.ensures.1 c.field-head.ensures in
    frame_unmarked _ _ _ _ in_bytes near _ head c.if-head-ne-MARK.true

pub returns-then-rec-place : goal.returns-then-rec-place
returns-then-rec-place c =
    let near : c.args.place + 18 ≤ c.args.rec.count = omega arith in
    let in_bytes = c.args.rec.passes.in_bytes in
    let head = head_is _ _ _ (omega arith) c.min-end.ensures c.slice.ensures.0 c.slice.ensures.1 c.field-head.ensures in
    frame_beyond _ _ _ _ in_bytes near _ head c.if-head-ne-MARK.false _ c.length_of-long.ensures (omega arith)

pub returns : goal.returns
returns c =
    let near : c.args.place + 18 ≤ c.args.rec.count = omega arith in
    let in_bytes = c.args.rec.passes.in_bytes in
    let head = head_is _ _ _ (omega arith) c.min-end.ensures c.slice.ensures.0 c.slice.ensures.1 c.field-head.ensures in
    frame_framed _ _ _ _ in_bytes near _ head c.if-head-ne-MARK.false _ c.length_of-long.ensures (omega arith)
