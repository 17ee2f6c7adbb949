-- `reading::fill`: a refusal of the bit count, the place or the frame, or what the checked bytes give. Assumes nothing.
use borrow.Author.Rules.{rules}
use mathlib.Core.Path.{◌≡◌, sym, ap, ◌∙◌}
use native.Mathlib.Omega.{arith}
use Rattle.std.specs.Prelude.{Err}
use Rattle.bits.proofs.Phases.{part_covers}
use borrow.Author.Tests.{ltb-false}
use Rattle.format.specs.declared.Refusal.TheVariants.{BeyondCount}
use Rattle.format.specs.Tests.{answer_of, above}
use Rattle.format.specs.Strings.{length_of}
use Rattle.format.proofs.Order.{when_pass}
use Rattle.standing.proofs.Here.{framed_says, fits}
use Rattle.reading.proofs.Chain.{count_refuses, place_refuses, frame_refuses, frame_checked, refused, reads_same}
use Rattle.reading.proofs.Covering.{part_type, part_checked}
use Rattle.reading.proofs.fill.Goals as goal

pub returns-in_err-recording : goal.returns-in_err-recording
returns-in_err-recording c =
    let r : c.from_residual.result ≡ Err c.in_err-recording.field-0.0 = search rules in
    refused r (count_refuses _ _ _ _ (sym c.new.ensures.tested ∙ ap answer_of c.in_err-recording.was))

pub returns-in_err-place_test : goal.returns-in_err-place_test
returns-in_err-place_test c =
    let r : c.from_residual-in_err-place_test.result ≡ Err c.in_err-place_test.field-0.0 = search rules in
    let counted = sym c.new.ensures.tested ∙ ap answer_of c.in_ok-recording.was in
    refused r
    (place_refuses _ _ _ _ c.in_ok-recording.recording counted c.in_ok-recording.ensures.same
    (sym c.place_test.ensures ∙ c.in_err-place_test.was))

pub frame_at-requires : goal.frame_at-requires
frame_at-requires c =
    let n = c.in_ok-recording.recording.count in
    let passed = sym c.place_test.ensures ∙ c.in_ok-place_test.was in
    ltb-false n c.args.place (when_pass (above c.args.place n) (BeyondCount c.args.place) passed)

pub returns-in_err-frame : goal.returns-in_err-frame
returns-in_err-frame c =
    let r : c.from_residual-in_err-frame.result ≡ Err c.in_err-frame.field-0.0 = search rules in
    let counted = sym c.new.ensures.tested ∙ ap answer_of c.in_ok-recording.was in
    refused r
    (frame_refuses _ _ _ _ c.in_ok-recording.recording counted c.in_ok-recording.ensures.same
    (sym c.place_test.ensures ∙ c.in_ok-place_test.was)
    (sym c.frame_at.ensures ∙ c.in_err-frame.was))

pub covering-requires : goal.covering-requires
covering-requires c =
    let p = c.in_ok-recording.recording.passes in
    let room = fits _ _ _ _ p.in_bytes (sym c.frame_at.ensures ∙ c.in_ok-frame.was) in
    (omega (arith, room, p.in_bytes), omega (arith, room, p.short_enough))

pub invariant_of-whole : goal.invariant_of-whole
invariant_of-whole c =
    let r = c.in_ok-recording.recording in
    let framed = sym c.frame_at.ensures ∙ c.in_ok-frame.was in
    let says = framed_says _ _ framed in
    let room = fits _ _ _ _ r.passes.in_bytes framed in
    let kind = part_type r.part.phase r.part.bytes.now r.count c.args.place c.in_ok-frame.frame.long room says.2 in
    record {
      covers = rw c.covering.ensures.0 (part_covers _ _ c.in_ok-frame.frame.long (omega (arith, room, r.passes.in_bytes)));
      kind = rw (c.covering.ensures.0, c.covering.ensures.1) (says.1 ∙ sym kind);
      long = says.2 ∙ ap length_of (sym says.1);
    }

pub returns : goal.returns
returns c =
    let r = c.in_ok-recording.recording in
    let framed = sym c.frame_at.ensures ∙ c.in_ok-frame.was in
    let room = fits _ _ _ _ r.passes.in_bytes framed in
    let counted = sym c.new.ensures.tested ∙ ap answer_of c.in_ok-recording.was in
    let part = part_checked r.part.phase r.part.bytes.now r.count c.args.place c.in_ok-frame.frame.long room (framed_says _ _ framed).2 in
    reads_same
    (rw (c.covering.ensures.0, c.covering.ensures.1) part
    ∙ frame_checked _ _ _ _ r counted c.in_ok-recording.ensures.same (sym c.place_test.ensures ∙ c.in_ok-place_test.was) framed)
    c.checked.ensures
