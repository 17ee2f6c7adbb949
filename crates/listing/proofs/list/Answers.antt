-- `listing::list`: the tests of the bit count, then what each scan ensures. Assumes nothing.
use borrow.Author.Rules.{rules}
use mathlib.Core.Path.{◌≡◌, sym, ap, ◌∙◌}
use Prim.Native.Nat.{ℕ, ◌≤◌, ◌<◌}
use native.Mathlib.Omega.{arith}
use lib.ListN.{length, get_or}
use Rattle.std.specs.Prelude.{Err}
use Rattle.format.specs.Listing.{starts}
use Rattle.format.specs.Tests.{answer_of}
use Rattle.recording.specs.Recorded.{bits_of}
use Rattle.listing.proofs.Answering.{refuses, room_enough, too_short, all_given}
use Rattle.listing.proofs.list.Goals.{then-list-count+else-list-needed, else-list-count}
use Rattle.listing.proofs.list.Goals as goal

pub returns-in_err-recording : goal.returns-in_err-recording
returns-in_err-recording c =
    let below : (i : ℕ) → get_or c.args.rec.now i 0 < 256 = λ i. (c.type_inv.rec i).fits in
    let r : c.from_residual.result ≡ Err c.in_err-recording.field-0.0 = search rules in
    refuses _ _ _ _ below r (sym c.new.ensures.tested ∙ ap answer_of c.in_err-recording.was)

pub returns-then-list-needed : goal.returns-then-list-needed
returns-then-list-needed c =
    let below : (i : ℕ) → get_or c.args.rec.now i 0 < 256 = λ i. (c.type_inv.rec i).fits in
    too_short _ _ _ _ below c.in_ok-recording.recording c.in_ok-recording.ensures.same c.scan-needed.ensures.found (omega arith)

pub returns : goal.returns
returns c =
    let below : (i : ℕ) → get_or c.args.rec.now i 0 < 256 = λ i. (c.type_inv.rec i).fits in
    let r = c.in_ok-recording.recording in
    let room : length (starts (bits_of r)) ≤ length c.args.list.now =
    elim c.if-list-count.branch [
      | then-list-count+else-list-needed w ↦ omega (arith, w.scan-needed.ensures.found, w.if-list-needed.false)
      | else-list-count w ↦ room_enough _ _ _ _ below r c.in_ok-recording.ensures.same (omega (arith, w.if-list-count.false))
    ] in
    all_given _ _ _ _ below r c.in_ok-recording.ensures.same c.scan.ensures.found room c.scan.ensures.left
