-- `list::print_report`: what is printed fits the buffer. Assumes nothing.
use mathlib.Core.List.{List}
use mathlib.Core.Path.{◌≡◌}
use Prim.Native.Nat.{ℕ, ◌≤◌}
use native.Mathlib.Omega.{arith}
use lib.ListN.{length, length-replicate}
use Rattle.text.specs.Text.{Wrote}
use Rattle.text.proofs.Writing.{wrote_length}
use Rattle.report.specs.Sizes.{report_most}
use Rattle.report.proofs.Found.{report-length}
use Rattle.list.proofs.print_report.Goals as goal

-- what is written into a buffer with room for it ends within the buffer
fits : {text before after : List ℕ} {next room : ℕ} → Wrote text 0 before after next → length text ≤ room → length before ≡ room
    → next ≤ length after
fits w h l = omega (arith, w.placed, wrote_length w (omega (arith, w.placed)))

pub slice_bounds-write_all-end : goal.slice_bounds-write_all-end
slice_bounds-write_all-end g c = fits c.report-m.ensures.wrote (report-length _) (length-replicate {A = ℕ} report_most 0)
