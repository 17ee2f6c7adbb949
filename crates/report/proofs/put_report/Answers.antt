-- `report::put_report`: the limit, and then the refusal or the listing. Assumes nothing.
use native.Mathlib.Omega.{arith}
use Rattle.report.proofs.Printing.{report-refused, report-listed}
use Rattle.report.proofs.put_report.Goals as goal

pub returns-then-rec-ge-BYTES : goal.returns-then-rec-ge-BYTES
returns-then-rec-ge-BYTES c = rw (report-refused c.args.rec.now (omega arith)) c.bytes.ensures

pub returns-else-rec-ge-BYTES : goal.returns-else-rec-ge-BYTES
returns-else-rec-ge-BYTES c = rw (report-listed c.args.rec.now (omega arith)) c.put_listing.ensures
