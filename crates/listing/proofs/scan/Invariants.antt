-- `listing::scan`: what the scan has done when it has come to the place p. Assumes nothing.
use Prim.Native.Nat.{◌-◌, ◌≤◌}
use lib.ListN.{length}
use Rattle.recording.specs.Recorded.{bits_of}
use Rattle.listing.proofs.Scanning.{ListedSoFar}
use Rattle.listing.proofs.scan.Given as goal

abbrev pub invariant-loop-p : goal.invariant-loop-p
invariant-loop-p l =
    (l.p ≤ l.rec.count) × ListedSoFar (bits_of l.rec) l.initial.list (length l.initial.list) l.p l.found l.list

abbrev pub decreases-loop-p : goal.decreases-loop-p
decreases-loop-p l =
    l.rec.count - l.p
