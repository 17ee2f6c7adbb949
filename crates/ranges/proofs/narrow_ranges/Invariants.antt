-- `ranges::narrow_ranges`: the places of the list from an index on answer what all answer. Assumes nothing.
use mathlib.Core.Path.{◌≡◌}
use lib.ListN.{drop}
use Rattle.format.specs.Records.{ranges}
use Rattle.format.specs.Types.{places_of}
use Rattle.ranges.proofs.Decoded.{first_of}
use Rattle.ranges.proofs.narrow_ranges.Given as goal

abbrev pub invariant-loop-i : goal.invariant-loop-i
invariant-loop-i l =
    first_of (places_of l.r.kind) l.r.numbers (drop l.i-index l.i-items) ≡ ranges (places_of l.r.kind) l.r.numbers 10
