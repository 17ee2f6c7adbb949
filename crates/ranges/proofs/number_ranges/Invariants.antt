-- `ranges::number_ranges`: the places from i on answer what all answer. Assumes nothing.
use mathlib.Core.Path.{◌≡◌}
use Prim.Native.Nat.{◌+◌}
use lib.ListN.{drop}
use Rattle.format.specs.Records.{ranges}
use Rattle.format.specs.Types.{places_of}
use Rattle.ranges.proofs.number_ranges.Given as goal

abbrev pub invariant-loop-i : goal.invariant-loop-i
invariant-loop-i l = ranges (drop l.i (places_of l.r.kind)) (drop l.i l.r.numbers) (10 + l.i) ≡ ranges (places_of l.r.kind) l.r.numbers 10
