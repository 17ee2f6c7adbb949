-- `records::stray`: the mark's bits that are left answer what all answer. Assumes nothing.
use mathlib.Core.Path.{◌≡◌}
use Prim.Native.Nat.{◌-◌}
use Rattle.format.specs.Records.{mark_bits, stray}
use Rattle.format.specs.Types.{mark_width, places_of}
use Rattle.records.proofs.stray.Given as goal

abbrev pub invariant-loop-i : goal.invariant-loop-i
invariant-loop-i l =
    stray (places_of l.r.kind) l.r.numbers (mark_bits (mark_width - l.i) l.marks) l.i
    ≡ stray (places_of l.r.kind) l.r.numbers (mark_bits mark_width l.r.minus) 0
