-- `puts::put_bytes`: the bits that are left, put, are all of them put at first. Assumes nothing.
use mathlib.Core.Path.{◌≡◌}
use Prim.Native.Nat.{◌+◌, ◌*◌, ◌≤◌}
use Rattle.bits.specs.Bits.{bits, unpack, put}
use Rattle.puts.proofs.put_bytes.Given as goal

abbrev pub invariant-loop-left : goal.invariant-loop-left
invariant-loop-left l =
    (l.left ≤ l.width) × (8 * l.i + l.left ≡ 8 * l.first + l.width)
    × (put (8 * l.i) (bits l.left l.value) (unpack l.part) ≡ put (8 * l.first) (bits l.width l.value) (unpack l.fn.part))

abbrev pub decreases-loop-left : goal.decreases-loop-left
decreases-loop-left l =
    l.left
