-- `bits::Part::covering`: from the byte of the first bit to that of the last. Assumes nothing.
use mathlib.Core.Path.{◌≡◌, ap, ◌∙◌}
use Prim.Native.Nat.{ℕ, ◌-◌, ◌/◌, ◌%◌, ◌+◌}
use native.Mathlib.Omega.{arith}
use lib.ListN.{take, drop}
use Rattle.bits.specs.Bits.{bytes_for, covered_bytes, cut}
use Rattle.bits.proofs.Part.covering.Goals as goal

pub returns : goal.returns
unfolding covered_bytes cut
returns c =
    let q = c.args in
    let first = q.place / 8 in
    let size : first + c.div_ceil.result - first ≡ bytes_for (q.place % 8 + q.n) = omega (arith, c.div_ceil.ensures) in
    (c.slice.ensures.0 ∙ ap (λ (k : ℕ). take k (drop first q.self.bytes.now)) size, c.slice.ensures.1)
