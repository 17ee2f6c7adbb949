-- `puts::copy_bits`: the loop puts the run piece by piece. Assumes nothing.
use mathlib.Core.Path.{◌≡◌}
use mathlib.Core.Bool.{Bool}
use mathlib.Core.List.{List}
use Prim.Native.Nat.{◌+◌, ◌≤◌}
use native.Mathlib.Omega.{arith}
use lib.ListN.{length}
use Rattle.bits.specs.Bits.{unpack, true_bits, cut}
use Rattle.bits.proofs.Lists.{length-cut}
use Rattle.bits.proofs.Numbers.{number-cut-lt}
use Rattle.bits.proofs.Bytes.{length-unpack}
use Rattle.bits.proofs.Phases.{length_true}
use Rattle.puts.proofs.Writing.{put_first, put_next, put_last}
use Rattle.puts.proofs.copy_bits.Goals as goal

pub loop-done-init : goal.loop-done-init
loop-done-init c = (omega arith, put_first _ _ _)

pub put_field-requires : goal.put_field-requires
put_field-requires c =
    let a = c.args in
    let source : List Bool = true_bits a.src.phase a.src.bytes.now in
    let k = c.min-k.ensures in
    let inside : a.from + c.loop-done.done + c.min-k.result ≤ length source = omega (arith, length_true a.src.phase a.src.bytes.now, k) in
    (omega (arith, k), rw c.field.ensures (number-cut-lt _ _ source inside), omega (arith, k), omega (arith, k))

pub loop-done-preserved : goal.loop-done-preserved
loop-done-preserved c =
    let a = c.args in
    let k = c.min-k.ensures in (
      omega arith,
      put_next a.src.phase a.src.bytes.now a.to a.from a.n c.loop-done.done c.min-k.result (c.loop-done.done + 57) _ (unpack a.dst.now)
          _ _ (omega (arith, k)) (omega arith) (omega arith) (omega (arith, length-unpack a.dst.now)) c.field.ensures
          c.loop-done.invariant.1 c.put_field.ensures,
    )

pub returns : goal.returns
returns c =
    let a = c.args in
    let source : List Bool = true_bits a.src.phase a.src.bytes.now in
    let long : length (cut a.from a.n source) ≡ a.n =
    length-cut a.from a.n source (omega (arith, length_true a.src.phase a.src.bytes.now)) in
    put_last a.to c.loop-done.done _ _ _ (omega (arith, long)) c.loop-done.invariant.1

pub returns-2 : goal.returns-2
returns-2 c =
    let a = c.args in
    let source : List Bool = true_bits a.src.phase a.src.bytes.now in
    let long : length (cut a.from a.n source) ≡ a.n =
    length-cut a.from a.n source (omega (arith, length_true a.src.phase a.src.bytes.now)) in
    let k = c.min-k.ensures in
    put_last a.to a.n _ _ _ (omega (arith, long))
    (put_next a.src.phase a.src.bytes.now a.to a.from a.n c.loop-done.done c.min-k.result a.n _ (unpack a.dst.now)
    _ _ (omega (arith, k)) (omega arith) (omega arith) (omega (arith, length-unpack a.dst.now)) c.field.ensures
    c.loop-done.invariant.1 c.put_field.ensures)
