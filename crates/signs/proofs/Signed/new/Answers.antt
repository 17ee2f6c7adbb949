-- `signs::Signed::new`: the sign bit stands above the magnitude. Assumes nothing.
use mathlib.Core.Path.{refl}
use native.Mathlib.Omega.{arith}
use mir.Facts.{to_z-of_z}
use mir.Syntax.{w64}
use Rattle.signs.proofs.Signs.{signed-number, signed-lt}
use Rattle.signs.proofs.Signed.new.Goals as goal

pub invariant_of-result : goal.invariant_of-result
invariant_of-result c =
    let r = c.requires in
    let e = to_z-of_z {w = w64} c.ranges.value in
    record {
      fits = (r.0, r.1, signed-lt _ _ _ _ _ _ (omega arith) r.1 r.2 e c.from-sign.ensures c.unsigned_abs.ensures.value);
    }

pub returns : goal.returns
returns c =
    let r = c.requires in
    let e = to_z-of_z {w = w64} c.ranges.value in
    (signed-number _ _ _ _ _ _ (omega arith) r.1 r.2 e c.from-sign.ensures c.unsigned_abs.ensures.value, refl)
