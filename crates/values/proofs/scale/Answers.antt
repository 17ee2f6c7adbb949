-- `values::scale`: the cast loses nothing, and the product is exact. Assumes nothing.
use borrow.Author.Rules.{rules}
use native.Mathlib.Omega.{arith}
use Prim.Native.Nat.{◌<◌}
use mir.Facts.{to_z-of_z}
use mir.Syntax.{w64}
use Rattle.values.proofs.Product.{in_float_lem, product-scaled, product_is}
use Rattle.values.proofs.scale.Goals as goal

pub int_to_float-result : goal.int_to_float-result
int_to_float-result c = rw (to_z-of_z {w = w64} c.ranges.count) (in_float_lem c.args.count c.requires)

pub returns : goal.returns
returns c =
    let h : c.args.k < 256 = search rules in
    rw (to_z-of_z {w = w64} c.ranges.count) (record {
      value = product_is c.args.count c.args.k _ c.requires (omega arith) c.power.ensures;
      scaled = product-scaled c.args.count c.args.k _ c.requires (omega arith) c.power.ensures;
    })
