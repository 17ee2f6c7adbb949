-- `cyclic::Generator::bytes_after`: the register after the bytes up to i. Assumes nothing.
use mathlib.Core.Path.{◌≡◌, ap, ◌∙◌}
use mathlib.Core.Bool.{Bool}
use mathlib.Core.List.{List}
use Prim.Native.Nat.{◌*◌, ◌+◌, ◌≤◌}
use native.Mathlib.Omega.{arith}
use lib.ListN.{length}
use borrow.Author.Rules.{rules}
use Rattle.bits.proofs.Lists.{length-cut, cut_whole}
use Rattle.bits.proofs.Numbers.{bits_back}
use Rattle.bits.proofs.Phases.{length_true}
use Rattle.bits.specs.Bits.{bits, true_bits, cut}
use Rattle.cyclic.specs.Register.{register_after}
use Rattle.cyclic.proofs.Blocks.{after_block}
use Rattle.cyclic.proofs.Remainders.{after_none, after-lt}
use Rattle.cyclic.proofs.Generator.bytes_after.Goals as goal

pub loop-i-init : goal.loop-i-init
loop-i-init c =
    let a = c.args in
    after_none (true_bits a.part.phase a.part.bytes.now) 0 a.self.number a.self.degree a.start c.requires

pub absorbed-register-requires : goal.absorbed-register-requires
absorbed-register-requires c =
    let a = c.args in
    let small = after-lt (true_bits a.part.phase a.part.bytes.now) 0 a.self.number a.self.degree a.start _ _ c.loop-i.invariant in
    (omega arith, small, search rules)

pub loop-i-preserved : goal.loop-i-preserved
loop-i-preserved c =
    let a = c.args in
    let i = c.loop-i.i in
    let all : List Bool = true_bits a.part.phase a.part.bytes.now in
    let byte : 8 * i + 8 ≤ length all = omega (arith, length_true a.part.phase a.part.bytes.now) in
    let the-bits : bits 8 c.byte.result ≡ cut (8 * i) 8 all =
    ap (bits 8) c.byte.ensures.0 ∙ bits_back 8 (cut (8 * i) 8 all) (length-cut (8 * i) 8 all byte) in
    after_block all 0 a.self.number a.self.degree a.start (8 * i) 8 _ (8 * i) _ _ _
    (omega arith) (omega arith) c.loop-i.invariant the-bits c.absorbed-register.ensures

pub returns : goal.returns
returns c =
    let a = c.args in
    let i = c.loop-i.i in
    let all : List Bool = true_bits a.part.phase a.part.bytes.now in
    c.loop-i.invariant
    ∙ ap (register_after a.self.degree a.self.number a.start)
    (cut_whole (8 * i) all (omega (arith, length_true a.part.phase a.part.bytes.now)))
