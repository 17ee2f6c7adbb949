-- `cyclic::Generator::absorbed`: several bits at once, as numbers. Assumes nothing.
use native.Mathlib.Omega.{arith}
use Rattle.cyclic.proofs.Blocks.{leaving_lt, turn_block}
use Rattle.cyclic.proofs.Generator.absorbed.Goals as goal

pub bounds-self-register : goal.bounds-self-register
bounds-self-register c =
    let t = c.args.self.is_table in
    let r = c.requires in
    omega (arith, leaving_lt _ _ _ r.0 t.least r.1, t.entries)

pub returns : goal.returns
returns c =
    let r = c.requires in
    turn_block _ _ _ c.args.self.is_table _ _ _ r.0 r.1 r.2
