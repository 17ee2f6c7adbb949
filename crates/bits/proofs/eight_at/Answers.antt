-- `bits::eight_at`: eight bytes as one number. Assumes nothing.
use Rattle.std.proofs.Common.{take, drop, length}
use mathlib.Core.Path.{sym, ap, ◌∙◌}
use Rattle.std.specs.Int.{w64, from_be_bytes}
use Rattle.bits.specs.Bits.{number}
use Rattle.bits.proofs.Bytes.{unpack_part, part_lt}
use Rattle.bits.proofs.Reading.{eight_bytes, be_number}
use Rattle.bits.proofs.eight_at.Goals as goal

pub returns : goal.returns
returns c =
    let s = c.args.bytes.now in
    let i = c.args.i in
    let e = eight_bytes s i c.requires in
    c.from_be_bytes.ensures ∙ ap (from_be_bytes w64) e
    ∙ be_number (take 8 (drop i s)) (part_lt i 8 s (λ k. (c.type_inv.bytes k).fits)) (ap length (sym e)) ∙ ap number (unpack_part i 8 s)
