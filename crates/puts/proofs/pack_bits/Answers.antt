-- `puts::pack_bits`: the run and the zeros that fill its last byte are one put, and bytes are determined by their bits. Assumes nothing.
use mathlib.Core.List.{List, ◌++◌}
use mathlib.Core.Bool.{Bool}
use mathlib.Core.Path.{◌≡◌, ap, ◌∙◌}
use Prim.Native.Nat.{ℕ, ◌-◌, ◌*◌}
use native.Mathlib.Omega.{arith}
use lib.Pow.{pow_pos}
use lib.ListN.{length}
use borrow.Author.Rules.{rules}
use Rattle.bits.specs.Bits.{zeros, bits, unpack, true_bits, cut, put, bytes_for, filled}
use Rattle.bits.proofs.Numbers.{length-bits, bits-zero}
use Rattle.bits.proofs.Lists.{length-cut, put_join}
use Rattle.bits.proofs.Bytes.{length-unpack, pack-put}
use Rattle.bits.proofs.Phases.{length_true}
use Rattle.puts.proofs.pack_bits.Goals as goal

pub put_field-requires : goal.put_field-requires
put_field-requires c = (search rules, pow_pos _, search rules, search rules)

pub returns : goal.returns
unfolding filled
returns c =
    let run : List Bool = cut c.args.from c.args.n (true_bits c.args.src.phase c.args.src.bytes.now) in
    let run_length : length run ≡ c.args.n =
    let a = c.args in
    length-cut a.from a.n (true_bits a.src.phase a.src.bytes.now) (omega (arith, length_true a.src.phase a.src.bytes.now)) in
    let rest : ℕ = c.next_multiple_of.result - c.args.n in
    let run-filled : run ++ bits rest 0 ≡ filled run =
    let fill : rest ≡ 8 * bytes_for (length run) - length run = rw run_length (omega (arith, c.next_multiple_of.ensures)) in
    ap (λ (l : List Bool). run ++ l) (bits-zero rest ∙ ap zeros fill) in
    let put-once : unpack c.put_field.new.part ≡ put 0 (filled run) (unpack c.args.dst.now) =
    let n = c.args.n in
    c.put_field.ensures ∙ ap (put n (bits rest 0)) c.copy_bits.ensures
    ∙ put_join 0 n run (bits rest 0) (unpack c.args.dst.now) (omega (arith, run_length))
    (omega (arith, run_length, length-bits rest 0, length-unpack c.args.dst.now))
    ∙ ap (λ (l : List Bool). put 0 l (unpack c.args.dst.now)) run-filled in
    pack-put c.args.dst.now c.put_field.new.part run (λ i. (c.slice_known-1.given i).fits)
    (λ i. (c.slice_known-3-1.given i).fits) (rw run_length (omega arith)) put-once
