-- `bits::gathered`: byte after byte. Assumes nothing.
use Rattle.std.proofs.Common.{rules, ◌≡◌, ◌*◌, ◌%◌, ◌^◌, ℕ, bit_or}
use Rattle.std.specs.List.{fold}
use Rattle.bits.proofs.Reading.{gathered}
use Rattle.bits.proofs.gathered.Goals as goal

pub returns : goal.returns
returns c =
    let e : c.fold.result ≡ fold (λ (v x : ℕ). bit_or (v * 2 ^ 8 % 2 ^ 64) x) 0 c.args.bytes.now = search rules in
    rw e (gathered _ (λ i. (c.type_inv.bytes i).fits) c.requires)
