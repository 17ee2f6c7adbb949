-- `bits::zero_from`: no bit from the place on is one where what was seen is zero. Assumes nothing.
use Rattle.std.proofs.Common.{rules, ◌≡◌, ◌-◌, ◌%◌, ◌/◌, ◌^◌, ◌<◌, ℕ, suc, List, ◌∷◌, get_or, take, drop, length, bit_and, bit_or}
use mathlib.Core.Path.{ap, subst, ◌∙◌}
use Rattle.std.specs.List.{fold}
use lib.Dec.{eqb}
use Rattle.bits.proofs.Bytes.{part_lt}
use Rattle.bits.proofs.Zero.{zero-past, all_seen}
use Rattle.bits.proofs.zero_from.Goals as goal

pub returns-in_default : goal.returns-in_default
returns-in_default c = zero-past c.args.bytes.now c.args.from (search rules)

pub returns : goal.returns
returns c =
    let a = c.args in
    let x : ℕ = c.in-Some.first.now in
    let t = c.in-Some.rest.now in
    let e : c.fold.result ≡ fold bit_or (bit_and x (255 / 2 ^ (a.from % 8))) t = search rules in
    let s : take (length a.bytes.now - a.from / 8) (drop (a.from / 8) a.bytes.now) ≡ x ∷ t = search rules in
    let h = part_lt (a.from / 8) (length a.bytes.now - a.from / 8) a.bytes.now (λ i. (c.type_inv.bytes i).fits) in
    ap (λ (n : ℕ). eqb n 0) e ∙ all_seen a.bytes.now t a.from x s (λ i. subst (λ (l : List ℕ). get_or l (suc i) 0 < 256) s (h (suc i)))
