-- `cyclic::Generator::remainder`: the bits up to the end of the first byte fit into the empty register, and the others go in by the table.
-- Assumes nothing.
use Rattle.std.proofs.Common.{◌≡◌, ◌+◌, ◌-◌, ◌/◌, ◌%◌, ℕ}
use mathlib.Core.Path.{refl, ap, ◌∙◌}
use native.Mathlib.Omega.{arith}
use Rattle.bits.specs.Bits.{number, true_bits}
use Rattle.cyclic.proofs.Blocks.{head_lt, whole_after, last-lt, last-after}
use Rattle.cyclic.proofs.Remainders.{after, after-lt, the_remainder}
use Rattle.cyclic.proofs.Generator.remainder.Goals as goal

pub part_after-register-requires : goal.part_after-register-requires
part_after-register-requires c = head_lt _ c.byte.result _ c.args.self.is_table.least c.byte.ensures.1

pub returns-then-rest-eq0 : goal.returns-then-rest-eq0
returns-then-rest-eq0 c =
    let a = c.args in
    let r = c.requires.run_inside in
    let whole =
    whole_after a.part.phase a.part.bytes.now a.offset a.count a.self.number a.self.degree r.0 a.self.is_table.least r.1 _ _ _ _ _
    c.byte.ensures.0 refl c.slice.ensures.1 c.slice.ensures.0 c.part_after-register.ensures in
    let e : a.count - (a.offset + a.count) % 8 ≡ a.count = omega arith in
    whole ∙ ap (λ (n : ℕ). number (after (true_bits a.part.phase a.part.bytes.now) a.offset a.self.number a.self.degree 0 n)) e
    ∙ the_remainder _ _ a.self.is_table.highest _

pub absorbed-requires : goal.absorbed-requires
absorbed-requires c =
    let a = c.args in
    let r = c.requires.run_inside in
    let whole =
    whole_after a.part.phase a.part.bytes.now a.offset a.count a.self.number a.self.degree r.0 a.self.is_table.least r.1 _ _ _ _ _
    c.byte.ensures.0 refl c.slice.ensures.1 c.slice.ensures.0 c.part_after-register.ensures in
    let fits = after-lt (true_bits a.part.phase a.part.bytes.now) a.offset a.self.number a.self.degree 0 _ _ whole in
    (omega arith, fits, last-lt _ _ (omega arith) c.byte-2.ensures.1)

pub returns : goal.returns
returns c =
    let a = c.args in
    let r = c.requires.run_inside in
    let whole =
    whole_after a.part.phase a.part.bytes.now a.offset a.count a.self.number a.self.degree r.0 a.self.is_table.least r.1 _ _ _ _ _
    c.byte.ensures.0 refl c.slice.ensures.1 c.slice.ensures.0 c.part_after-register.ensures in
    let end : ℕ = a.offset + a.count in
    last-after a.part.phase a.part.bytes.now a.offset a.count a.self.number a.self.degree r.0 a.self.is_table.least r.1
    (end / 8) (end % 8) _ _ _ (omega arith) (omega arith) (omega arith) c.byte-2.ensures.0 whole c.absorbed.ensures
    ∙ the_remainder _ _ a.self.is_table.highest _
