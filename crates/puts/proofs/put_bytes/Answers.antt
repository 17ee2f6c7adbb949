-- `puts::put_bytes`: the bits that are left, put, are all of them put at first. Assumes nothing.
use mathlib.Core.Bool.{Bool}
use mathlib.Core.List.{List}
use mathlib.Core.Path.{◌≡◌, refl, sym, ap, ap₂, ◌∙◌}
use Prim.Native.Nat.{ℕ, ◌+◌, ◌-◌, ◌*◌, ◌/◌, ◌^◌}
use native.Mathlib.Nat.{add-zero, mod-lt}
use native.Mathlib.Omega.{arith}
use lib.Pow.{pow_pos}
use borrow.Author.Rules.{rules}
use Rattle.bits.specs.Bits.{bits, unpack, put}
use Rattle.bits.proofs.Lists.{put_none}
use Rattle.bits.proofs.Bytes.{length-unpack}
use Rattle.puts.proofs.Writing.{low_bits, put_two, put_byte}
use Rattle.puts.proofs.put_bytes.Goals as goal
use Rattle.puts.proofs.put_bytes.Goals.{then-left-ge32, else-left-ge32}

pub loop-left-init : goal.loop-left-init
loop-left-init c =
    elim c.if-left-ge32.branch [
      | then-left-ge32 w ↦
          let a = c.args in
          let n : ℕ = a.width - 32 in
          let four : unpack c.if-left-ge32.part ≡ put (8 * a.first) (bits 32 (a.value / 2 ^ n)) (unpack a.part.now) =
          ap unpack w.part-is ∙ w.put_four.ensures in (
            omega arith,
            omega arith,
            rw (w.i-is, w.left-is, four) (
                put_two (8 * a.first) (8 * (a.first + 4)) 32 n a.width a.value (unpack a.part.now) (omega arith) (omega arith)
                (omega (arith, length-unpack a.part.now))),
          )
      | else-left-ge32 w ↦ (omega arith, omega arith, rw (w.part-is, w.i-is, w.left-is) refl)
    ]

pub loop-left-preserved : goal.loop-left-preserved
loop-left-preserved c =
    let all : List Bool = unpack c.loop-left.part in (
      search rules,
      search rules,
      put_byte c.loop-left.part c.loop-left.i (c.loop-left.left - 8) c.loop-left.left c.args.value _ (omega arith) (omega arith)
          c.low.ensures ∙ c.loop-left.invariant.2,
    )

pub put_in_byte-requires : goal.put_in_byte-requires
put_in_byte-requires c = (search rules, search rules, rw c.low-then-left-gt0.ensures (mod-lt _ (pow_pos _)))

pub returns-then-left-gt0 : goal.returns-then-left-gt0
returns-then-left-gt0 c =
    let all : List Bool = unpack c.loop-left.part in
    c.put_in_byte.ensures
    ∙ ap₂ (λ (q : ℕ) (w : List Bool). put q w all) (add-zero (8 * c.loop-left.i))
    (low_bits c.loop-left.left c.args.value _ c.low-then-left-gt0.ensures)
    ∙ c.loop-left.invariant.2

pub returns-else-left-gt0 : goal.returns-else-left-gt0
returns-else-left-gt0 c =
    let all : List Bool = unpack c.loop-left.part in
    let none : 0 ≡ c.loop-left.left = omega arith in
    sym (put_none (8 * c.loop-left.i) all) ∙ ap (λ (k : ℕ). put (8 * c.loop-left.i) (bits k c.args.value) all) none
    ∙ c.loop-left.invariant.2
