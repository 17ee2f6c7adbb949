-- `puts::put_field`: the bits in the first byte, and then those from the next byte on. Assumes nothing.
use mathlib.Core.Path.{◌≡◌, sym, ap, ◌∙◌}
use mathlib.Core.Bool.{Bool}
use mathlib.Core.List.{List}
use Prim.Native.Nat.{ℕ, ◌+◌, ◌-◌, ◌*◌, ◌/◌, ◌%◌, ◌^◌}
use native.Mathlib.Omega.{arith}
use lib.Pow.{shr_lt}
use borrow.Author.Rules.{rules}
use Rattle.bits.specs.Bits.{bits, unpack, put}
use Rattle.bits.proofs.Lists.{put_none}
use Rattle.bits.proofs.Bytes.{length-unpack}
use Rattle.puts.proofs.Writing.{put_two}
use Rattle.puts.proofs.put_field.Goals as goal

pub returns-then-width-eq0 : goal.returns-then-width-eq0
returns-then-width-eq0 c =
    let a = c.args in
    let u = unpack a.part.now in
    sym (put_none a.from u) ∙ ap (λ (k : ℕ). put a.from (bits k a.value) u) (sym c.if-width-eq0.true)

pub returns-then-width-room : goal.returns-then-width-room
returns-then-width-room c =
    let all : List Bool = unpack c.args.part.now in
    let place_is : 8 * (c.args.from / 8) + c.args.from % 8 ≡ c.args.from = omega arith in
    c.put_in_byte.ensures ∙ ap (λ (p : ℕ). put p (bits c.args.width c.args.value) all) place_is

pub put_in_byte-requires-2 : goal.put_in_byte-requires-2
put_in_byte-requires-2 c =
    let room : ℕ = 8 - c.args.from % 8 in
    let left : ℕ = c.args.width - room in
    let both : room + left ≡ c.args.width = omega arith in
    (search rules, search rules, shr_lt room left (rw both c.requires.1))

pub returns : goal.returns
returns c =
    let room : ℕ = 8 - c.args.from % 8 in
    let left : ℕ = c.args.width - room in
    let next : ℕ = 8 * (c.args.from / 8 + 1) in
    let all : List Bool = unpack c.args.part.now in
    let place_is : 8 * (c.args.from / 8) + c.args.from % 8 ≡ c.args.from = omega arith in
    c.put_bytes.ensures
    ∙ ap (put next (bits left c.args.value))
    (c.put_in_byte-2.ensures ∙ ap (λ (p : ℕ). put p (bits room (c.args.value / 2 ^ left)) all) place_is)
    ∙ put_two c.args.from next room left c.args.width c.args.value all (omega arith) (omega arith)
    (omega (arith, length-unpack c.args.part.now))
