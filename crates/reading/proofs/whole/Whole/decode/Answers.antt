-- `reading::whole::Whole::decode`: the pieces of the service bits, and the numbers or the raw bytes, make the record. Assumes nothing.
use mathlib.Core.Path.{ap, ◌∙◌}
use mathlib.Core.Bool.{Bool}
use mathlib.Core.List.{List}
use Prim.Native.Nat.{ℕ, ◌+◌, ◌≤◌}
use native.Mathlib.Omega.{arith}
use lib.ListN.{length, drop, replicate}
use Rattle.bits.proofs.Phases.{length_true}
use Rattle.bits.specs.Bits.{true_bits, cut, put, pack}
use Rattle.fields.proofs.Decoding.{no_fields}
use Rattle.format.proofs.Agree.{length_unit}
use Rattle.format.proofs.Information.{string-filled, raw_few}
use Rattle.format.specs.Records.{raw_bytes}
use Rattle.format.specs.Strings.{type_at, length_of}
use Rattle.reading.specs.declared.whole.Whole.{Whole}
use Rattle.reading.proofs.Service.{blank_parts, no_raw, decoded_is}
use Rattle.reading.proofs.whole.Whole.decode.Goals as goal

-- the string lies in the part
inside : (q : Whole) → q.offset + length_of (type_at (true_bits q.part.phase q.part.bytes.now) q.offset)
    ≤ length (true_bits q.part.phase q.part.bytes.now)
inside q = omega (arith, q.covers.last, q.long, ap length_of q.kind, length_true q.part.phase q.part.bytes.now)

pub field-service-requires : goal.field-service-requires
field-service-requires c =
    let q = c.args.self in
    (omega arith, omega (arith, length_unit q.frame.kind, q.long, q.covers.last))

pub numbers_at-requires-clause-room : goal.numbers_at-requires-clause-room
numbers_at-requires-clause-room c =
    let q = c.args.self in
    let f = string-filled q.frame.kind in
    let l = length_unit q.frame.kind in
    (omega (arith, f, q.long, q.covers.last), omega (arith, f, q.long, l, q.covers.first))

pub numbers_at-requires-clause-blank : goal.numbers_at-requires-clause-blank
numbers_at-requires-clause-blank c = let b = blank_parts c.requires in (b.0, b.1)

pub pack_bits-requires : goal.pack_bits-requires
pack_bits-requires c =
    let q = c.args.self in
    let f = string-filled q.frame.kind in
    let l = length_unit q.frame.kind in
    let n = c.raw_count-raw.ensures in (
      omega (arith, raw_few q.frame.kind, n, ap length (blank_parts c.requires).2),
      omega (arith, f, n, q.long, q.covers.last),
      omega (arith, f, n, q.long, l, q.covers.first),
    )

pub returns-then-raw-eq0 : goal.returns-then-raw-eq0
returns-then-raw-eq0 c =
    let q = c.args.self in
    let u : List Bool = true_bits q.part.phase q.part.bytes.now in
    decoded_is u q.offset (inside q) _ c.field-service.ensures _ _ _ _ q.kind c.numbers_at.ensures.numbers c.numbers_at.ensures.mark
    (no_raw u (q.offset + 50) (omega (arith, c.raw_count-raw.ensures)) (blank_parts c.requires).2)

pub returns-else-raw-eq0 : goal.returns-else-raw-eq0
returns-else-raw-eq0 c =
    let q = c.args.self in
    let u : List Bool = true_bits q.part.phase q.part.bytes.now in
    let b = blank_parts c.requires in
    let d = no_fields q.frame.kind (drop (q.offset + 50) u) (λ e. omega (arith, e, c.raw_count-raw.ensures)) b.0 b.1 in
    decoded_is u q.offset (inside q) _ c.field-service.ensures _ _ _ _ q.kind d.numbers d.mark
    (c.pack_bits.ensures
    ∙ rw b.2 (ap (λ (m : ℕ). put 0 (pack (cut (q.offset + 50) m u)) (replicate raw_bytes 0)) c.raw_count-raw.ensures))
