-- `reading::whole::Whole::checked`: 6 by the check of the bits, then the record and its tests. Assumes nothing.
use mathlib.Core.Path.{refl}
use mathlib.Core.Bool.{Bool}
use mathlib.Core.List.{List}
use Rattle.bits.specs.Bits.{true_bits}
use Rattle.format.proofs.Agree.{check_seen}
use Rattle.reading.proofs.Chain.{refused, tested, check_fails, fields_tested}
use Rattle.reading.proofs.whole.Whole.checked.Goals as goal

pub divides-requires : goal.divides-requires
divides-requires c = (c.args.self.covers, c.args.self.long)

pub returns-then-not-divides : goal.returns-then-not-divides
returns-then-not-divides c =
    let q = c.args.self in
    let u : List Bool = true_bits q.part.phase q.part.bytes.now in
    let seen = check_seen u q.offset _ q.kind q.long c.divides.ensures in
    refused refl (check_fails u q.offset c.args.place seen c.if-not-divides.true)

pub decoded_tests-requires : goal.decoded_tests-requires
decoded_tests-requires c =
    let q = c.args.self in record { bits = true_bits q.part.phase q.part.bytes.now; place = q.offset; is = c.decode.ensures }

pub returns : goal.returns
returns c =
    let q = c.args.self in
    let u : List Bool = true_bits q.part.phase q.part.bytes.now in
    let seen = check_seen u q.offset _ q.kind q.long c.divides.ensures in
    tested _ _ (fields_tested u q.offset c.args.place seen c.if-not-divides.false c.decode.ensures c.decoded_tests.ensures)
