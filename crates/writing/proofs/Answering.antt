-- What writing answers, and its promise. Assumes nothing.
use Rattle.std.specs.Prelude.{Ok, Err, IsErr, is_err}
use Rattle.format.specs.Tests.{Outcome}
use mathlib.Core.Path.{◌≡◌, refl, sym, ap, ap₂, ◌∙◌, subst}
use mathlib.Core.Bool.{false≢true}
use mathlib.Core.List.{List, ◌++◌}
use Prim.Native.Nat.{ℕ, ◌+◌, ◌-◌, ◌*◌, ◌/◌, ◌%◌, ◌≤◌, ◌<◌}
use native.Mathlib.Omega.{arith}
use lib.ListN.{length, take, drop, get_or}
use borrow.Author.Tests.{ltb-false}
use Rattle.bits.specs.Bits.{unpack, put, packed}
use Rattle.bits.proofs.Bytes.{length-unpack, packed-unpack, put_part}
use Rattle.bits.proofs.Lists.{length-put}
use Rattle.format.specs.declared.Record.{Record}
use Rattle.format.specs.declared.Refusal.TheVariants.{RunsOut}
use Rattle.format.specs.Answers.{outcome_code}
use Rattle.format.specs.Records.{record_tests}
use Rattle.format.specs.Strings.{length_of}
use Rattle.format.specs.Tests.{when, above, place_tests, Passes}
use Rattle.format.specs.Writing.{string, write_tests, writing, write_returned, with_bits, bytes_after, ReadsBack, WritePromise}
use Rattle.format.proofs.Order.{then_both, when_pass}
use Rattle.format.proofs.Tests.{place-passes}
use Rattle.format.proofs.Theorems.{written_back, write_numbered}
use Rattle.format.proofs.Writing.{Typed}

-- ---- what writing promises

-- the answer by number and value
numbered : (bytes : List ℕ) (count place : ℕ) (r : Record) {a : Outcome} → a ≡ writing (length bytes) count place r
    → outcome_code a ≡ write_returned (length bytes) count place r
numbered bytes count place r e = ap outcome_code e ∙ write_numbered (length bytes) count place r

-- where it is refused
pub refuses : (bytes : List ℕ) (count place : ℕ) (r : Record) {a : Outcome} → IsErr a → a ≡ writing (length bytes) count place r
    → WritePromise bytes count place r a bytes
refuses bytes count place r {a} f e =
    record {
      answered = e;
      left = left a f;
      numbered = numbered bytes count place r e;
      back = λ next g. absurd (false≢true (sym (ap is_err g) ∙ f));
    }
  where
    left : (a : Outcome) → IsErr a → bytes ≡ bytes_after a place (string r) bytes
    left (Ok n) f = absurd (false≢true f)
    left (Err x) f = refl

-- what is known where all tests have passed
pub record Ready (bytes : List ℕ) (count place long : ℕ) (r : Record) : Type 0 where
  pub writes : Ok (place + long) ≡ writing (length bytes) count place r
  pub passes : Passes bytes count
  pub room : place + long ≤ count

module _ (bytes : List ℕ) (count place long : ℕ) (r : Record) (el : long ≡ length_of r.kind)
    (placed : place_tests (length bytes) count place ≡ Ok tt) (tested : record_tests r ≡ Ok tt)
    (room : when (above (place + long) count) (RunsOut place) ≡ Ok tt) where
  pub ready : Ready bytes count place long r
  unfolding writing write_tests
  ready =
      let fits : when (above (place + length_of r.kind) count) (RunsOut place) ≡ Ok tt = rw (← el) room in
      record {
        writes = rw (then_both placed (then_both tested fits), ← el) refl;
        passes = (place-passes bytes count place placed).0;
        room = ltb-false count (place + long) (when_pass (above (place + long) count) (RunsOut place) room);
      }

-- then the promise is kept by any bytes that are those of the definition
pub writes : {bytes : List ℕ} {count place long : ℕ} {r : Record} → Typed r → Ready bytes count place long r → (after : List ℕ)
    → after ≡ with_bits place (string r) bytes → WritePromise bytes count place r (Ok (place + long)) after
writes {bytes} {count} {place} {long} {r} holds k after left =
    let back : ReadsBack after count place r =
    subst (λ (b : List ℕ). ReadsBack b count place r) (sym left) (written_back bytes count place (place + long) r holds (sym k.writes)) in
    record { answered = k.writes; left = left; numbered = numbered bytes count place r k.writes; back = λ next f. back }

-- the string put into the part of the bytes that it covers
module _ (bytes t : List ℕ) (place long last : ℕ) (r : Record) (l : length (string r) ≡ length_of r.kind)
    (el : long ≡ length_of r.kind) (room : place + long ≤ 8 * length bytes) (ends : last ≡ (place + long + 7) / 8) where
  abbrev first : ℕ
  first = place / 8

  abbrev size : ℕ
  size = last - place / 8

  abbrev after : List ℕ
  after = take first bytes ++ (t ++ drop size (drop first bytes))

  module _ (below : (i : ℕ) → get_or after i 0 < 256)
      (e : unpack t ≡ put (place % 8) (string r) (unpack (take size (drop first bytes)))) where
    after-bits : unpack after ≡ put place (string r) (unpack bytes)
    after-bits =
        put_part bytes t first size (place % 8) place (string r) (omega arith) (omega arith) (omega arith) e

    after-length : length after ≡ length bytes
    after-length =
        omega (
          arith,
          length-unpack after,
          length-unpack bytes,
          ap length after-bits,
          length-put place (string r) (unpack bytes) (omega (arith, length-unpack bytes, l, room)),
        )

    pub part_put : after ≡ with_bits place (string r) bytes
    part_put = sym (packed-unpack after below) ∙ ap₂ packed after-length after-bits
