-- What reading and writing a set answer, and their promises. Assumes nothing.
use Rattle.std.specs.Prelude.{Ok, Err, Result, IsErr, is_err}
use mathlib.Core.Path.{◌≡◌, refl, sym, ap, ◌∙◌, subst}
use mathlib.Core.Bool.{Bool, false≢true}
use mathlib.Core.List.{List, ◌++◌, append_assoc}
use Prim.Native.Nat.{ℕ, ◌+◌, ◌*◌, ◌≤◌, ◌<◌}
use native.Mathlib.Omega.{arith}
use lib.ListN.{length, length-append, get_or}
use mir.Syntax.{w8}
use mir.Val.{Fits}
use borrow.Author.Tests.{ltb-false}
use Rattle.bits.specs.declared.Phase.{Phase}
use Rattle.format.specs.declared.Refusal.{Refusal}
use Rattle.format.specs.declared.Refusal.TheVariants.{RunsOut}
use Rattle.format.specs.declared.Set.{Set}
use Rattle.format.specs.Answers.{answer_code, outcome_code}
use Rattle.format.specs.Reading.{reading}
use Rattle.format.specs.Records.{record_tests}
use Rattle.format.specs.Sets.{set_tests, Together, set_reading, set_length, set_bits}
use Rattle.format.specs.Sets.{member_tests, set_write_tests, set_writing, set_write_returned, SetReadsBack, SetReadPromise, SetWritePromise}
use Rattle.format.specs.Strings.{length_of}
use Rattle.format.specs.Tests.{Answer, Outcome, bit_limit, when, ◌then◌, giving, above, place_tests, Passes}
use Rattle.format.specs.declared.Record.{Record}
use Rattle.format.proofs.Tests.{place-passes}
use Rattle.format.specs.Writing.{string, with_bits, bytes_after}
use Rattle.format.proofs.Order.{then_pass, then_both, when_pass}
use Rattle.format.proofs.Phases.{set-reads-straight}
use Rattle.format.proofs.Theorems.{set-passes, set-exact, set_read_back, set-written-back, set-covered}
use Rattle.format.proofs.Theorems.{set_read_numbered, set_write_numbered}
use Rattle.format.proofs.RoundTrips.{length_with, with_join, read_passes, read_fits}
use Rattle.format.proofs.Sets.{TypedSet, size}

-- ---- reading: where its chain of tests ends
module _ (φ : Phase) (bytes : List ℕ) (count place : ℕ) where
  abbrev at : ℕ → Result Record Refusal
  at = reading φ bytes count

  -- the place after a string that reads
  pub near : (p : ℕ) {r : Record} → at p ≡ Ok r → p + length_of r.kind ≤ bit_limit
  near p {r} e = omega (arith, read_fits φ bytes count p r e, (read_passes φ bytes count p r e).short_enough)

  pub first-refuses : {x : Refusal} → at place ≡ Err x → Err x ≡ set_reading φ bytes count place
  unfolding set_reading ◌then◌
  first-refuses e = rw e refl

  module _ {a : Record} (e : at place ≡ Ok a) {second : ℕ} (f : second ≡ place + length_of a.kind) where
    pub second-refuses : {x : Refusal} → at second ≡ Err x → Err x ≡ set_reading φ bytes count place
    unfolding set_reading ◌then◌
    second-refuses g = rw (e, ← f, g) refl

    module _ {b : Record} (g : at second ≡ Ok b) {third : ℕ} (h : third ≡ second + length_of b.kind) where
      pub third-refuses : {x : Refusal} → at third ≡ Err x → Err x ≡ set_reading φ bytes count place
      unfolding set_reading ◌then◌
      third-refuses k = rw (e, ← f, g, ← h, k) refl

      pub set-tested : {c : Record} → at third ≡ Ok c → {t : Answer} → t ≡ set_tests (record { first = a; second = b; third = c })
          → giving t (record { first = a; second = b; third = c }) ≡ set_reading φ bytes count place
      unfolding set_reading ◌then◌
      set-tested k t = rw (t, e, ← f, g, ← h, k) refl

-- ---- what reading promises, of what is given
pub promised : (φ : Phase) {bytes : List ℕ} (count place : ℕ) → ((i : ℕ) → Fits w8 (get_or bytes i 0)) → {r : Result Set Refusal}
    → r ≡ set_reading φ bytes count place → SetReadPromise φ bytes count place r
promised φ {bytes} count place fits {r} e =
    let below : (i : ℕ) → get_or bytes i 0 < 256 = λ i. (fits i).fits in
    record {
      answered = e;
      numbered = ap (λ (x : Result Set Refusal). answer_code x) e ∙ set_read_numbered φ bytes count place;
      straight = e ∙ set-reads-straight φ bytes count below place;
      exact = λ s. let x = set-exact φ bytes count place s in (λ f. x.0 (sym e ∙ f), λ t. e ∙ x.1 t);
      back = λ s d. set_read_back φ bytes count place s below ((set-exact φ bytes count place s).0 (sym e ∙ d));
      covered = λ others l same₁ same₂ same₃. e ∙ sym (set-covered φ bytes others count place l same₁ same₂ same₃);
    }

-- ---- what writing promises

numbered : (bytes : List ℕ) (count place : ℕ) (s : Set) {a : Outcome} → a ≡ set_writing (length bytes) count place s
    → outcome_code a ≡ set_write_returned (length bytes) count place s
numbered bytes count place s e = ap outcome_code e ∙ set_write_numbered (length bytes) count place s

-- where it is refused
pub refuses : (bytes : List ℕ) (count place : ℕ) (s : Set) {a : Outcome} → IsErr a → a ≡ set_writing (length bytes) count place s
    → SetWritePromise bytes count place s a bytes
refuses bytes count place s {a} f e =
    record {
      answered = e;
      left = left a f;
      numbered = numbered bytes count place s e;
      back = λ next g. absurd (false≢true (sym (ap is_err g) ∙ f));
    }
  where
    left : (a : Outcome) → IsErr a → bytes ≡ bytes_after a place (set_bits s) bytes
    left (Ok n) f = absurd (false≢true f)
    left (Err x) f = refl

-- what is known where all tests have passed
pub record Ready (bytes : List ℕ) (count place : ℕ) (s : Set) : Type 0 where
  pub writes : Ok (place + set_length) ≡ set_writing (length bytes) count place s
  pub passes : Passes bytes count
  pub first : record_tests s.first ≡ Ok tt
  pub second : record_tests s.second ≡ Ok tt
  pub third : record_tests s.third ≡ Ok tt
  pub together : Together s
  pub fits : place + set_length ≤ count
  pub room : place + set_length ≤ 8 * length bytes

pub ready : (bytes : List ℕ) (count place : ℕ) (s : Set) → place_tests (length bytes) count place ≡ Ok tt → member_tests s ≡ Ok tt
    → set_tests s ≡ Ok tt → when (above (place + set_length) count) (RunsOut place) ≡ Ok tt → Ready bytes count place s
unfolding set_writing set_write_tests member_tests
ready bytes count place s placed members tested free =
    let a = then_pass (record_tests s.first) _ members in
    let b = then_pass (record_tests s.second) (record_tests s.third) a.1 in
    let inside = (place-passes bytes count place placed).0 in
    let fits = ltb-false count (place + set_length) (when_pass (above (place + set_length) count) (RunsOut place) free) in
    record {
      writes = ap (λ (x : Answer). giving x (place + set_length)) (sym (then_both placed (then_both members (then_both tested free))));
      passes = inside;
      first = a.0;
      second = b.0;
      third = b.1;
      together = (set-passes s).0 tested;
      fits = fits;
      room = omega (arith, fits, inside.in_bytes);
    }

-- then the promise is kept by any bytes that are those of the definition
pub writes : {bytes : List ℕ} {count place : ℕ} {s : Set} → TypedSet s → Ready bytes count place s
    → (after : List ℕ) → after ≡ with_bits place (set_bits s) bytes → SetWritePromise bytes count place s (Ok (place + set_length)) after
writes {bytes} {count} {place} {s} holds k after left =
    let back = subst (λ (b : List ℕ). SetReadsBack b count place s) (sym left)
    (set-written-back bytes count place (place + set_length) s holds (sym k.writes)) in
    record { answered = k.writes; left = left; numbered = numbered bytes count place s k.writes; back = λ next f. back }

-- the three strings put one after another
module _ (bytes : List ℕ) (place : ℕ) (s : Set) (holds : TypedSet s) (t : Together s) (room : place + set_length ≤ 8 * length bytes)
    {b₁ : List ℕ} (e₁ : b₁ ≡ with_bits place (string s.first) bytes) where
  pub length-first : length b₁ ≡ length bytes
  length-first = ap length e₁ ∙ length_with bytes place (string s.first) (omega (arith, (size s holds t).0))

  module _ {b₂ : List ℕ} (e₂ : b₂ ≡ with_bits (place + 250) (string s.second) b₁) where
    pub length-second : length b₂ ≡ length bytes
    length-second =
        ap length e₂ ∙ length_with b₁ (place + 250) (string s.second) (omega (arith, (size s holds t).1, length-first)) ∙ length-first

    pub all_put : {b₃ : List ℕ} → b₃ ≡ with_bits (place + 250 + 250) (string s.third) b₂ → b₃ ≡ with_bits place (set_bits s) bytes
    unfolding set_bits
    all_put e₃ =
        let x = string s.first in
        let y = string s.second in
        let z = string s.third in
        let l = size s holds t in
        let two : b₂ ≡ with_bits place (x ++ y) bytes =
        e₂ ∙ ap (with_bits (place + 250) y) e₁
        ∙ with_join bytes place x (omega (arith, l.0)) (place + 250) y (omega (arith, l.0)) (omega (arith, l.1)) in
        let n = length-append x y in
        e₃ ∙ ap (with_bits (place + 250 + 250) z) two
        ∙ with_join bytes place (x ++ y) (omega (arith, l.0, l.1)) (place + 250 + 250) z (omega (arith, l.0, l.1)) (omega (arith, l.2))
        ∙ ap (λ (v : List Bool). with_bits place v bytes) (append_assoc x y z)
