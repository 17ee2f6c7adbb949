-- What reading answers, where its chain of tests ends. Assumes nothing.
use Rattle.std.specs.Prelude.{Ok, Err, Result}
use mathlib.Core.Path.{◌≡◌, refl, sym, ap, ◌∙◌, subst}
use mathlib.Core.Bool.{Bool, true, false, false≢true}
use mathlib.Core.List.{List}
use Prim.Native.Nat.{ℕ, ◌<◌}
use lib.ListN.{length, get_or}
use Rattle.bits.specs.declared.Phase.{Phase}
use Rattle.bits.specs.Bits.{recorded}
use Rattle.format.specs.declared.Record.{Record}
use Rattle.format.specs.declared.Refusal.{Refusal}
use Rattle.format.specs.declared.Refusal.TheVariants.{BeyondCount, CheckFails}
use Rattle.format.specs.Answers.{answer_code}
use Rattle.format.specs.Reading.{record_at, reading}
use Rattle.format.specs.Records.{field_tests}
use Rattle.format.specs.Standing.{check_passes}
use Rattle.format.specs.Tests.{Answer, when, ◌then◌, answer_of, is_passed, giving, given_or, above, count_tests, place_tests}
use Rattle.format.specs.Writing.{ReadPromise}
use Rattle.format.proofs.Order.{answer_giving}
use Rattle.format.proofs.Phases.{reads-straight}
use Rattle.format.proofs.Theorems.{read_back, read_numbered, reading-covered}
use Rattle.standing.specs.declared.Frame.{Frame}
use Rattle.standing.specs.Frames.{frame_tests, frame_at}
use Rattle.standing.proofs.Here.{frame_tests_lem, framed_says}
use Rattle.recording.specs.declared.Recording.{Recording}
use Rattle.recording.specs.Recorded.{bits_of}
use Rattle.recording.proofs.Same.{bits_same}
use Rattle.reading.specs.Checked.{checked}
use Rattle.reading.specs.Reads.{Reads}

module _ (φ : Phase) (s : List ℕ) (n p : ℕ) where
  -- ---- 1, 2
  pub count_refuses : {x : Refusal} → count_tests (length s) n ≡ Err x → Err x ≡ reading φ s n p
  unfolding reading place_tests ◌then◌
  count_refuses e = rw e refl

  -- ---- 3, of a recording that passes them
  module _ (r : Recording) (counted : count_tests (length s) n ≡ Ok tt)
      (same : (r.part.bytes.now ≡ s) × (r.part.phase ≡ φ) × (r.count ≡ n)) where
    pub place_refuses : {x : Refusal} → when (above p r.count) (BeyondCount p) ≡ Err x → Err x ≡ reading φ s n p
    unfolding reading place_tests ◌then◌
    place_refuses e = rw (counted, ← same.2, e) refl

    -- ---- 5, 4, 5, of a place in it
    module _ (placed : when (above p r.count) (BeyondCount p) ≡ Ok tt) where
      pub frame_refuses : {x : Refusal} → frame_at (bits_of r) p ≡ Err x → Err x ≡ reading φ s n p
      unfolding reading place_tests ◌then◌ frame_at
      frame_refuses {x} e =
          let a : frame_tests (bits_of r) p ≡ Err x = sym (answer_giving (frame_tests (bits_of r) p) _) ∙ ap answer_of e in
          rw (counted, ← frame_tests_lem (recorded φ s n) p, ← bits_same r same, ← same.2, placed, a) refl

      pub frame_checked : {f : Frame} → frame_at (bits_of r) p ≡ Ok f → checked (bits_of r) p p ≡ reading φ s n p
      unfolding reading checked place_tests ◌then◌
      frame_checked e =
          rw (counted, ← frame_tests_lem (recorded φ s n) p, ← bits_same r same, ← same.2, placed, (framed_says (bits_of r) p e).0) refl

-- ---- reading into a lent record, or a set
refused≢ok : {x : Refusal} → ◌≡◌ {A = Answer} (Err x) (Ok tt) → ⊥
refused≢ok e = false≢true (ap is_passed e)

module _ {A : Type 0} where
  pub refused : {found : Result A Refusal} {x : Refusal} {answer : Answer} {after : A} → answer ≡ Err x → Err x ≡ found
      → Reads found answer after
  refused e f = record { answered = e ∙ ap answer_of f; read = λ g. absurd (refused≢ok (sym e ∙ g)) }

  pub tested : (t : Answer) (after : A) {found : Result A Refusal} → giving t after ≡ found → Reads found t after
  tested (Ok u) after e = record { answered = ap answer_of e; read = λ g. sym e }
  tested (Err x) after e = refused refl e

  pub reads_same : {a b : Result A Refusal} {answer : Answer} {after : A} → a ≡ b → Reads a answer after → Reads b answer after
  reads_same {answer = answer} {after = after} e r = subst (λ (f : Result A Refusal). Reads f answer after) e r

  -- what was found, from the answer and what stands in the lent memory
  pub found_refused : (found : Result A Refusal) {x : Refusal} → answer_of found ≡ Err x → found ≡ Err x
  found_refused (Ok r) e = absurd (refused≢ok (sym e))
  found_refused (Err y) e = ap refusal e
    where
      refusal : Answer → Result A Refusal
      refusal (Ok u) = Err y
      refusal (Err z) = Err z

  pub found_read : (found : Result A Refusal) (other : A) {after : A} → answer_of found ≡ Ok tt → after ≡ given_or other found
      → found ≡ Ok after
  found_read (Ok r) other e f = ap Ok (sym f)
  found_read (Err y) other e f = absurd (refused≢ok e)

-- ---- 6, 7, 8, of what the check of the bits tells
module _ (u : List Bool) (o place : ℕ) {b : Bool} (e : b ≡ check_passes u o) where
  pub check_fails : b ≡ false → Err (CheckFails place) ≡ checked u o place
  unfolding checked when ◌then◌
  check_fails f = rw (← e, f) refl

  pub fields_tested : b ≡ true → {r : Record} → r ≡ record_at u o → {t : Answer} → t ≡ field_tests r → giving t r ≡ checked u o place
  unfolding checked when ◌then◌
  fields_tested f g h = rw (h, ← e, f, ← g) refl

-- ---- the promise, of what is given
pub promised : (φ : Phase) (bytes : List ℕ) (count place : ℕ) → ((i : ℕ) → get_or bytes i 0 < 256) → {r : Result Record Refusal}
    → r ≡ reading φ bytes count place → ReadPromise φ bytes count place r
promised φ bytes count place below e = record {
  answered = e;
  numbered = ap (λ (x : Result Record Refusal). answer_code x) e ∙ read_numbered φ bytes count place;
  straight = e ∙ reads-straight φ bytes count below place;
  back = λ r d. read_back φ bytes count place below r (sym e ∙ d);
  covered = λ others l same. e ∙ sym (reading-covered φ bytes others count place l same);
}
