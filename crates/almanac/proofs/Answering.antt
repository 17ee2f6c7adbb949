-- What offering promises, and its answers as the code finds them. Assumes nothing.
use Rattle.std.specs.Prelude.{Ok, Err, Result, Some, None}
use mathlib.Core.Bool.{Bool, true, false, cond, not, ◌||◌, false≢true}
use mathlib.Core.List.{List, ◌∷◌}
use mathlib.Core.Path.{◌≡◌, refl, sym, ap, ap₂, ◌∙◌, subst}
use Prim.Native.Nat.{ℕ, ◌-◌}
use native.Mathlib.Omega.{arith}
use lib.Dec.{eqb}
use lib.ListN.{length, set, get_or}
use Rattle.std.proofs.lemmas.List.{get_or_default}
use Rattle.std.proofs.lemmas.Option.{cond_some}
use Rattle.bits.specs.Bits.{bit}
use Rattle.format.specs.declared.Record.{Record}
use Rattle.format.specs.declared.Refusal.TheVariants.{NotAlmanac}
use Rattle.format.specs.declared.Refusal.{Refusal}
use Rattle.format.specs.Answers.{outcome_code, taken_code}
use Rattle.format.specs.Tests.{is_passed, giving, Answer, answer_of, given_or}
use Rattle.format.specs.Types.{last_satellite}
use Rattle.format.proofs.Numbered.{giving-returned, tells_then, tells_when, record_tells}
use Rattle.almanac.specs.declared.Book.{Book}
use Rattle.almanac.specs.declared.Entry.{Entry}
use Rattle.almanac.specs.Book.{is_empty, empty_entry, holding, supersedes, takes, entry_at, entry}
use Rattle.almanac.specs.Book.{offer_tests, offering, offer_returned, with_held, book_after}
use Rattle.almanac.specs.Offers.{book_of, HoldsAfter, Supersedes, Taken, OfferPromise}
use Rattle.almanac.proofs.Books.{Where, inside, outside, where_is, passed, read, entry_in, refused, own, other}
use Rattle.almanac.proofs.Words.{superseded, superseding}
use Rattle.almanac.proofs.Theorems.{holds_after}

-- ---- one offer, in words

-- of whether an entry is empty, what it holds otherwise, and whether it takes a record
held_by : (t : Bool) (c held r : Record) → cond (not t) (Some c) None ≡ Some held → (t || supersedes c r) ≡ true → Supersedes held r
held_by true c held r e f = absurd (false≢true (cond_some false c held e).0)
held_by false c held r e f = superseded held r (subst (λ (x : Record). supersedes x r ≡ true) (cond_some true c held e).1 f)

takes_by : (t : Bool) (c r : Record) → ((held : Record) → cond (not t) (Some c) None ≡ Some held → Supersedes held r)
    → (t || supersedes c r) ≡ true
takes_by true c r h = refl
takes_by false c r h = superseding c r (h c refl)

module _ (b : Book) (r : Record) where
  -- whether the record is taken: not refused, and its entry takes it
  is_taken : offering b r ≡ Ok true → (offer_tests r ≡ Ok tt) × (takes (entry_at b r.satellite) r ≡ true)
  unfolding offering
  is_taken = go (offer_tests r)
    where
      go : (a : Answer) → giving a (takes (entry_at b r.satellite) r) ≡ Ok true → (a ≡ Ok tt) × (takes (entry_at b r.satellite) r ≡ true)
      go (Ok u) e = (refl, ap (given_or false) e)
      go (Err x) e = absurd (false≢true (ap is_passed (ap answer_of e)))

  in_words : offering b r ≡ Ok true → Taken b r
  in_words e =
      let p = is_taken e in
      let f = entry_in b r.satellite (passed r p.0) in
      record {
        unrefused = p.0;
        newer = λ held g. held_by (is_empty (entry_at b r.satellite)) (entry_at b r.satellite).content held r (sym f ∙ g) p.1;
      }

  by_words : Taken b r → offering b r ≡ Ok true
  unfolding offering
  by_words t =
      let f = entry_in b r.satellite (passed r t.unrefused) in
      rw t.unrefused
      (ap Ok (takes_by (is_empty (entry_at b r.satellite)) (entry_at b r.satellite).content r (λ held g. t.newer held (f ∙ g))))

  module _ (full_book : length b.entries ≡ last_satellite) where
    now_held : offering b r ≡ Ok true → entry (book_after b r) r.satellite ≡ Some r
    now_held e =
        let p = is_taken e in
        entry_in (book_after b r) r.satellite (passed r p.0)
        ∙ ap read (own b r p.0 full_book ∙ ap (λ (t : Bool). cond t (holding r) (entry_at b r.satellite)) p.1)

    unchanged : (offering b r ≡ Ok true → ⊥) → book_after b r ≡ b
    unfolding book_after
    unchanged n = go (offering b r) refl
      where
        go : (x : Result Bool Refusal) → offering b r ≡ x → cond (given_or false x) (with_held b r) b ≡ b
        go (Ok true) e = absurd (n e)
        go (Ok false) e = refl
        go (Err x) e = refl

    others : (j : ℕ) → (r.satellite ≡ j → ⊥) → entry (book_after b r) j ≡ entry b j
    others j n = go (where_is j) (offer_tests r) refl
      where
        go : Where j → (a : Answer) → offer_tests r ≡ a → entry (book_after b r) j ≡ entry b j
        go (outside f) a e = f (book_after b r) ∙ sym (f b)
        go (inside i) (Ok u) e =
            entry_in (book_after b r) j i ∙ ap read (other b r e j i.least n) ∙ sym (entry_in b j i)
        go (inside i) (Err x) e = ap (λ (y : Book). entry y j) (refused b r x e)

  offer_told : (a : Answer) (t : Bool) → taken_code (giving a t) ≡ outcome_code (giving a (bit t))
  offer_told (Ok u) t = refl
  offer_told (Err x) t = refl

  numbered : taken_code (offering b r) ≡ offer_returned b r
  unfolding offering offer_tests
  numbered =
      offer_told (offer_tests r) (takes (entry_at b r.satellite) r)
      ∙ giving-returned (tells_then (record_tells r) (tells_when (not (eqb r.kind 20)) NotAlmanac)) (bit (takes (entry_at b r.satellite) r))

  one_after : (offers : List Record) → b ≡ book_of offers → book_after b r ≡ book_of (r ∷ offers)
  unfolding book_of
  one_after offers e = ap (λ (x : Book). book_after x r) e

-- what offering promises follows from the answer and the book
pub promised : (b : Book) (r : Record) → length b.entries ≡ last_satellite → (answer : Result Bool Refusal) (after : Book)
    → answer ≡ offering b r → after ≡ book_after b r → OfferPromise b r answer after
promised b r l answer after e f =
    record {
      answered = e;
      left = f;
      numbered = ap taken_code e ∙ numbered b r;
      exact = (λ g. in_words b r (sym e ∙ g), λ t. e ∙ by_words b r t);
      taken = λ g. ap (λ (x : Book). entry x r.satellite) f ∙ now_held b r l (sym e ∙ g);
      unchanged = λ n. f ∙ unchanged b r l (λ g. n (e ∙ g));
      others = λ j n. ap (λ (x : Book). entry x j) f ∙ others b r l j n;
      current = λ offers g j.
          subst (λ (x : Book). HoldsAfter (r ∷ offers) x j) (sym (f ∙ one_after b r offers g)) (holds_after j (r ∷ offers));
    }

-- ---- as the code offers
module _ (b : Book) (r : Record) (l : length b.entries ≡ last_satellite) where
  refusal : (x : Refusal) → offer_tests r ≡ Err x → Err x ≡ offering b r
  unfolding offering
  refusal x e = rw e refl

  pub refuses : (x : Refusal) → offer_tests r ≡ Err x → (answer : Result Bool Refusal) → answer ≡ Err x → OfferPromise b r answer b
  refuses x e answer f = promised b r l answer b (f ∙ refusal x e) (sym (refused b r x e))

  -- by the entry at the satellite's place
  module _ (e : offer_tests r ≡ Ok tt) (j : ℕ) (k : j ≡ r.satellite) (past : Entry) (t : Bool)
      (h : t ≡ takes (get_or b.entries (j - 1) past) r) where
    same : get_or b.entries (j - 1) past ≡ entry_at b r.satellite
    same =
        let i = passed r e in
        get_or_default b.entries (j - 1) past empty_entry (omega (arith, l, k, i.least, i.most))
        ∙ ap (λ (n : ℕ). get_or b.entries (n - 1) empty_entry) k

    answers : Ok t ≡ offering b r
    unfolding offering
    answers = rw e (ap Ok (h ∙ ap (λ (x : Entry). takes x r) same))

    left : cond t (with_held b r) b ≡ book_after b r
    unfolding book_after
    left = ap (λ (x : Result Bool Refusal). cond (given_or false x) (with_held b r) b) answers

    pub takes_in : t ≡ true → (x : Entry) → x ≡ holding r → OfferPromise b r (Ok t) (record { entries = set b.entries (j - 1) x })
    takes_in f x g =
        promised b r l (Ok t) _ answers
        (ap₂ (λ (n : ℕ) (y : Entry). record { entries = set b.entries (n - 1) y }) k g
        ∙ sym (ap (λ (u : Bool). cond u (with_held b r) b) f) ∙ left)

    pub passes_over : t ≡ false → OfferPromise b r (Ok t) b
    passes_over f =
        promised b r l (Ok t) b answers
        (sym (ap (λ (u : Bool). cond u (with_held b r) b) f) ∙ left)
