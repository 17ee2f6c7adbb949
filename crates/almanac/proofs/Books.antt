-- The book by its entries: an offer changes that of the record's satellite alone, and an entry is that of its satellite's records.
-- Assumes nothing.
use Rattle.std.specs.Prelude.{Ok, Err, Option, Some, None}
use mathlib.Core.Path.{◌≡◌, refl, sym, ap, ◌∙◌, subst}
use mathlib.Core.Bool.{Bool, true, false, cond, not, ◌&&◌}
use mathlib.Core.List.{List, [], ◌∷◌}
use Prim.Native.Nat.{ℕ, ◌-◌, ◌≤◌, ◌<◌}
use native.Mathlib.Decide.{dec_lt}
use native.Mathlib.Omega.{arith}
use lib.Dec.{eqb}
use lib.ListN.{length, get_or, length-set, length-replicate, get_or-replicate}
use Rattle.std.proofs.lemmas.List.{get_or-set_same, get_or-set_other}
use borrow.Author.Tests.{eqb-true, eqb-false, le-leb, lt-leb, ne_eqb}
use Rattle.format.specs.declared.Record.{Record}
use Rattle.format.specs.declared.Refusal.{Refusal}
use Rattle.format.specs.Records.{record_tests, field_tests}
use Rattle.format.specs.Tests.{Answer, is_passed, given_or}
use Rattle.format.specs.Types.{last_satellite}
use Rattle.format.proofs.Order.{then_pass}
use Rattle.format.proofs.Writing.{ranged}
use Rattle.almanac.specs.declared.Book.{Book}
use Rattle.almanac.specs.declared.Entry.{Entry}
use Rattle.almanac.specs.Book.{is_empty, empty_entry, holding, takes, entry_at, entry, offer_tests, offering, with_held, book_after}
use Rattle.almanac.specs.Offers.{book_of, came}
use Rattle.almanac.proofs.Entries.{entry_after, entry_of}

-- what passed tests say of the satellite
pub record InBook (satellite : ℕ) : Type 0 where
  pub least : 1 ≤ satellite
  pub most : satellite ≤ last_satellite

pub passed : (r : Record) → offer_tests r ≡ Ok tt → InBook r.satellite
unfolding offer_tests record_tests
passed r e =
    let g = ranged r (then_pass (field_tests r) _ (then_pass (record_tests r) _ e).0).0 in
    record { least = g.some_satellite; most = omega (arith, g.satellite) }

-- what an entry gives
abbrev pub read : Entry → Option Record
read e = cond (not (is_empty e)) (Some e.content) None

pub read_empty : (e : Entry) → e.held ≡ 0 → read e ≡ None
read_empty e h = rw h refl

pub read_held : (e : Entry) → (e.held ≡ 0 → ⊥) → read e ≡ Some e.content
read_held e n = rw (ne_eqb e.held 0 n) refl

-- what the book holds, by the satellite's number
pub entry_below : (b : Book) (j : ℕ) → j < 1 → entry b j ≡ None
unfolding entry
entry_below b j h = rw (lt-leb 1 j h) refl

pub entry_above : (b : Book) (j : ℕ) → last_satellite < j → entry b j ≡ None
unfolding entry
entry_above b j h = rw (le-leb 1 j (omega arith), lt-leb j last_satellite h) refl

pub entry_in : (b : Book) (j : ℕ) → InBook j → entry b j ≡ read (entry_at b j)
unfolding entry
entry_in b j i = rw (le-leb 1 j i.least, le-leb j last_satellite i.most) refl

-- by the entry that stands at a place
pub entry_there : (b : Book) (j i : ℕ) (e : Entry) → length b.entries ≡ last_satellite → (1 ≤ j) × (i ≡ j - 1)
    → (i < length b.entries) × ((d : Entry) → e ≡ get_or b.entries i d) → entry b j ≡ read e
entry_there b j i e l k s =
    entry_in b j (record { least = k.0; most = omega (arith, l, k.1, s.0) })
    ∙ ap read (sym (s.1 empty_entry ∙ ap (λ (n : ℕ). get_or b.entries n empty_entry) k.1))

-- a number in the book, or outside
pub data Where (j : ℕ) : Type 0 where
  inside : InBook j → Where j
  outside : ((b : Book) → entry b j ≡ None) → Where j

pub where_is : (j : ℕ) → Where j
where_is j = go (dec_lt j 1) (dec_lt last_satellite j)
  where
    go : Dec (j < 1) → Dec (last_satellite < j) → Where j
    go (yes l) m = outside (λ b. entry_below b j l)
    go (no l) (yes m) = outside (λ b. entry_above b j m)
    go (no l) (no m) = inside (record { least = omega arith; most = omega arith })

-- ---- one offer
module _ (b : Book) (r : Record) where
  pub refused : (x : Refusal) → offer_tests r ≡ Err x → book_after b r ≡ b
  unfolding book_after offering
  refused x e = rw e refl

  pub after_passed : offer_tests r ≡ Ok tt → book_after b r ≡ cond (takes (entry_at b r.satellite) r) (with_held b r) b
  unfolding book_after offering
  after_passed e = rw e refl

  pub size : length (book_after b r).entries ≡ length b.entries
  unfolding book_after
  size = go (given_or false (offering b r))
    where
      go : (t : Bool) → length (cond t (with_held b r) b).entries ≡ length b.entries
      go true = length-set b.entries (r.satellite - 1) (holding r)
      go false = refl

  module _ (e : offer_tests r ≡ Ok tt) where
    i : InBook r.satellite
    i = passed r e

    pub own : length b.entries ≡ last_satellite → entry_at (book_after b r) r.satellite ≡ entry_after (entry_at b r.satellite) r
    own l = ap (λ (x : Book). entry_at x r.satellite) (after_passed e) ∙ go (takes (entry_at b r.satellite) r)
      where
        go : (t : Bool) → entry_at (cond t (with_held b r) b) r.satellite ≡ cond t (holding r) (entry_at b r.satellite)
        go true = get_or-set_same b.entries (r.satellite - 1) (holding r) empty_entry (omega (arith, l, i.least, i.most))
        go false = refl

    pub other : (j : ℕ) → 1 ≤ j → (r.satellite ≡ j → ⊥) → entry_at (book_after b r) j ≡ entry_at b j
    other j h n = ap (λ (x : Book). entry_at x j) (after_passed e) ∙ go (takes (entry_at b r.satellite) r)
      where
        go : (t : Bool) → entry_at (cond t (with_held b r) b) j ≡ entry_at b j
        go true = get_or-set_other b.entries (r.satellite - 1) (j - 1) (holding r) empty_entry (λ k. n (omega (arith, i.least)))
        go false = refl

-- ---- any offers
pub full : (offers : List Record) → length (book_of offers).entries ≡ last_satellite
unfolding book_of
full [] = length-replicate last_satellite empty_entry
full (r ∷ before) = size (book_of before) r ∙ full before

-- an entry after any offers is that after its satellite's records alone
module _ (j : ℕ) (in_book : InBook j) where
  Is : List Record → Type 0
  Is offers = entry_at (book_of offers) j ≡ entry_of (came j offers)

  one_more : (r : Record) (before : List Record) → Is before → Is (r ∷ before)
  unfolding book_of entry_of Is
  one_more r before ih = go (offer_tests r) refl
    where
      came_is : (s t : Bool) → is_passed (offer_tests r) ≡ s → eqb r.satellite j ≡ t
          → entry_of (came j (r ∷ before)) ≡ cond (s && t) (entry_after (entry_of (came j before)) r) (entry_of (came j before))
      came_is true true e f = rw (e, f) refl
      came_is true false e f = rw (e, f) refl
      came_is false t e f = rw e refl

      own_or_not : offer_tests r ≡ Ok tt → (t : Bool) → eqb r.satellite j ≡ t
          → entry_at (book_after (book_of before) r) j ≡ entry_of (came j (r ∷ before))
      own_or_not e true f =
          let k = eqb-true r.satellite j f in
          subst (λ (s : ℕ). entry_at (book_after (book_of before) r) s ≡ entry_after (entry_at (book_of before) s) r) k
          (own (book_of before) r e (full before))
          ∙ ap (λ (x : Entry). entry_after x r) ih
          ∙ sym (came_is true true (ap is_passed e) f)
      own_or_not e false f =
          other (book_of before) r e j in_book.least (eqb-false r.satellite j f) ∙ ih ∙ sym (came_is true false (ap is_passed e) f)

      go : (a : Answer) → offer_tests r ≡ a → entry_at (book_after (book_of before) r) j ≡ entry_of (came j (r ∷ before))
      go (Ok u) e = own_or_not e (eqb r.satellite j) refl
      go (Err x) e =
          ap (λ (y : Book). entry_at y j) (refused (book_of before) r x e) ∙ ih
          ∙ sym (came_is false (eqb r.satellite j) (ap is_passed e) refl)

  pub entry_is : (offers : List Record) → entry_at (book_of offers) j ≡ entry_of (came j offers)
  unfolding book_of entry_of Is
  entry_is [] = get_or-replicate last_satellite (j - 1) empty_entry empty_entry (omega (arith, in_book.least, in_book.most))
  entry_is (r ∷ before) = one_more r before (entry_is before)
