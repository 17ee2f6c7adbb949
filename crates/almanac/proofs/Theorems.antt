-- What a book holds after offers from the empty book on. Assumes nothing.
use Rattle.std.specs.List.{All}
use Rattle.std.specs.Prelude.{Some, None}
use mathlib.Core.Bool.{true, and-eq-true_iff}
use mathlib.Core.List.{List, [], ◌∷◌}
use mathlib.Core.Path.{◌≡◌, refl, ap, ◌∙◌, subst}
use Prim.Native.Nat.{ℕ, ◌<◌}
use native.Mathlib.Omega.{arith}
use lib.Dec.{eqb}
use lib.IntN.{ℤ}
use lib.ListN.{length}
use borrow.Author.Tests.{eqb-true}
use Rattle.std.proofs.lemmas.List.Elements.{filter_passes, All-head}
use Rattle.format.specs.declared.Record.{Record}
use Rattle.format.specs.Tests.{is_passed}
use Rattle.format.proofs.Order.{is_passed-eq}
use Rattle.almanac.specs.Book.{entry, offer_tests}
use Rattle.almanac.specs.Offers.{book_of, comes, came, InRow, Current, HoldsAfter}
use Rattle.almanac.proofs.Books.{InBook, Where, inside, outside, where_is, passed, read, entry_in, entry_is}
use Rattle.almanac.proofs.Entries.{entry_of, holds_current}

-- a satellite of which some came unrefused is in the book
came_in : (j : ℕ) (offers : List Record) → 0 < length (came j offers) → InBook j
came_in j offers h = go (came j offers) h (filter_passes (comes j) offers)
  where
    go : (l : List Record) → 0 < length l → All (λ r. comes j r ≡ true) l → InBook j
    go [] h a = absurd (omega arith)
    go (r ∷ l) h a =
        let q = (and-eq-true_iff (is_passed (offer_tests r)) (eqb r.satellite j)).0 (All-head (λ x. comes j x ≡ true) r l a) in
        subst InBook (eqb-true r.satellite j q.1) (passed r (is_passed-eq (offer_tests r) q.0))

-- what the book holds for it, by the entry of its records
module _ (j : ℕ) (offers : List Record) where
  nothing : came j offers ≡ [] → entry (book_of offers) j ≡ None
  unfolding entry_of
  nothing e = go (where_is j)
    where
      go : Where j → entry (book_of offers) j ≡ None
      go (inside i) = entry_in (book_of offers) j i ∙ ap read (entry_is j i offers ∙ ap entry_of e)
      go (outside f) = f (book_of offers)

  keeps : (first : ℤ) (l : List Record) → came j offers ≡ l → InRow first l → 0 < length l → InBook j
      → (kept : Record) × (entry (book_of offers) j ≡ Some kept) × Current first l kept
  keeps first [] e row h i = absurd (omega arith)
  keeps first (r ∷ l) e row h i =
      let c = holds_current first r l row in
      (c.0, entry_in (book_of offers) j i ∙ ap read (entry_is j i offers ∙ ap entry_of e ∙ c.1), c.2)

  pub holds_after : HoldsAfter offers (book_of offers) j
  holds_after = record {
    nothing = nothing;
    current = λ first row h. keeps first (came j offers) refl row h (came_in j offers h);
  }
