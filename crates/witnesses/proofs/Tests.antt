-- Computed tests: the starts that the rule finds in a recording, and where the widest burst begins and ends. Assumes nothing.
use mathlib.Core.Path.{◌≡◌, refl, sym, ap, ◌∙◌}
use mathlib.Core.Bool.{Bool, true, false, true≢false, false≢true, and-eq-true_iff}
use mathlib.Core.List.{List, [], ◌∷◌}
use Prim.Native.Nat.{ℕ, zero, suc, ◌+◌, ◌≤◌}
use native.Mathlib.Omega.{arith}
use lib.Dec.{eqb, ltb}
use lib.ListN.{length, length-drop, drop, get_or}
use lib.Seq.{drop-drop}
use Rattle.cyclic.specs.Burst.{Differ, Burst}
use Rattle.cyclic.specs.Poly.{add_bit, plus}
use Rattle.cyclic.proofs.Laws.{get_or-plus}
use Rattle.format.specs.Listing.{starts}
use Rattle.format.specs.Standing.{standing}
use Rattle.format.proofs.Rule.{list_from, list_all, list_end, list_none, list_here}
use Rattle.format.proofs.Sure.{front, front_standing, apart, apart_burst}

-- ---- listing
-- The starts in the bits from a place on, after so many of them are passed over.
unfoldable pub walk : List Bool → ℕ → ℕ → List ℕ
walk [] over p = []
walk (a ∷ rest) (suc over) p = walk rest over (p + 1)
walk (a ∷ rest) zero p = elim (front (a ∷ rest)) [ zero ↦ walk rest 0 (p + 1) | suc m ↦ p ∷ walk rest m (p + 1) ]

walk_here : (bits rest : List Bool) (p l : ℕ) → l ≡ standing bits p → ((n : ℕ) → walk rest n (p + 1) ≡ list_from bits (p + 1 + n))
    → elim l as (λ _. List ℕ) [ zero ↦ walk rest 0 (p + 1) | suc m ↦ p ∷ walk rest m (p + 1) ] ≡ list_from bits p
walk_here bits rest p zero e w = w 0 ∙ ap (list_from bits) (omega arith) ∙ sym (list_none bits p (sym e))
walk_here bits rest p (suc m) e w =
    ap (p ∷◌) (w m ∙ ap (list_from bits) (omega arith)) ∙ sym (list_here bits p (suc m) e (λ z. omega arith))

walk_from : (bits rest : List Bool) (n p : ℕ) → drop p bits ≡ rest → walk rest n p ≡ list_from bits (p + n)
unfolding walk
walk_from bits [] n p e = sym (list_end bits (p + n) (omega (arith, length-drop p bits, ap length e)))
walk_from bits (a ∷ rest) (suc n) p e =
    walk_from bits rest n (p + 1) (sym (drop-drop 1 p bits) ∙ ap (drop 1) e) ∙ ap (list_from bits) (omega arith)
walk_from bits (a ∷ rest) zero p e =
    walk_here bits rest p (front (a ∷ rest)) (ap front (sym e) ∙ front_standing bits p)
    (λ n. walk_from bits rest n (p + 1) (sym (drop-drop 1 p bits) ∙ ap (drop 1) e))
    ∙ ap (list_from bits) (omega arith)

pub walked : (bits : List Bool) (xs : List ℕ) → walk bits 0 0 ≡ xs → starts bits ≡ xs
walked bits xs h = list_all bits ∙ sym (walk_from bits bits 0 0 refl) ∙ h

-- ---- bursts
differs : (p q : List Bool) (i : ℕ) → get_or (plus p q) i false ≡ true → Differ p q i
differs p q i h = at (get_or p i false) (get_or q i false) (sym (get_or-plus p q i) ∙ h)
  where
    at : (a b : Bool) → add_bit a b ≡ true → a ≡ b → ⊥
    at true true h e = false≢true h
    at true false h e = true≢false e
    at false true h e = false≢true e
    at false false h e = false≢true h

-- A burst that is as wide as it may be has no other first and last bit.
pub widest_burst : (d first last : ℕ) (p q : List Bool) → apart d first last p q ≡ true → suc last ≡ first + d
    → (t : Burst d p q) × (t.first ≡ first) × (t.last ≡ last)
unfolding apart
widest_burst d first last p q h e =
    let t = apart_burst d first last p q h in
    let u = (and-eq-true_iff (ltb last (first + d)) _).0 ((and-eq-true_iff (eqb (length p) (length q)) _).0 h).1 in
    let v = (and-eq-true_iff (get_or (plus p q) first false) _).0 u.1 in
    let w = (and-eq-true_iff (get_or (plus p q) last false) _).0 v.1 in
    let a : t.first ≤ first = t.none_before first (differs p q first v.0) in
    let b : last ≤ t.last = t.none_after last (differs p q last w.0) in
    (t, omega (arith, t.near), omega (arith, t.near))

-- A burst that is narrower than it may be: the same of its own width c.
pub narrower_burst : (c d first last : ℕ) (p q : List Bool) → apart c first last p q ≡ true → suc last ≡ first + c → c ≤ d
    → (t : Burst d p q) × (t.first ≡ first) × (t.last ≡ last)
narrower_burst c d first last p q h e n =
    let t = widest_burst c first last p q h e in
    let u = t.0 in (
      record {
        same_length = u.same_length;
        first = u.first;
        last = u.last;
        first_differs = u.first_differs;
        last_differs = u.last_differs;
        none_before = u.none_before;
        none_after = u.none_after;
        near = omega (arith, u.near);
      },
      t.1,
      t.2,
    )
