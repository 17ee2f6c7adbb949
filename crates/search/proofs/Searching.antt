-- What the search computes, in the terms that a goal shows: places without the mark, and the places that a word of hits shows. Assumes
-- nothing.
use mathlib.Core.Path.{◌≡◌, sym, ap, ◌∙◌, subst}
use mathlib.Core.Bool.{Bool, true, true≢false}
use mathlib.Core.List.{List}
use Prim.Native.Nat.{ℕ, ◌+◌, ◌-◌, ◌*◌, ◌/◌, ◌%◌, ◌^◌, ◌≤◌, ◌<◌}
use native.Mathlib.Decide.{dec_lt}
use native.Mathlib.Omega.{arith}
use lib.Count.{count_leading_zeros}
use lib.ListN.{length, take, drop, length-take, length-drop}
use Rattle.bits.specs.declared.Phase.{Phase}
use Rattle.bits.specs.Bits.{number, bits, true_bits, recorded, cut, bit_at}
use Rattle.bits.proofs.Phases.{length_true, length-recorded, cut-recorded}
use Rattle.bits.proofs.Lists.{length-cut, cut-cut}
use Rattle.bits.proofs.Numbers.{number_injective, bits_back}
use Rattle.bits.proofs.Words.{at_shl, no_ones, first_one, before-first}
use Rattle.format.specs.Strings.{mark, string_bits}
use Rattle.format.proofs.Agree.{string_bits_lem}
use Rattle.search.specs.Search.{MarkAt, NextMark, Hits}

mark-fits : (u : List Bool) (p : ℕ) → MarkAt u p → p + 12 ≤ length u
unfolding cut MarkAt
mark-fits u p m =
    let e : length (take 12 (drop p u)) ≡ 12 = ap length (sym (string_bits_lem u p 12) ∙ m) in
    omega (arith, length-take 12 (drop p u), length-drop p u)

-- ---- places without the mark

-- No place from `from` to below `to` has the mark.
unfoldable pub MarkFree : List Bool → ℕ → ℕ → Type 0
MarkFree bits from to = (place : ℕ) → from ≤ place → place < to → MarkAt bits place → ⊥

module _ (u : List Bool) where
  pub free_none : (p : ℕ) → MarkFree u p p
  unfolding MarkFree
  free_none p i f t m = omega arith

  pub free_join : (p q r : ℕ) → MarkFree u p q → MarkFree u q r → MarkFree u p r
  unfolding MarkFree
  free_join p q r a b i f t m = elim (dec_lt i q) [ yes l ↦ a i f l m | no l ↦ b i (omega arith) t m ]

  -- the search goes on from a place
  pub next-on : (from p r : ℕ) → MarkFree u from p → from ≤ p → NextMark u p r → NextMark u from r
  unfolding MarkFree
  next-on from p r c f g = record {
    past = omega (arith, g.past);
    within = g.within;
    none_before = free_join from p r c g.none_before;
    here = g.here;
  }

  -- ---- the places that a word of hits shows
  -- from some places later on
  pub hits_shl : (q n k p m g : ℕ) → p ≡ q + k → m + k ≡ n → Hits u q n g → Hits u p m (g * 2 ^ k % 2 ^ 64)
  unfolding Hits
  hits_shl q n k p m g ep em f i =
      let e : q + (i + k) ≡ p + i = omega arith in (
        λ t. let s = (f (i + k)).0 (sym (at_shl g k i) ∙ t) in (omega (arith, s.0), subst (MarkAt u) e s.1),
        λ s. at_shl g k i ∙ (f (i + k)).1 (omega (arith, s.0), subst (MarkAt u) (sym e) s.1),
      )

  module _ (p n g : ℕ) (f : Hits u p n g) where
    shown : (i : ℕ) → p ≤ i → i < p + n → MarkAt u i → bit_at g (i - p) ≡ true
    unfolding Hits
    shown i a l m = let e : i ≡ p + (i - p) = omega arith in (f (i - p)).1 (omega arith, subst (MarkAt u) e m)

    -- there is none
    pub hits_none : (m : ℕ) → g ≡ 0 → n ≤ 64 → m ≤ p + n → MarkFree u p m
    unfolding MarkFree
    hits_none m z l k i a t h = true≢false (sym (shown i a (omega arith) h) ∙ no_ones g (i - p) z (omega arith))

    -- the first of them
    pub hits_first : (g ≡ 0 → ⊥) → g < 2 ^ 64 → NextMark u p (p + count_leading_zeros 64 g)
    unfolding Hits
    hits_first z l =
        let d : 0 < g = omega (arith, z) in
        let here = (f (count_leading_zeros 64 g)).0 (first_one g d l) in record {
          past = omega arith;
          within = omega (arith, mark-fits u (p + count_leading_zeros 64 g) here.1);
          none_before = λ i a b m. true≢false (sym (shown i a (omega (arith, here.0)) m) ∙ before-first g d l (i - p) (omega arith));
          here = λ _. here.1;
        }

  -- a word's hits from the place p on, where no place from `from` to there has the mark
  module _ (from p n g : ℕ) (f : Hits u p n g) (c : MarkFree u from p) where
    pub free_word : (q : ℕ) → g ≡ 0 → n ≤ 64 → q ≤ p + n → MarkFree u from q
    free_word q z l k = free_join from p q c (hits_none p n g f q z l k)

    pub next_word : (g ≡ 0 → ⊥) → g < 2 ^ 64 → from ≤ p → NextMark u from (p + count_leading_zeros 64 g)
    next_word z l k = next-on from p (p + count_leading_zeros 64 g) c k (hits_first p n g f z l)

module _ (φ : Phase) (s : List ℕ) (n : ℕ) (h : n ≤ 8 * length s) where
  abbrev u : List Bool
  u = recorded φ s n

  mark-number : (p : ℕ) → MarkAt u p → number (cut p 12 (true_bits φ s)) ≡ 0x5F1
  unfolding MarkAt
  mark-number p m =
      let l : p + 12 ≤ n = omega (arith, mark-fits u p m, length-recorded φ s n h) in
      ap number (sym (cut-recorded φ p 12 n s l) ∙ sym (string_bits_lem u p 12) ∙ m)

  number-mark : (p : ℕ) → p + 12 ≤ n → number (cut p 12 (true_bits φ s)) ≡ 0x5F1 → MarkAt u p
  unfolding MarkAt
  number-mark p l e =
      string_bits_lem u p 12 ∙ cut-recorded φ p 12 n s l
      ∙ number_injective (cut p 12 (true_bits φ s)) mark (length-cut p 12 (true_bits φ s) (omega (arith, length_true φ s))) e

  module _ (from : ℕ) where
    -- one place more
    pub free_more : (p v : ℕ) → MarkFree u from p → v ≡ number (cut p 12 (true_bits φ s)) → (v ≡ 0x5F1 → ⊥) → MarkFree u from (p + 1)
    unfolding MarkFree
    free_more p v c e z i f t m =
        elim (dec_lt i p) [
          | yes l ↦ c i f l m
          | no l ↦ let g : i ≡ p = omega arith in z (e ∙ ap (λ (k : ℕ). number (cut k 12 (true_bits φ s))) (sym g) ∙ mark-number i m)
        ]

    pub next_here : (p v : ℕ) → MarkFree u from p → from ≤ p → p + 12 ≤ n → v ≡ number (cut p 12 (true_bits φ s)) → v ≡ 0x5F1
        → NextMark u from p
    unfolding MarkFree
    next_here p v c f l e z = record {
      past = f;
      within = omega (arith, length-recorded φ s n h);
      none_before = c;
      here = λ _. number-mark p l (sym e ∙ z);
    }

    pub next-end : (p : ℕ) → MarkFree u from p → from ≤ n → n < p + 12 → NextMark u from n
    unfolding MarkFree
    next-end p c f l = record {
      past = f;
      within = omega (arith, length-recorded φ s n h);
      none_before = λ i a b m. c i a (omega (arith, mark-fits u i m, length-recorded φ s n h)) m;
      here = λ a. absurd (omega (arith, length-recorded φ s n h));
    }

  -- the hits of a word are those of its bits of the recording
  pub hits_word : (q w g : ℕ) → q + 64 ≤ n → w ≡ number (cut q 64 (true_bits φ s)) → Hits (bits 64 w) 0 53 g → Hits u q 53 g
  unfolding Hits MarkAt
  hits_word q w g l e f i = (λ t. let m = (f i).0 t in (m.0, sym (same m.0) ∙ m.1), λ m. (f i).1 (m.0, same m.0 ∙ m.1))
    where
      window : bits 64 w ≡ cut q 64 (true_bits φ s)
      window = ap (bits 64) e ∙ bits_back 64 (cut q 64 (true_bits φ s)) (length-cut q 64 (true_bits φ s) (omega (arith, length_true φ s)))

      same : i < 53 → string_bits (bits 64 w) (0 + i) 1 12 ≡ string_bits u (q + i) 1 12
      same m =
          let k : q + (0 + i) ≡ q + i = omega arith in
          string_bits_lem (bits 64 w) (0 + i) 12 ∙ ap (cut (0 + i) 12) window ∙ cut-cut (0 + i) 12 q 64 (true_bits φ s) (omega arith)
          ∙ ap (λ (x : ℕ). cut x 12 (true_bits φ s)) k ∙ sym (cut-recorded φ (q + i) 12 n s (omega arith))
          ∙ sym (string_bits_lem u (q + i) 12)

  -- `marks(rec.word(p / 8)) << (p % 8)`
  pub hits_at : (p w g : ℕ) → p + 64 ≤ n → w ≡ number (cut (8 * (p / 8)) 64 (true_bits φ s)) → Hits (bits 64 w) 0 53 g
      → Hits u p (53 - p % 8) (g * 2 ^ (p % 8) % 2 ^ 64)
  hits_at p w g l e f =
      hits_shl u (8 * (p / 8)) 53 (p % 8) p (53 - p % 8) g (omega arith) (omega arith) (hits_word (8 * (p / 8)) w g (omega arith) e f)
