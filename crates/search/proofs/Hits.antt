-- The word of hits: its bit at a place is 1 exactly where the mark is. Assumes nothing.
use mathlib.Core.Path.{◌≡◌, refl, sym, ap, ap₂, ◌∙◌, subst}
use mathlib.Core.Bool.{Bool, beq, true, false, ◌&&◌, not, and_assoc, and-true, false≢true}
use mathlib.Core.List.{List, ◌∷◌}
use mathlib.Core.Logic.{◌↔◌}
use Prim.Native.Nat.{ℕ, zero, suc, ◌+◌, ◌-◌, ◌*◌, ◌%◌, ◌^◌, ◌≤◌, ◌<◌}
use native.Mathlib.Nat.{mod-lt}
use native.Mathlib.Decide.{dec_lt}
use native.Mathlib.Omega.{arith}
use lib.Bits.{bit_and}
use lib.ListN.{drop}
use lib.Pow.{pow_pos}
use lib.Seq.{drop-cons}
use Rattle.bits.specs.Bits.{bits, bit_at}
use Rattle.bits.proofs.Numbers.{length-bits}
use Rattle.bits.proofs.Words.{at-and, at-end, at-not, at_shl}
use Rattle.format.specs.Standing.{begins}
use Rattle.format.specs.Strings.{mark}
use Rattle.format.proofs.Agree.{begins-mark}
use Rattle.search.specs.Search.{MarkAt, Hits}

-- the twelve bits of the mark, b0 the first, in the six pairs of the code
abbrev matches : Bool → Bool → Bool → Bool → Bool → Bool → Bool → Bool → Bool → Bool → Bool → Bool → Bool
matches b0 b1 b2 b3 b4 b5 b6 b7 b8 b9 b10 b11 =
    (not b0 && b1 && (not b2 && b3)) && (b4 && b5 && (b6 && b7)) && (not b8 && not b9 && (not b10 && b11))

-- a bit compared with 1 is itself
beq_true : (b : Bool) → beq true b ≡ b
beq_true true = refl
beq_true false = refl

-- a bit compared with 0 is its opposite
beq_false : (b : Bool) → beq false b ≡ not b
beq_false true = refl
beq_false false = refl

-- twelve bits match where they begin as the mark does
matches_mark : (b0 b1 b2 b3 b4 b5 b6 b7 b8 b9 b10 b11 : Bool) (p : List Bool)
    → matches b0 b1 b2 b3 b4 b5 b6 b7 b8 b9 b10 b11
    ≡ begins mark (b0 ∷ b1 ∷ b2 ∷ b3 ∷ b4 ∷ b5 ∷ b6 ∷ b7 ∷ b8 ∷ b9 ∷ b10 ∷ b11 ∷ p)
matches_mark b0 b1 b2 b3 b4 b5 b6 b7 b8 b9 b10 b11 p = simp (beq_true, beq_false, and_assoc, and-true)

-- a bit of `x & y`, from the bits of x and y
both : (x y j : ℕ) {c d : Bool} → bit_at x j ≡ c → bit_at y j ≡ d → bit_at (bit_and x y) j ≡ c && d
both x y j e f = at-and x y j ∙ ap₂ (λ (c d : Bool). c && d) e f

-- where a bit of `x & y` is one, so is that of y
right : (x y j : ℕ) → bit_at (bit_and x y) j ≡ true → bit_at y j ≡ true
right x y j t = of (bit_at x j) (bit_at y j) (sym (at-and x y j) ∙ t)
  where
    of : (c d : Bool) → c && d ≡ true → d ≡ true
    of true d t = t
    of false d t = absurd (false≢true t)

-- the words that the code makes of the word w
module _ (w : ℕ) (h : w < 2 ^ 64) where
  abbrev up : ℕ
  up = w * 2 ^ 1 % 2 ^ 64

  abbrev rise : ℕ
  rise = bit_and (2 ^ 64 - 1 - w) up

  abbrev ones : ℕ
  ones = bit_and w up

  abbrev zeros : ℕ
  zeros = bit_and (2 ^ 64 - 1 - w) (2 ^ 64 - 1 - up)

  abbrev later : ℕ
  later = rise * 2 ^ 2 % 2 ^ 64

  abbrev second : ℕ
  second = bit_and ones (ones * 2 ^ 2 % 2 ^ 64)

  abbrev third : ℕ
  third = bit_and zeros later

  abbrev start : ℕ
  start = bit_and (bit_and rise later) (second * 2 ^ 4 % 2 ^ 64)

  abbrev hits : ℕ
  hits = bit_and start (third * 2 ^ 8 % 2 ^ 64)

  -- the last bit of a mark is in the word
  fits : (j : ℕ) → bit_at hits j ≡ true → j < 53
  fits j t =
      let more : bit_at later (j + 8) ≡ true =
      right zeros later (j + 8) (sym (at_shl third 8 j) ∙ right start (third * 2 ^ 8 % 2 ^ 64) j t) in
      let one : bit_at w (j + 8 + 2 + 1) ≡ true =
      sym (at_shl w 1 (j + 8 + 2)) ∙ right (2 ^ 64 - 1 - w) up (j + 8 + 2) (sym (at_shl rise 2 (j + 8)) ∙ more) in
      elim (dec_lt j 53) [ yes l ↦ l | no l ↦ absurd (false≢true (sym (at-end w (j + 8 + 2 + 1) (omega arith)) ∙ one)) ]

  module _ (j : ℕ) (l : j < 53) where
    -- the bit k places on
    abbrev b : ℕ → Bool
    b k = bit_at w (j + k)

    -- the bits from there, the first n one by one
    abbrev on : ℕ → ℕ → List Bool
    on zero k = drop (j + k) (bits 64 w)
    on (suc n) k = b k ∷ on n (suc k)

    drop-on : (n k : ℕ) → j + k + n ≤ 64 → drop (j + k) (bits 64 w) ≡ on n k
    unfolding bit_at
    drop-on zero k m = refl
    drop-on (suc n) k m =
        let e : suc (j + k) ≡ j + suc k = omega arith in
        drop-cons (bits 64 w) (j + k) false (omega (arith, length-bits 64 w))
        ∙ ap (λ (p : List Bool). b k ∷ p) (ap (λ (q : ℕ). drop q (bits 64 w)) e ∙ drop-on n (suc k) (omega arith))

    further : (x i k m : ℕ) → k + i ≡ m → bit_at (x * 2 ^ i % 2 ^ 64) (j + k) ≡ bit_at x (j + m)
    further x i k m e = let f : j + k + i ≡ j + m = omega arith in at_shl x i (j + k) ∙ ap (bit_at x) f

    next : (k : ℕ) → bit_at up (j + k) ≡ b (suc k)
    next k = further w 1 k (suc k) (omega arith)

    at_rise : (k : ℕ) → k ≤ 10 → bit_at rise (j + k) ≡ not (b k) && b (suc k)
    at_rise k m = both _ _ _ (at-not w (j + k) h (omega arith)) (next k)

    at_ones : (k : ℕ) → bit_at ones (j + k) ≡ b k && b (suc k)
    at_ones k = both _ _ _ refl (next k)

    at-zeros : (k : ℕ) → k ≤ 10 → bit_at zeros (j + k) ≡ not (b k) && not (b (suc k))
    at-zeros k m =
        both _ _ _ (at-not w (j + k) h (omega arith)) (at-not up (j + k) (mod-lt (w * 2 ^ 1) (pow_pos 64)) (omega arith) ∙ ap not (next k))

    at_later : (k m : ℕ) → k + 2 ≡ m → m ≤ 10 → bit_at later (j + k) ≡ not (b m) && b (suc m)
    at_later k m e l = further rise 2 k m e ∙ at_rise m l

    hit : bit_at hits (j + 0) ≡ begins mark (drop (j + 0) (bits 64 w))
    hit =
        both _ _ _ (both _ _ _ (both _ _ _ (at_rise 0 (omega arith)) (at_later 0 2 refl (omega arith)))
        (further second 4 0 4 refl ∙ both _ _ _ (at_ones 4) (further ones 2 4 6 refl ∙ at_ones 6)))
        (further third 8 0 8 refl ∙ both _ _ _ (at-zeros 8 (omega arith)) (at_later 8 10 refl (omega arith)))
        ∙ matches_mark (b 0) (b 1) (b 2) (b 3) (b 4) (b 5) (b 6) (b 7) (b 8) (b 9) (b 10) (b 11) (on 0 12)
        ∙ ap (begins mark) (sym (drop-on 12 0 (omega arith)))

    hit_mark : (bit_at hits (j + 0) ≡ true) ↔ MarkAt (bits 64 w) (j + 0)
    unfolding MarkAt
    hit_mark = (λ t. (begins-mark (bits 64 w) (j + 0)).0 (sym hit ∙ t), λ m. hit ∙ (begins-mark (bits 64 w) (j + 0)).1 m)

  pub the_hits : Hits (bits 64 w) 0 53 hits
  unfolding Hits
  the_hits j =
      let e : j + 0 ≡ j = omega arith in
      let f : j + 0 ≡ 0 + j = omega arith in (
        λ t. let l = fits j t in (l, subst (MarkAt (bits 64 w)) f ((hit_mark j l).0 (ap (bit_at hits) e ∙ t))),
        λ m. ap (bit_at hits) (sym e) ∙ (hit_mark j m.0).1 (subst (MarkAt (bits 64 w)) (sym f) m.1),
      )
