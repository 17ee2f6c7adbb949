-- Laws of the test of ranges. Assumes nothing.
use Rattle.std.specs.Prelude.{Ok, Err}
use Rattle.format.specs.Tests.{Answer, when, ◌then◌}
use Rattle.format.specs.declared.Refusal.{Refusal}
use Rattle.format.proofs.Order.{passed_then, refused_then, cond_then, when_pass}
use mathlib.Core.Path.{◌≡◌, refl, sym, ap, ◌∙◌}
use mathlib.Core.Bool.{Bool, true, false, cond, not, ◌&&◌}
use mathlib.Core.List.{List, [], ◌∷◌, ◌++◌}
use Prim.Native.Nat.{ℕ, zero, suc, ◌+◌, ◌-◌, ◌^◌, ◌<◌}
use native.Mathlib.Omega.{arith}
use native.Mathlib.Numerals.{add-one}
use lib.Dec.{eqb, leb, ltb}
use native.Mathlib.Decide.{dec_le}
use lib.IntN.{ℤ, pos, negsuc}
use lib.ListN.{length, get_or, drop, replicate}
use lib.Seq.{drop-cons}
use lib.Signed.{le_z}
use mir.Syntax.{w64}
use mir.Facts.{to_z-of_z}
use mir.Val.{SFits, of_z, to_z}
use borrow.Author.Tests.{not-false, ne_eqb, le-leb, lt-leb, le-ltb, lt-ltb}
use Rattle.std.specs.Ordering.{MatchOrdering, is_le, nat_cmp, int_cmp}
use Rattle.std.specs.Cmp.{ranks}
use Rattle.std.specs.declared.cmp.Ordering.{Ordering}
use Rattle.std.specs.declared.cmp.Ordering.TheVariants.{Less, Equal, Greater}
use Rattle.format.proofs.Information.{length_information}
use Rattle.format.specs.declared.Refusal.TheVariants.{OutOfRange}
use Rattle.format.specs.Fields.{Field, unsigned, absent, in_range}
use Rattle.format.specs.declared.Record.{Record}
use Rattle.format.specs.Records.{ranges, first_outside, numbers_of, is_zero}
use Rattle.format.specs.Types.{places, service, places_of, fields_of}
use Rattle.types.specs.declared.rows.Place.{Place}
use Rattle.types.specs.Rows.{no_place, Describes}
use Rattle.types.proofs.Table.{place_at, few_used, used_at, drop_used}

-- the machine's test of a number for zero
pub zero_seen : (v : ℤ) → SFits w64 v → eqb (of_z w64 v) 0 ≡ is_zero v
zero_seen (pos n) f = refl
zero_seen (negsuc n) f = let h : n < 2 ^ 63 = f.sfits in ne_eqb (2 ^ 64 - suc n) 0 (omega arith)

-- ---- the test of ranges

-- how numbers are ordered, as the definitions say it
pub nat_seen : (a b : ℕ) → is_le (nat_cmp a b) ≡ leb a b
nat_seen a b = at (nat_cmp a b) (ranks a b)
  where
    at : (o : Ordering) → MatchOrdering o (a < b) (a ≡ b) (b < a) → is_le o ≡ leb a b
    at Less h = sym (le-leb a b (omega arith))
    at Equal h = sym (le-leb a b (omega arith))
    at Greater h = sym (lt-leb a b h)

below_seen : (a b : ℕ) → is_le (cond (ltb a b) Less (cond (ltb b a) Greater Equal)) ≡ leb a b
below_seen a b =
    elim (dec_le a b) [
      | yes l ↦ rw (le-leb a b l, le-ltb b a l) (either (ltb a b))
      | no l ↦ let h : b < a = omega arith in simp (lt-leb a b h, le-ltb a b (omega arith), lt-ltb b a h)
    ]
  where
    either : (c : Bool) → is_le (cond c Less Equal) ≡ true
    either true = refl
    either false = refl

int_seen : (a b : ℤ) → is_le (int_cmp a b) ≡ le_z a b
int_seen (pos a) (pos b) = below_seen a b
int_seen (pos a) (negsuc b) = refl
int_seen (negsuc a) (pos b) = refl
int_seen (negsuc a) (negsuc b) = below_seen b a

-- what `within` answers of a signed number, which the machine reads back
abbrev pub as_read : ℤ → ℤ
as_read z = to_z w64 (of_z w64 z)

abbrev pub among : ℤ → ℤ → ℤ → Bool
among a v b = is_le (int_cmp a v) && is_le (int_cmp v b)

module _ (field : ℕ) (a b : ℤ) {v : ℤ} (f : SFits w64 v) {x : Answer} (e : x ≡ when (not (among a (as_read v) b)) (OutOfRange field)) where
  pub signed_within : x ≡ when (not (le_z a v && le_z v b)) (OutOfRange field)
  signed_within = e ∙ rw (to_z-of_z {w = w64} f, int_seen a v, int_seen v b) refl

  pub signed_passed : x ≡ Ok tt → (le_z a v && le_z v b) ≡ true
  signed_passed h = not-false _ (when_pass (not (le_z a v && le_z v b)) (OutOfRange field) (sym signed_within ∙ h))

-- an unsigned field and a number that is not negative, as the code finds the first field that is out of range
pub outside_found : (w lo hi k v n later rest : ℕ) {found : ℕ} → found ≡ cond (is_le (nat_cmp lo v) && is_le (nat_cmp v hi)) later n
    → later ≡ rest → found ≡ cond (in_range (unsigned w lo hi k) (pos v)) rest n
unfolding in_range
outside_found w lo hi k v n later rest e f = e ∙ rw (nat_seen lo v, nat_seen v hi, f) refl

-- What fields answer before others that answer `y`, where the first of them that is out of range is number `found`, or none, 0.
abbrev pub found_then : ℕ → Answer → Answer
found_then found y = cond (eqb found 0) y (Err (OutOfRange found))

pub found_out : {found : ℕ} (y : Answer) → (found ≡ 0 → ⊥) → Err (OutOfRange found) ≡ found_then found y
found_out {found} y h = rw (ne_eqb found 0 h) refl

pub ranges_after : (fs gs : List Field) (vs ws : List ℤ) (n : ℕ) → length vs ≡ length fs
    → found_then (first_outside fs (vs ++ ws) (suc n)) (ranges gs ws (suc n + length fs)) ≡ ranges (fs ++ gs) (vs ++ ws) (suc n)
unfolding ranges first_outside
ranges_after [] gs [] ws n h = let e : suc n + 0 ≡ suc n = omega arith in ap (ranges gs ws) e
ranges_after [] gs (v ∷ vs) ws n h = absurd (omega arith)
ranges_after (f ∷ fs) gs [] ws n h = absurd (omega arith)
ranges_after (f ∷ fs) gs (v ∷ vs) ws n h =
    let e : suc n + length (f ∷ fs) ≡ suc (suc n) + length fs = omega arith in
    at (in_range f v) (ap (λ (m : ℕ). found_then (first_outside fs (vs ++ ws) (suc (suc n))) (ranges gs ws m)) e
    ∙ ranges_after fs gs vs ws (suc n) (omega arith))
  where
    at : (b : Bool) → found_then (first_outside fs (vs ++ ws) (suc (suc n))) (ranges gs ws (suc n + length (f ∷ fs)))
        ≡ ranges (fs ++ gs) (vs ++ ws) (suc (suc n))
        → found_then (cond b (first_outside fs (vs ++ ws) (suc (suc n))) (suc n)) (ranges gs ws (suc n + length (f ∷ fs)))
        ≡ cond b (ranges (fs ++ gs) (vs ++ ws) (suc (suc n))) (Err (OutOfRange (suc n)))
    at true g = g
    at false g = sym (found_out (ranges gs ws (suc n + length (f ∷ fs))) (λ e. omega arith))

-- fields 1 to 9, then the others
pub all_are : (r : Record) → found_then (first_outside service (numbers_of r) 1) (ranges (places_of r.kind) r.numbers 10)
    ≡ ranges (fields_of r.kind) (numbers_of r) 1
all_are r =
    ranges_after service (places_of r.kind) (
    pos r.kind ∷ pos r.satellite ∷ pos r.signal ∷ pos r.validity ∷ pos r.call ∷ pos r.attitude ∷ pos r.correction ∷ pos r.next
    ∷ pos r.time ∷ []
    ) r.numbers 0 refl

-- places that a type does not use take any number
ranges_absent : (m n : ℕ) (vs : List ℤ) → ranges (replicate m absent) vs n ≡ Ok tt
unfolding ranges in_range
ranges_absent zero n vs = refl
ranges_absent (suc m) n [] = refl
ranges_absent (suc m) n (v ∷ vs) = ranges_absent m (suc n) vs

-- what the table says of a type
module _ {t : ℕ} {table : List Place} (d : Describes t table) (i : ℕ) (vs : List ℤ) where
  -- past the last of its places all have passed
  pub ranges-end : i ≡ length table → Ok tt ≡ ranges (drop i (places_of t)) (drop i vs) (10 + i)
  ranges-end e = rw (e, drop_used d, ranges_absent)

  module _ (h : i < length table) where
    -- the number at a place that the type uses, tested by the table's range
    pub in_range_lem : SFits w64 (get_or table i no_place).least → SFits w64 (get_or table i no_place).most
        → SFits w64 (get_or vs i (pos 0))
        → among (as_read (get_or table i no_place).least) (as_read (get_or vs i (pos 0))) (as_read (get_or table i no_place).most)
        ≡ in_range (get_or (places_of t) i absent) (get_or vs i (pos 0))
    unfolding in_range
    in_range_lem a b e =
        rw (to_z-of_z {w = w64} a, to_z-of_z {w = w64} b, to_z-of_z {w = w64} e, int_seen _ _, int_seen _ _, place_at d i)
        (rw (used_at d i h) refl)

    -- a turn of the loop over the places: x is what the test at i finds
    module _ (l : length vs ≡ places) {x : Answer}
        (k : x ≡ when (not (in_range (get_or (places_of t) i absent) (get_or vs i (pos 0)))) (OutOfRange (10 + i))) where
      row_turn : ranges (drop i (places_of t)) (drop i vs) (10 + i)
          ≡ (x then ranges (drop (i + 1) (places_of t)) (drop (i + 1) vs) (10 + (i + 1)))
      unfolding ranges
      row_turn =
          let s : i < places = omega (arith, few_used d) in
          let g : i < length (places_of t) = omega (arith, length_information t) in
          let m : i < length vs = omega arith in
          let o : 10 + (i + 1) ≡ suc (10 + i) = omega arith in
          rw (drop-cons (places_of t) i absent, drop-cons vs i (pos 0), o, add-one i, k) (cond_then _ _ _)

      pub row-takes : x ≡ Ok tt
          → ranges (drop (i + 1) (places_of t)) (drop (i + 1) vs) (10 + (i + 1)) ≡ ranges (drop i (places_of t)) (drop i vs) (10 + i)
      row-takes f = rw (row_turn, f) (sym (passed_then _))

      pub row-refuses : {r : Refusal} → x ≡ Err r → Err r ≡ ranges (drop i (places_of t)) (drop i vs) (10 + i)
      row-refuses {r} f = rw (row_turn, f) (sym (refused_then r _))
