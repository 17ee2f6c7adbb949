-- Facts of every type's fields, computed; and what the code's table says at a place. Assumes nothing.
use mathlib.Core.Path.{◌≡◌, refl, sym, ap, ◌∙◌}
use mathlib.Core.Bool.{Bool, true, false, not, beq, false≢true, and-eq-true_iff}
use mathlib.Core.List.{List, [], ◌∷◌, ◌++◌}
use Prim.Native.Nat.{ℕ, zero, suc, ◌+◌, ◌-◌, ◌<◌, ◌≤◌}
use native.Mathlib.Omega.{arith}
use borrow.Author.Tests.{ltb-true, leb-true, not-true, eqb-false}
use lib.Dec.{eqb, leb, ltb}
use lib.ListN.{length, length-map, drop, replicate, get_or, get_or-append, get_or-map}
use lib.Seq.{drop-append_seam}
use Rattle.std.specs.List.{list_all}
use Rattle.format.specs.Fields.{Field, widest, absent, width, is_signed, is_absent, total}
use Rattle.format.specs.Types.{typed, find, places, places_of}
use Rattle.format.proofs.Information.{every, every_head, every_at, every_place, every_type, padded, widths, places-from}
use Rattle.types.specs.declared.rows.Place.{Place}
use Rattle.types.specs.Rows.{place_of, no_place, Describes, narrow}

-- ---- every type

-- only a place that its type does not use is 0 bits wide
abbrev pub wide : Field → Bool
wide f = beq (eqb (width f) 0) (is_absent f)

pub all_wide : (t : ℕ) → every wide (places_of t) ≡ true
all_wide = every_place wide refl

pub width_tells : (f : Field) → wide f ≡ true → eqb (width f) 0 ≡ is_absent f
width_tells f = at (eqb (width f) 0) (is_absent f)
  where
    at : (a b : Bool) → beq a b ≡ true → a ≡ b
    at true true e = refl
    at true false e = absurd (false≢true e)
    at false true e = absurd (false≢true e)
    at false false e = refl

-- ---- a table at a place
every_within : (test : Field → Bool) (fs : List Field) (i : ℕ) → every test fs ≡ true → i < length fs → test (get_or fs i absent) ≡ true
every_within test [] i e h = absurd (omega arith)
every_within test (f ∷ fs) zero e h = (every_head test f fs e).0
every_within test (f ∷ fs) (suc i) e h = every_within test fs i (every_head test f fs e).1 (omega arith)

pub total_absent : (n : ℕ) → total (replicate n absent) ≡ 0
total_absent zero = refl
total_absent (suc n) = omega (arith, total_absent n)

get_or-padded : (ps : List Place) (n i : ℕ) → get_or (ps ++ replicate n no_place) i no_place ≡ get_or ps i no_place
get_or-padded [] zero i = refl
get_or-padded [] (suc n) zero = refl
get_or-padded [] (suc n) (suc i) = get_or-padded [] n i
get_or-padded (p ∷ ps) n zero = refl
get_or-padded (p ∷ ps) n (suc i) = get_or-padded ps n i

module _ {kind : ℕ} {table : List Place} (d : Describes kind table) where
  -- past the end of the table a place is unused, and its field absent
  pub place_at : (i : ℕ) → get_or table i no_place ≡ place_of (get_or (places_of kind) i absent)
  place_at i =
      sym (get_or-padded table (places - length table) i) ∙ ap (λ (ps : List Place). get_or ps i no_place) d.whole
      ∙ get_or-map place_of (places_of kind) i absent

  pub length_used : length table ≡ length (find kind typed)
  length_used = ap length d.used ∙ length-map (find kind typed) place_of

  pub few_used : length table ≤ places
  few_used =
      let few = every_type (λ t fs. leb (length fs) places) refl (λ t. refl) kind in
      omega (arith, length_used, leb-true (length (find kind typed)) places few)

  -- a place of the table is used
  pub used_at : (i : ℕ) → i < length table → is_absent (get_or (places_of kind) i absent) ≡ false
  unfolding places_of
  used_at i h =
      let fs = find kind typed in
      let k : i < length fs = omega (arith, length_used) in
      let used = every_type (λ t fs. every (λ f. not (is_absent f)) fs) refl (λ t. refl) kind in
      ap is_absent (get_or-append fs (replicate (places - length fs) absent) absent i k)
      ∙ not-true _ (every_within (λ f. not (is_absent f)) fs i used k)

  -- the places from the end of the table on
  pub drop_used : drop (length table) (places_of kind) ≡ replicate (places - length table) absent
  unfolding places_of
  drop_used =
      let fs = find kind typed in
      let k : length table ≡ length fs = length_used in
      ap (λ (n : ℕ). drop n (fs ++ replicate (places - length fs) absent)) k
      ∙ drop-append_seam fs (replicate (places - length fs) absent)
      ∙ ap (λ (n : ℕ). replicate (places - n) absent) (sym k)

  -- a place whose range is narrower than its width is used
  pub narrow_used : (k : ℕ) → k < length (narrow (places_of kind) 0) → get_or (narrow (places_of kind) 0) k 0 < length table
  unfolding places_of
  narrow_used k h =
      let fs = find kind typed in
      let all : list_all (λ i. ltb i (length fs)) (narrow (padded fs) 0) ≡ true =
      every_type (λ t fs. list_all (λ i. ltb i (length fs)) (narrow (padded fs) 0)) refl (λ t. refl) kind in
      rw length_used (all_at (length fs) (narrow (padded fs) 0) k all h)
    where
      all_at : (n : ℕ) (is : List ℕ) (k : ℕ) → list_all (λ i. ltb i n) is ≡ true → k < length is → get_or is k 0 < n
      all_at n [] k e h = absurd (omega arith)
      all_at n (i ∷ is) zero e h = ltb-true i n ((and-eq-true_iff (ltb i n) (list_all (λ i. ltb i n) is)).0 e).0
      all_at n (i ∷ is) (suc k) e h = all_at n is k ((and-eq-true_iff (ltb i n) (list_all (λ i. ltb i n) is)).0 e).1 (omega arith)

  pub none_past : total (drop (length table) (places_of kind)) ≡ 0
  none_past = ap total drop_used ∙ total_absent (places - length table)

  -- a place has the width and the sign of its field, which is narrow, and signed has a bit beside its sign
  pub width_at : (i : ℕ) → (get_or table i no_place).width ≡ width (get_or (places_of kind) i absent)
  width_at i = ap (λ (p : Place). p.width) (place_at i)

  pub sign_at : (i : ℕ) → (get_or table i no_place).signed ≡ is_signed (get_or (places_of kind) i absent)
  sign_at i = ap (λ (p : Place). p.signed) (place_at i)

  pub narrow_at : (i : ℕ) → (get_or table i no_place).width ≤ widest
  narrow_at i = omega (arith, width_at i, (widths kind i).0)

  pub signed_at : (i : ℕ) → (get_or table i no_place).signed ≡ true → 2 ≤ (get_or table i no_place).width
  signed_at i t = omega (arith, width_at i, (widths kind i).1 (sym (sign_at i) ∙ t))

  -- one of the table has bits, and the places go on behind it
  pub some_at : (i : ℕ) → i < length table → 0 < (get_or table i no_place).width
  some_at i h =
      let f = get_or (places_of kind) i absent in
      let used : eqb (width f) 0 ≡ false =
      width_tells f (every_at wide (places_of kind) i refl (all_wide kind)) ∙ used_at i h in
      omega (arith, width_at i, eqb-false (width f) 0 used)

  pub next_at : (i : ℕ) → i < length table → drop i (places_of kind) ≡ get_or (places_of kind) i absent ∷ drop (i + 1) (places_of kind)
  next_at i h = places-from kind i (omega (arith, few_used))

  -- a type without fields has no bits of them, and one with fields has some
  pub no_bits : length table ≡ 0 → total (places_of kind) ≡ 0
  no_bits e = ap (λ (n : ℕ). total (drop n (places_of kind))) (sym e) ∙ none_past

  pub some_bits : 0 < length table → 0 < total (places_of kind)
  some_bits h = omega (arith, width_at 0, some_at 0 h, ap total (next_at 0 h))
