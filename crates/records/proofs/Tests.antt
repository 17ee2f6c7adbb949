-- Laws of the tests of places that are not used and of the minus-zero mark. Assumes nothing.
use Rattle.std.specs.Prelude.{Ok, Err}
use mathlib.Core.Path.{◌≡◌, refl, sym, ap, ◌∙◌}
use mathlib.Core.Bool.{Bool, true, false, cond, not, ◌&&◌, ◌||◌}
use mathlib.Core.List.{List, [], ◌∷◌}
use Prim.Native.Nat.{ℕ, zero, suc, ◌+◌, ◌-◌, ◌/◌, ◌%◌, ◌<◌, ◌≤◌}
use native.Mathlib.Omega.{arith}
use native.Mathlib.Numerals.{add-one}
use lib.IntN.{ℤ, pos}
use lib.ListN.{length, length-drop, get_or, take, drop, replicate}
use lib.Seq.{take_all}
use Rattle.bits.specs.Bits.{odd}
use Rattle.format.proofs.FieldLaws.{stray-zeros, mark_bits_none}
use Rattle.format.proofs.Information.{length_information}
use Rattle.format.specs.declared.Refusal.TheVariants.{MinusZero}
use Rattle.format.specs.Fields.{Field, unsigned, signed, absent, is_absent, is_signed}
use Rattle.format.specs.Records.{is_zero, unused, may_bear, mark_bits, stray}
use Rattle.format.specs.Types.{places, places_of}
use Rattle.std.specs.List.{list_any}
use Rattle.types.specs.declared.rows.Place.{Place}
use Rattle.types.specs.Rows.{no_place, Describes}
use Rattle.types.proofs.Table.{place_at, few_used, used_at, drop_used}

-- ---- the mark

pub mark_set : (x : ℕ) (b : Bool) → x % 2 ≡ 1 → (odd x && b) ≡ b
mark_set x b e = rw e

pub mark_clear : (x : ℕ) (b : Bool) → (x % 2 ≡ 1 → ⊥) → (odd x && b) ≡ false
mark_clear x b n = let e : x % 2 ≡ 0 = omega arith in rw e

may_bear_lem : (f : Field) (v : ℤ) → (is_signed f && is_zero v) ≡ may_bear f v
may_bear_lem (unsigned w a b k) v = refl
may_bear_lem (signed w k) v = refl
may_bear_lem absent v = refl

-- ---- places that a type does not use

-- the places in front that are used tell nothing
unused_behind : (n : ℕ) (fs : List Field) (vs : List ℤ) → n ≤ length fs → n ≤ length vs
    → ((i : ℕ) → i < n → is_absent (get_or fs i absent) ≡ false) → unused fs vs ≡ unused (drop n fs) (drop n vs)
unfolding unused
unused_behind zero fs vs l m h = refl
unused_behind (suc n) [] vs l m h = absurd (omega arith)
unused_behind (suc n) (f ∷ fs) [] l m h = absurd (omega arith)
unused_behind (suc n) (f ∷ fs) (v ∷ vs) l m h =
    ap (λ (b : Bool). (b && not (is_zero v)) || unused fs vs) (h 0 (omega arith))
    ∙ unused_behind n fs vs (omega arith) (omega arith) (λ i k. h (suc i) (omega arith))

unused_absent : (m : ℕ) (vs : List ℤ) → length vs ≡ m → unused (replicate m absent) vs ≡ list_any (λ v. not (is_zero v)) vs
unfolding unused
unused_absent zero [] e = refl
unused_absent zero (v ∷ vs) e = absurd (omega arith)
unused_absent (suc m) [] e = refl
unused_absent (suc m) (v ∷ vs) e = ap (λ (b : Bool). not (is_zero v) || b) (unused_absent m vs (omega arith))

-- the numbers behind the places of the table tell all
pub unused_is : {t : ℕ} {table : List Place} (vs : List ℤ) → Describes t table → length vs ≡ places
    → list_any (λ v. not (is_zero v)) (take (places - length table) (drop (length table) vs)) ≡ unused (places_of t) vs
unused_is {t} {table} vs d e =
    let n = length table in
    let few = few_used d in
    let fs = length_information t in
    let long : length (drop n vs) ≡ places - n = length-drop n vs ∙ ap (λ (k : ℕ). k - n) e in
    ap (list_any (λ v. not (is_zero v))) (take_all (places - n) (drop n vs) (omega arith))
    ∙ sym (unused_behind n (places_of t) vs (omega (arith, fs)) (omega arith) (used_at d)
    ∙ ap (λ (gs : List Field). unused gs (drop n vs)) (drop_used d)
    ∙ unused_absent (places - n) (drop n vs) long)

-- ---- the mark's bits

-- what the code finds at i: a signed field's zero, or none past the last place
pub may_at : {t : ℕ} {table : List Place} (i : ℕ) (v : ℤ) → Describes t table
    → ((get_or table i no_place).signed && is_zero v) ≡ may_bear (get_or (places_of t) i absent) v
may_at i v d = rw (place_at d i, may_bear_lem)

pub stray-done : (fs : List Field) (vs : List ℤ) (k n x : ℕ) → x ≡ 0 → stray fs vs (mark_bits k x) n ≡ Ok tt
stray-done fs vs k n x e =
    ap (λ (y : ℕ). stray fs vs (mark_bits k y) n) e ∙ ap (λ (ms : List Bool). stray fs vs ms n) (mark_bits_none k) ∙ stray-zeros fs vs k n

-- past the last bit nothing strays
pub stray-end : (fs : List Field) (vs : List ℤ) (n i marks : ℕ) → n ≤ i → Ok tt ≡ stray fs vs (mark_bits (n - i) marks) i
unfolding stray mark_bits
stray-end fs vs n i marks h = let o : n - i ≡ 0 = omega arith in rw o

-- a turn of the code's loop over the mark
module _ (fs : List Field) (vs : List ℤ) (n i marks : ℕ) (h : i < n) where
  abbrev strays : Bool
  strays = odd marks && not (may_bear (get_or fs i absent) (get_or vs i (pos 0)))

  stray_turn : stray fs vs (mark_bits (n - i) marks) i
      ≡ cond strays (Err (MinusZero i)) (stray fs vs (mark_bits (n - (i + 1)) (marks / 2)) (i + 1))
  unfolding stray mark_bits
  stray_turn =
      let o : n - i ≡ suc (n - (i + 1)) = omega arith in
      rw (o, add-one i)

  pub stray-next : (odd marks && not (may_bear (get_or fs i absent) (get_or vs i (pos 0)))) ≡ false
      → stray fs vs (mark_bits (n - (i + 1)) (marks / 2)) (i + 1) ≡ stray fs vs (mark_bits (n - i) marks) i
  stray-next f = rw (stray_turn, f)

  pub stray-found : (odd marks && not (may_bear (get_or fs i absent) (get_or vs i (pos 0)))) ≡ true
      → Err (MinusZero i) ≡ stray fs vs (mark_bits (n - i) marks) i
  stray-found f = rw (stray_turn, f)
