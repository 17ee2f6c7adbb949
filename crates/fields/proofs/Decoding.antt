-- What the loop over a type's places has decoded. Assumes nothing.
use mathlib.Core.Path.{◌≡◌, refl, sym, ap, ap₂, ◌∙◌}
use mathlib.Core.Bool.{Bool, true, false, true≢false, ◌&&◌}
use mathlib.Core.List.{List, [], ◌∷◌}
use mathlib.Core.Logic.{inl, inr}
use Prim.Native.Nat.{ℕ, suc, ◌+◌, ◌-◌, ◌*◌, ◌%◌, ◌^◌, ◌≤◌, ◌<◌}
use native.Mathlib.Nat.{mul_assoc, mul_comm, mul-add}
use native.Mathlib.Numerals.{add-one}
use native.Mathlib.Omega.{arith}
use lib.Dec.{eqb}
use lib.IntN.{ℤ, pos}
use lib.ListN.{length, length-set, length-drop, length-replicate, take, drop, replicate, get_or, set}
use lib.Pow.{pow-add, pow_mono}
use lib.Seq.{take_all, drop-cons, drop-drop, drop-set-lt}
use borrow.Author.Tests.{eq-eqb}
use Rattle.std.proofs.lemmas.Nat.{one_shl}
use Rattle.bits.specs.Bits.{bit, number, bits, cut, put}
use Rattle.bits.specs.Signed.{signed_of, is_minus_zero}
use Rattle.bits.proofs.Lists.{length-cut, put_same, put-cons, put_whole}
use Rattle.bits.proofs.Numbers.{bits_back, number-cut-lt}
use Rattle.format.specs.Fields.{Field, unsigned, signed, absent, width, is_signed, total, value, marked, values, minus_zeros}
use Rattle.format.specs.Records.{mark_of}
use Rattle.format.specs.Types.{places, mark_width, places_of, raw_count}
use Rattle.format.proofs.Information.{every, every_head, every_drop, marks_cover, length_information, length-values}
use Rattle.format.proofs.Information.{length-minus_zeros, mark_of-lt, fields-or_raw}
use Rattle.types.proofs.Table.{wide, all_wide, width_tells, few_used, width_at, sign_at, next_at, none_past}
use Rattle.types.specs.declared.rows.Place.{Place}
use Rattle.types.specs.Rows.{no_place, Describes}
use Rattle.fields.specs.Decoded.{number_of, Decoded}

-- ---- one field
bits-here : (w : ℕ) (u : List Bool) (at x : ℕ) → at + w ≤ length u → x ≡ number (cut at w u) → bits w x ≡ cut at w u
bits-here w u at x h e = ap (bits w) e ∙ bits_back w (cut at w u) (length-cut at w u h)

number-here : (f : Field) (u : List Bool) (at x : ℕ) → at + width f ≤ length u → x ≡ number (cut at (width f) u)
    → number_of (is_signed f) (width f) x ≡ value f (take (width f) (drop at u))
unfolding cut
number-here (unsigned w a b k) u at x h e = ap pos e
number-here (signed w k) u at x h e = ap signed_of (bits-here w u at x h e)
number-here absent u at x h e = ap pos e

mark-here : (f : Field) (u : List Bool) (at x : ℕ) → at + width f ≤ length u → x ≡ number (cut at (width f) u)
    → is_signed f && is_minus_zero (bits (width f) x) ≡ marked f (take (width f) (drop at u))
unfolding cut
mark-here (unsigned w a b k) u at x h e = refl
mark-here (signed w k) u at x h e = ap is_minus_zero (bits-here w u at x h e)
mark-here absent u at x h e = refl

-- ---- the loop

-- `if b { minus += 1 << i }`
pub marked_here : {b : Bool} (i minus : ℕ) {m : ℕ} → b ≡ true → i < mark_width → m ≡ minus + 1 * 2 ^ i % 2 ^ mark_width
    → m ≡ minus + bit b * 2 ^ i
marked_here i minus e h f = f ∙ ap (λ (k : ℕ). minus + k) (one_shl i mark_width h) ∙ rw e (omega arith)

pub unmarked_here : {b : Bool} (i minus : ℕ) {m : ℕ} → b ≡ false → m ≡ minus → m ≡ minus + bit b * 2 ^ i
unmarked_here i minus e f = f ∙ rw e (omega arith)

-- The loop has come to the place i of the record and to the place `at` of the bits `u`; the fields begin at their place `from`.
pub record ReadSoFar (u : List Bool) (from kind : ℕ) (numbers : List ℤ) (minus at i : ℕ) : Type 0 where
  pub long : length numbers ≡ places
  pub place : at + total (drop i (places_of kind)) ≡ from + total (places_of kind)
  pub filled : put i (values (drop i (places_of kind)) (drop at u)) numbers ≡ values (places_of kind) (drop from u)
  pub rest : drop i numbers ≡ replicate (places - i) (pos 0)
  pub mark : minus + 2 ^ i * mark_of (minus_zeros (drop i (places_of kind)) (drop at u))
      ≡ mark_of (minus_zeros (places_of kind) (drop from u))

pub read_start : (u : List Bool) (from kind : ℕ) {numbers : List ℤ} {minus : ℕ} → numbers ≡ replicate places (pos 0) → minus ≡ 0
    → ReadSoFar u from kind numbers minus from 0
read_start u from kind {numbers} blank unmarked =
    let fs = places_of kind in
    let l : length numbers ≡ places = rw blank (length-replicate places (pos 0)) in
    record {
      long = l;
      place = refl;
      filled = put_whole (values fs (drop from u)) numbers (length-values fs (drop from u) ∙ length_information kind ∙ sym l);
      rest = blank;
      mark = omega arith;
    }

put_rest : (i : ℕ) (l : List ℤ) → i ≤ length l → put i (drop i l) l ≡ l
unfolding cut
put_rest i l h =
    ap (λ (q : List ℤ). put i q l) (sym (take_all (length l - i) (drop i l) (omega (arith, length-drop i l))))
    ∙ put_same i (length l - i) l (omega arith)

-- fields without bits are absent: their numbers are 0, and none is marked
none_left : (fs : List Field) (p : List Bool) → every wide fs ≡ true → total fs ≡ 0
    → (values fs p ≡ replicate (length fs) (pos 0)) × (mark_of (minus_zeros fs p) ≡ 0)
unfolding values minus_zeros mark_of
none_left [] p e z = (refl, refl)
none_left (absent ∷ fs) p e z =
    let r = none_left fs p (every_head wide absent fs e).1 (omega arith) in
    (ap (λ (vs : List ℤ). pos 0 ∷ vs) r.0, omega (arith, r.1))
none_left (unsigned w a b k ∷ fs) p e z =
    let q : eqb w 0 ≡ true = eq-eqb w 0 (omega arith) in
    absurd (true≢false (sym q ∙ width_tells (unsigned w a b k) (every_head wide (unsigned w a b k) fs e).0))
none_left (signed w k ∷ fs) p e z =
    let q : eqb w 0 ≡ true = eq-eqb w 0 (omega arith) in
    absurd (true≢false (sym q ∙ width_tells (signed w k) (every_head wide (signed w k) fs e).0))

-- a type that has raw bits has no fields: what is blank is theirs
pub no_fields : (kind : ℕ) (p : List Bool) {numbers : List ℤ} {minus : ℕ} → (raw_count kind ≡ 0 → ⊥)
    → numbers ≡ replicate places (pos 0) → minus ≡ 0 → Decoded kind p numbers minus
no_fields kind p raw blank unmarked =
    let none : total (places_of kind) ≡ 0 = elim (fields-or_raw kind) [ inl e ↦ e | inr e ↦ absurd (raw e) ] in
    let n = none_left (places_of kind) p (all_wide kind) none in
    record {
      numbers = blank ∙ sym (n.0 ∙ ap (λ (k : ℕ). replicate k (pos 0)) (length_information kind));
      mark = unmarked ∙ sym n.1;
    }

module _ {u : List Bool} {from kind : ℕ} {numbers : List ℤ} {minus at i : ℕ} (c : ReadSoFar u from kind numbers minus at i) where
  -- all fields
  pub read_all : {table : List Place} → Describes kind table → i ≡ length table
      → Decoded kind (drop from u) numbers minus
  read_all d e =
      let fs = drop i (places_of kind) in
      let h : i ≤ places = omega (arith, few_used d) in
      let none : total fs ≡ 0 = ap (λ (k : ℕ). total (drop k (places_of kind))) e ∙ none_past d in
      let n = none_left fs (drop at u) (every_drop wide (places_of kind) i (all_wide kind)) none in
      let k : length fs ≡ places - i = length-drop i (places_of kind) ∙ ap (λ (m : ℕ). m - i) (length_information kind) in
      let same : values fs (drop at u) ≡ drop i numbers = n.0 ∙ ap (λ (m : ℕ). replicate m (pos 0)) k ∙ sym c.rest in
      let m : 2 ^ i * mark_of (minus_zeros fs (drop at u)) ≡ 2 ^ i * 0 = ap (λ (x : ℕ). 2 ^ i * x) n.1 in
      record {
        numbers = sym (ap (λ (q : List ℤ). put i q numbers) same ∙ put_rest i numbers (omega (arith, c.long))) ∙ c.filled;
        mark = omega (arith, c.mark, m);
      }

  -- the mark so far is a part of the whole
  pub mark-fits : minus < 2 ^ mark_width
  mark-fits =
      let ms = minus_zeros (places_of kind) (drop from u) in
      let n : length ms ≡ places = length-minus_zeros (places_of kind) (drop from u) ∙ length_information kind in
      let wide : 2 ^ places ≤ 2 ^ mark_width = pow_mono marks_cover in
      omega (arith, c.mark, mark_of-lt ms, ap (λ (k : ℕ). 2 ^ k) n, wide)

  -- the place at hand: its field, as the table has it
  module _ {table : List Place} (d : Describes kind table) (h : i < length table) where
    abbrev f : Field
    f = get_or (places_of kind) i absent

    abbrev w : ℕ
    w = (get_or table i no_place).width

    l : i < places
    l = omega (arith, few_used d)

    -- the mark has a bit for it, and it lies in the bits
    pub mark-place : i < mark_width
    mark-place = omega (arith, l, marks_cover)

    pub inside_here : at + (get_or table i no_place).width ≤ from + total (places_of kind)
    inside_here = omega (arith, c.place, ap total (next_at d i h), width_at d i)

    -- its bits are read
    module _ (k : from + total (places_of kind) ≤ length u) {x : ℕ} (ex : x ≡ number (cut at ((get_or table i no_place).width) u)) where
      pub small_here : x < 2 ^ (get_or table i no_place).width
      small_here = rw ex (number-cut-lt at w u (omega (arith, inside_here)))

      room : at + width f ≤ length u
      room = omega (arith, inside_here, width_at d i)

      x_is : x ≡ number (cut at (width f) u)
      x_is = ex ∙ ap (λ (k : ℕ). number (cut at k u)) (width_at d i)

      on : drop (width f) (drop at u) ≡ drop (at + w) u
      on = drop-drop (width f) at u ∙ ap (λ (k : ℕ). drop (at + k) u) (sym (width_at d i))

      module _ {v : ℤ} {m : ℕ} (ev : v ≡ number_of (get_or table i no_place).signed (get_or table i no_place).width x)
          (em : m ≡ minus + bit ((get_or table i no_place).signed && is_minus_zero (bits (get_or table i no_place).width x)) * 2 ^ i) where
        v_is : v ≡ value f (take (width f) (drop at u))
        v_is = ev ∙ ap₂ (λ (b : Bool) (k : ℕ). number_of b k x) (sign_at d i) (width_at d i) ∙ number-here f u at x room x_is

        m_is : m ≡ minus + bit (marked f (take (width f) (drop at u))) * 2 ^ i
        m_is =
            em ∙ ap₂ (λ (b : Bool) (k : ℕ). minus + bit (b && is_minus_zero (bits k x)) * 2 ^ i) (sign_at d i) (width_at d i)
            ∙ ap (λ (b : Bool). minus + bit b * 2 ^ i) (mark-here f u at x room x_is)

        values_more : values (drop i (places_of kind)) (drop at u) ≡ v ∷ values (drop (i + 1) (places_of kind)) (drop (at + w) u)
        unfolding values
        values_more =
            ap (λ (fs : List Field). values fs (drop at u)) (next_at d i h)
            ∙ ap₂ (λ (z : ℤ) (q : List Bool). z ∷ values (drop (i + 1) (places_of kind)) q) (sym v_is) on

        mark_more : m + 2 ^ (i + 1) * mark_of (minus_zeros (drop (i + 1) (places_of kind)) (drop (at + w) u))
            ≡ mark_of (minus_zeros (places_of kind) (drop from u))
        unfolding minus_zeros mark_of
        mark_more =
            let fs = drop (i + 1) (places_of kind) in
            let n = mark_of (minus_zeros fs (drop (at + w) u)) in
            let b = bit (marked f (take (width f) (drop at u))) in
            let split : mark_of (minus_zeros (drop i (places_of kind)) (drop at u)) ≡ b + 2 * n =
            ap (λ (gs : List Field). mark_of (minus_zeros gs (drop at u))) (next_at d i h)
            ∙ ap (λ (q : List Bool). b + 2 * mark_of (minus_zeros fs q)) on in
            let whole : minus + 2 ^ i * (b + 2 * n) ≡ mark_of (minus_zeros (places_of kind) (drop from u)) =
            ap (λ (k : ℕ). minus + 2 ^ i * k) (sym split) ∙ c.mark in
            let shifted : 2 ^ (i + 1) * n ≡ 2 ^ i * (2 * n) = ap (λ (k : ℕ). k * n) (pow-add 2 i 1) ∙ mul_assoc (2 ^ i) 2 n in
            omega (arith, whole, shifted, m_is, mul_comm b (2 ^ i), mul-add (2 ^ i) b (2 * n))

        rest-on : drop (i + 1) (set numbers i v) ≡ replicate (places - (i + 1)) (pos 0)
        rest-on =
            let n : places - i ≡ suc (places - (i + 1)) = omega (arith, l) in
            let here : drop i numbers ≡ get_or numbers i (pos 0) ∷ drop (i + 1) numbers =
            drop-cons numbers i (pos 0) (omega (arith, c.long, l))
            ∙ ap (λ (k : ℕ). get_or numbers i (pos 0) ∷ drop k numbers) (sym (add-one i)) in
            drop-set-lt (i + 1) numbers i v (omega arith)
            ∙ ap (λ (vs : List ℤ). drop 1 vs) (sym here ∙ c.rest ∙ ap (λ (k : ℕ). replicate k (pos 0)) n)

        pub read_on : ReadSoFar u from kind (set numbers i v) m (at + (get_or table i no_place).width) (i + 1)
        read_on =
            let fs = drop (i + 1) (places_of kind) in
            let vs = values fs (drop (at + w) u) in
            let k : i + suc (length vs) ≤ length numbers =
            omega (arith, length-values fs (drop (at + w) u), length-drop (i + 1) (places_of kind), length_information kind, c.long, l) in
            record {
              long = length-set numbers i v ∙ c.long;
              place = omega (arith, c.place, ap total (next_at d i h), width_at d i);
              rest = rest-on;
              filled = sym (put-cons i v vs numbers k) ∙ ap (λ (q : List ℤ). put i q numbers) (sym values_more) ∙ c.filled;
              mark = mark_more;
            }
