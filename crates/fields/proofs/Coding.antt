-- What the loop over a type's places has written. Assumes nothing.
use Rattle.std.specs.Prelude.{Ok}
use mathlib.Core.Path.{◌≡◌, refl, sym, ap, ap₂, ◌∙◌, subst}
use mathlib.Core.Bool.{Bool, true, false, ◌||◌, true≢false, false≢true}
use mathlib.Core.List.{List, [], ◌∷◌, ◌++◌}
use Prim.Native.Nat.{ℕ, zero, suc, ◌+◌, ◌-◌, ◌/◌, ◌%◌, ◌^◌, ◌≤◌, ◌<◌}
use native.Mathlib.Numerals.{add-one}
use native.Mathlib.Omega.{arith}
use lib.Dec.{eqb}
use lib.IntN.{ℤ, pos, nat_abs}
use lib.ListN.{length, length-append, drop, get_or}
use lib.Seq.{drop-cons}
use Rattle.bits.specs.Bits.{number, odd, is_one, bits, put}
use Rattle.bits.proofs.Lists.{put_none, put_join, length-put}
use Rattle.bits.proofs.Numbers.{number_lt, length-bits, bits_back}
use Rattle.bits.proofs.SignLaws.{signed_lt}
use Rattle.format.specs.declared.Record.{Record}
use Rattle.format.specs.declared.Refusal.TheVariants.{NotZero}
use Rattle.format.specs.Tests.{when}
use Rattle.format.specs.Fields.{Field, widest, unsigned, signed, absent, width, is_signed, total, code, codes}
use Rattle.format.specs.Records.{mark_bits, unused, overfilled, stray, field_tests, record_tests}
use Rattle.format.specs.Types.{places, mark_width, places_of}
use Rattle.format.proofs.Information.{every, every_head, every_at, every_drop, marks_cover, length_information, widths}
use Rattle.format.proofs.Order.{then_pass, when_pass}
use Rattle.format.proofs.Writing.{ranged}
use Rattle.format.proofs.FieldLaws.{or_left, sound, Passes, information_sound, length-code, value_code_lem, Fits, fits, length-mark_bits}
use Rattle.types.proofs.Table.{few_used, width_at, sign_at, narrow_at, next_at, none_past}
use Rattle.types.specs.declared.rows.Place.{Place}
use Rattle.types.specs.Rows.{no_place, Describes}
use Rattle.fields.specs.Coded.{code_of, Tested}
use Rattle.fields.specs.declared.words.FieldBits.{FieldBits}

-- ---- one field

-- the machine's test of the lowest bit
pub odd_seen : (x : ℕ) → eqb (x % 2) 1 ≡ odd x
odd_seen x = at (x % 2) (omega arith)
  where
    at : (n : ℕ) → n < 2 → eqb n 1 ≡ is_one n
    at zero h = refl
    at (suc zero) h = refl
    at (suc (suc n)) h = absurd (omega arith)

code_of_lem : (f : Field) (v : ℤ) (m : Bool) → code_of (is_signed f) (width f) v m ≡ code f v m
code_of_lem (unsigned w a b k) v m = refl
code_of_lem (signed w k) v m = refl
code_of_lem absent v m = refl

size_signed : (f : Field) (v : ℤ) (m : Bool) → sound f ≡ true → Passes f v m → is_signed f ≡ true → nat_abs v < 2 ^ (width f - 1)
size_signed (unsigned w a b k) v m g h e = absurd (false≢true e)
size_signed (signed w k) v m g h e =
    let f = signed w k in
    omega (arith, signed_lt (code f v m), ap nat_abs (value_code_lem f v m g h), ap (λ (n : ℕ). 2 ^ (n - 1)) (length-code f v m g))
size_signed absent v m g h e = absurd (false≢true e)

size_unsigned : (f : Field) (v : ℤ) (m : Bool) → sound f ≡ true → Passes f v m → is_signed f ≡ false
    → (v ≡ pos (nat_abs v)) × (nat_abs v < 2 ^ width f)
size_unsigned (unsigned w a b k) v m g h e =
    let f = unsigned w a b k in
    let n = number (code f v m) in
    let here : pos n ≡ v = value_code_lem f v m g h in
    let size : n ≡ nat_abs v = ap nat_abs here in
    (sym here ∙ ap pos size, omega (arith, size, number_lt (code f v m), ap (λ (n : ℕ). 2 ^ n) (length-code f v m g)))
size_unsigned (signed w k) v m g h e = absurd (true≢false e)
size_unsigned absent v m g h e =
    let here : pos 0 ≡ v = value_code_lem absent v m g h in
    let size : 0 ≡ nat_abs v = ap nat_abs here in
    (sym here ∙ ap pos size, omega (arith, size))

-- ---- numbers that fit
fit_same : {fs gs : List Field} {vs ws : List ℤ} {ms ns : List Bool} → fs ≡ gs → vs ≡ ws → ms ≡ ns → Fits fs vs ms → Fits gs ws ns
fit_same {fs} {gs} {vs} {ws} {ms} {ns} a b c t =
    subst (λ (z : List Bool). Fits gs ws z) c (subst (λ (z : List ℤ). Fits gs z ms) b (subst (λ (z : List Field). Fits z vs ms) a t))

fit_head : {f : Field} {fs : List Field} {v : ℤ} {vs : List ℤ} {m : Bool} {ms : List Bool} → Fits (f ∷ fs) (v ∷ vs) (m ∷ ms)
    → Passes f v m × Fits fs vs ms
fit_head (Fits.next h t) = (h, t)

length_fit : {fs : List Field} {vs : List ℤ} {ms : List Bool} → every sound fs ≡ true → Fits fs vs ms → length (codes fs vs ms) ≡ total fs
unfolding codes
length_fit g (Fits.end z) = refl
length_fit g (Fits.next {f} {v} {m} {fs} {vs} {ms} h t) =
    let s = every_head sound f fs g in
    omega (arith, length-append (code f v m) (codes fs vs ms), length-code f v m s.0, length_fit s.1 t)

-- ---- what passed tests say
pub tested : (r : Record) → record_tests r ≡ Ok tt → Tested (places_of r.kind) r.numbers r.minus
unfolding record_tests
tested r e =
    let fs = places_of r.kind in
    let filled = unused fs r.numbers || overfilled r in
    let e₁ = then_pass (field_tests r) _ e in
    let e₂ = then_pass (when filled NotZero) (stray fs r.numbers (mark_bits mark_width r.minus) 0) e₁.1 in
    record { ranged = (ranged r e₁.0).numbers; placed = or_left _ (overfilled r) (when_pass filled NotZero e₂.0); borne = e₂.1 }

-- ---- the loop

-- The loop has come to the place i of the record and to the place `at` of the bits `u`; the fields begin at the place `from` of `u₀`, the
-- bits as they were.
pub record WrittenSoFar (from kind minus : ℕ) (numbers : List ℤ) (u₀ u : List Bool) (at marks i : ℕ) : Type 0 where
  pub place : at + total (drop i (places_of kind)) ≡ from + total (places_of kind)
  pub room : from + total (places_of kind) ≤ length u
  pub fit : Fits (drop i (places_of kind)) (drop i numbers) (mark_bits (mark_width - i) marks)
  pub filled : put at (codes (drop i (places_of kind)) (drop i numbers) (mark_bits (mark_width - i) marks)) u
      ≡ put from (codes (places_of kind) numbers (mark_bits mark_width minus)) u₀

pub written_start : {from kind minus : ℕ} {numbers : List ℤ} {u₀ : List Bool} → from + total (places_of kind) ≤ length u₀
    → length numbers ≡ places → Tested (places_of kind) numbers minus → WrittenSoFar from kind minus numbers u₀ u₀ from minus 0
written_start {from} {kind} {minus} {numbers} h l t =
    let n = length_information kind in
    let ms = mark_bits mark_width minus in
    record {
      place = refl;
      room = h;
      fit =
          fits (places_of kind) numbers ms 10 (l ∙ sym n) (omega (arith, length-mark_bits mark_width minus, marks_cover))
          t.ranged t.placed t.borne;
      filled = refl;
    }

-- the same bits and the same place written in another way
pub written_same : {from kind minus : ℕ} {numbers : List ℤ} {u₀ u z : List Bool} {at n marks i : ℕ} → z ≡ u → n ≡ at
    → WrittenSoFar from kind minus numbers u₀ u at marks i → WrittenSoFar from kind minus numbers u₀ z n marks i
written_same {from} {kind} {minus} {numbers} {u₀} {u} {z} {at} {n} {marks} {i} e e' c =
    subst (λ (k : ℕ). WrittenSoFar from kind minus numbers u₀ z k marks i) (sym e')
    (subst (λ (p : List Bool). WrittenSoFar from kind minus numbers u₀ p at marks i) (sym e) c)

no_bits : (p : List Bool) → length p ≡ 0 → p ≡ []
no_bits [] e = refl
no_bits (b ∷ p) e = absurd (omega arith)

module _ {from kind minus : ℕ} {numbers : List ℤ} {u₀ u : List Bool} {at marks i : ℕ}
    (c : WrittenSoFar from kind minus numbers u₀ u at marks i) where
  -- all fields
  pub written_all : {table : List Place} → Describes kind table → i ≡ length table
      → u ≡ put from (codes (places_of kind) numbers (mark_bits mark_width minus)) u₀
  written_all d e =
      let none : total (drop i (places_of kind)) ≡ 0 = ap (λ (k : ℕ). total (drop k (places_of kind))) e ∙ none_past d in
      let more = codes (drop i (places_of kind)) (drop i numbers) (mark_bits (mark_width - i) marks) in
      let lm : length more ≡ total (drop i (places_of kind)) =
      length_fit (every_drop sound (places_of kind) i (information_sound kind)) c.fit in
      sym (ap (λ (p : List Bool). put at p u) (no_bits more (omega (arith, c.place))) ∙ put_none at u) ∙ c.filled

  -- the place at hand: its field, as the table has it
  module _ {table : List Place} (d : Describes kind table) (h : i < length table) where
    abbrev f : Field
    f = get_or (places_of kind) i absent

    abbrev w : ℕ
    w = (get_or table i no_place).width

    l : i < places
    l = omega (arith, few_used d)

    -- it lies in the bits
    pub room-here : at + (get_or table i no_place).width ≤ from + total (places_of kind)
    room-here = omega (arith, c.place, ap total (next_at d i h), width_at d i)

    -- its number and its bit of the mark
    module _ (ln : length numbers ≡ places) {v : ℤ} {m : Bool} (ev : v ≡ get_or numbers i (pos 0)) (em : m ≡ odd marks) where
      numbers-here : drop i numbers ≡ v ∷ drop (i + 1) numbers
      numbers-here = drop-cons numbers i (pos 0) (omega (arith, l)) ∙ ap₂ (λ (z : ℤ) (k : ℕ). z ∷ drop k numbers) (sym ev) (sym (add-one i))

      marks_here : mark_bits (mark_width - i) marks ≡ m ∷ mark_bits (mark_width - (i + 1)) (marks / 2)
      unfolding mark_bits
      marks_here =
          let e : mark_width - i ≡ suc (mark_width - (i + 1)) = omega (arith, marks_cover, l) in
          ap (λ (k : ℕ). mark_bits k marks) e ∙ ap (λ (b : Bool). b ∷ mark_bits (mark_width - (i + 1)) (marks / 2)) (sym em)

      here : Passes f v m × Fits (drop (i + 1) (places_of kind)) (drop (i + 1) numbers) (mark_bits (mark_width - (i + 1)) (marks / 2))
      here = fit_head (fit_same (next_at d i h) numbers-here marks_here c.fit)

      sound_here : sound f ≡ true
      sound_here = every_at sound (places_of kind) i refl (information_sound kind)

      -- it has a code
      signed_size : is_signed f ≡ true → (2 ≤ w) × (nat_abs v < 2 ^ (w - 1))
      signed_size e =
          let z = size_signed f v m sound_here here.0 e in
          (omega (arith, (widths kind i).1 e, width_at d i), omega (arith, z, ap (λ (n : ℕ). 2 ^ (n - 1)) (width_at d i)))

      unsigned_size : is_signed f ≡ false → (v ≡ pos (nat_abs v)) × (nat_abs v < 2 ^ w)
      unsigned_size e =
          let z = size_unsigned f v m sound_here here.0 e in
          (z.0, omega (arith, z.1, ap (λ (n : ℕ). 2 ^ n) (width_at d i)))

      pub code_asks : ((get_or table i no_place).width ≤ widest)
          × ((get_or table i no_place).signed ≡ true
          → (2 ≤ (get_or table i no_place).width) × (nat_abs v < 2 ^ ((get_or table i no_place).width - 1)))
          × ((get_or table i no_place).signed ≡ false → (v ≡ pos (nat_abs v)) × (nat_abs v < 2 ^ (get_or table i no_place).width))
      code_asks = (narrow_at d i, (λ e. signed_size (sym (sign_at d i) ∙ e)), (λ e. unsigned_size (sym (sign_at d i) ∙ e)))

      -- its bits
      module _ (field : FieldBits) (at_place : (field.signed ≡ (get_or table i no_place).signed) × (field.width ≡ w))
          (ex : field.word ≡ number (code_of (get_or table i no_place).signed (get_or table i no_place).width v m)) where
        as_wide : field.width ≡ width f
        as_wide = at_place.1 ∙ width_at d i

        x_is : field.word ≡ number (code f v m)
        x_is = ex ∙ ap₂ (λ (b : Bool) (k : ℕ). number (code_of b k v m)) (sign_at d i) (width_at d i) ∙ ap number (code_of_lem f v m)

        long : length (code f v m) ≡ field.width
        long = length-code f v m sound_here ∙ sym as_wide

        bits-here : bits field.width field.word ≡ code f v m
        bits-here = ap (bits field.width) x_is ∙ bits_back field.width (code f v m) long

        -- the codes that are left when it is written
        abbrev more : List Bool
        more = codes (drop (i + 1) (places_of kind)) (drop (i + 1) numbers) (mark_bits (mark_width - (i + 1)) (marks / 2))

        codes-here : codes (drop i (places_of kind)) (drop i numbers) (mark_bits (mark_width - i) marks) ≡ code f v m ++ more
        unfolding codes
        codes-here =
            ap (λ (fs : List Field). codes fs (drop i numbers) (mark_bits (mark_width - i) marks)) (next_at d i h)
            ∙ ap₂ (λ (vs : List ℤ) (ms : List Bool). codes (f ∷ drop (i + 1) (places_of kind)) vs ms) numbers-here marks_here

        pub written_on : {z : List Bool} {n : ℕ} → z ≡ put at (bits field.width field.word) u → n ≡ at + field.width
            → WrittenSoFar from kind minus numbers u₀ z n (marks / 2) (i + 1)
        written_on {z} e e' =
            let rest = drop (i + 1) (places_of kind) in
            let lm : length more ≡ total rest = length_fit (every_drop sound (places_of kind) (i + 1) (information_sound kind)) here.1 in
            let sum = ap total (next_at d i h) in
            let lz : length z ≡ length u =
            ap length e ∙ length-put at (bits field.width field.word) u
            (omega (arith, room-here, at_place.1, c.room, length-bits field.width field.word)) in
            let j : at + field.width ≡ at + length (code f v m) = ap (λ (k : ℕ). at + k) (sym long) in
            written_same refl e' record {
              place = omega (arith, c.place, sum, as_wide);
              room = omega (arith, c.room);
              fit = here.1;
              filled =
                  ap (put (at + field.width) more) (e ∙ ap (λ (p : List Bool). put at p u) bits-here)
                  ∙ put_join at (at + field.width) (code f v m) more u j (omega (arith, c.place, c.room, sum, as_wide))
                  ∙ ap (λ (p : List Bool). put at p u) (sym codes-here) ∙ c.filled;
            }
