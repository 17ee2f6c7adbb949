-- Texts written one after another, and what the loop of `row` has written. Assumes nothing.
use mathlib.Core.List.{List, [], ◌∷◌, ◌++◌, append_assoc}
use mathlib.Core.Path.{◌≡◌, refl, sym, ap, ◌∙◌}
use Prim.Native.Nat.{ℕ, suc, ◌+◌, ◌-◌, ◌*◌, ◌≤◌, ◌<◌}
use native.Mathlib.Numerals.{add-one}
use native.Mathlib.Omega.{arith}
use lib.ListN.{length, length-append, take, drop, get_or, drop_of_length-le}
use lib.Seq.{take_all, drop-cons, drop-drop}
use Rattle.std.specs.List.{IsLastAndRest}
use borrow.Rule.Slice.PartMut.{put_mid}
use Rattle.bits.specs.Bits.{put}
use Rattle.bits.proofs.Lists.{put_none, put_join, length-put}
use Rattle.text.specs.declared.Text.{Text}
use Rattle.text.specs.Text.{digits_most, comma, newline, numeral, end_of, row, number_most, Wrote}
use Rattle.text.specs.Writing.{HasRoom, Adds}
use Rattle.text.proofs.Numerals.{numeral-length, row_cons, row_one}

-- ---- texts one after another
pub wrote_none : (at : ℕ) (before : List ℕ) → Wrote [] at before before at
wrote_none at before = record { written = sym (put_none at before); placed = omega arith }

pub wrote_length : {text before after : List ℕ} {at next : ℕ} → Wrote text at before after next → next ≤ length before
    → length after ≡ length before
wrote_length {text} {before} {after} {at} w h = ap length w.written ∙ length-put at text before (omega (arith, w.placed))

pub wrote_join : {s t before mid after : List ℕ} {at place next : ℕ} → Wrote s at before mid place → Wrote t place mid after next
    → next ≤ length before → Wrote (s ++ t) at before after next
wrote_join {s} {t} {before} {mid} {after} {at} {place} v w h =
    record {
      written = w.written ∙ ap (put place t) v.written ∙ put_join at place s t before v.placed (omega (arith, w.placed));
      placed = omega (arith, length-append s t, v.placed, w.placed);
    }

-- What is copied into the part of the buffer that it fills is put there.
pub wrote_part : (text before part : List ℕ) (at : ℕ) → part ≡ text
    → Wrote text at before (put_mid at (at + length text - at) before part) (at + length text)
unfolding put
wrote_part text before part at e =
    let k : at + length text - at ≡ length text = omega arith in
    record { written = rw (e, k, drop-drop (length text) at before) refl; placed = refl }

-- ---- the same of a text in its memory
module _ {s : List ℕ} {a b : Text} (v : Adds s a b) where
  pub adds_room : (n : ℕ) → HasRoom (length s + n) a → HasRoom n b
  adds_room n h = omega (arith, v.wrote.placed, wrote_length v.wrote (omega (arith, v.wrote.placed)))

  pub adds_join : {t : List ℕ} {c : Text} → Adds t b c → HasRoom (length s + length t) a → Adds (s ++ t) a c
  adds_join w h =
      record {
        wrote = wrote_join v.wrote w.wrote (omega (arith, v.wrote.placed, w.wrote.placed));
        same_memory = w.same_memory ∙ v.same_memory;
      }

pub adds_none : (a : Text) → Adds [] a a
adds_none a = record { wrote = wrote_none a.len a.out.now; same_memory = refl }

-- ---- a numeral and the byte after it, in an array from `start` on
pub number_part : (n end start : ℕ) (array : List ℕ) {digits : List ℕ} → digits ≡ numeral n → start + length digits ≡ digits_most
    → drop start array ≡ digits ++ (end ∷ []) → take (number_most - start) (drop start array) ≡ numeral n ++ (end ∷ [])
number_part n end start array {digits} d s w =
    let whole : drop start array ≡ numeral n ++ (end ∷ []) = w ∙ ap (λ (k : List ℕ). k ++ (end ∷ [])) d in
    rw whole (take_all (number_most - start) (numeral n ++ (end ∷ []))
    (omega (arith, s, ap length d, length-append (numeral n) (end ∷ []))))

number-length : (n end : ℕ) → length (numeral n ++ (end ∷ [])) ≤ number_most
number-length n end = omega (arith, length-append (numeral n) (end ∷ []), numeral-length n)

-- ---- a row: what is written once the first i numbers before the last one are
pub record RowSoFar (others : List ℕ) (last i : ℕ) (before now : Text) : Type 0 where
  pub text : List ℕ
  pub whole : row (others ++ (last ∷ [])) ≡ text ++ row (drop i others ++ (last ∷ []))
  pub adds : Adds text before now
  pub few : length text ≤ number_most * i

end_is : (ns : List ℕ) (last : ℕ) → end_of (ns ++ (last ∷ [])) ≡ comma
end_is [] last = refl
end_is (n ∷ ns) last = refl

pub row_none : (others : List ℕ) (last : ℕ) (before : Text) → RowSoFar others last 0 before before
row_none others last before = record { text = []; whole = refl; adds = adds_none before; few = omega arith }

module _ {numbers others : List ℕ} {last : ℕ} {before : Text} (e : IsLastAndRest numbers last others)
    (h : HasRoom (number_most * length numbers) before) {i : ℕ} {now : Text} (b : RowSoFar others last i before now) where
  pub row_room : i ≤ length others → HasRoom number_most now
  row_room g = adds_room b.adds number_most (omega (arith, b.few, e.1))

  pub row_more : {after : Text} → i < length others → Adds (numeral (get_or others i 0) ++ (comma ∷ [])) now after
      → RowSoFar others last (i + 1) before after
  row_more g w =
      let n = get_or others i 0 in
      let piece = numeral n ++ (comma ∷ []) in
      let rest = drop (suc i) others ++ (last ∷ []) in
      let more : row (drop i others ++ (last ∷ [])) ≡ piece ++ row rest =
      ap (λ (ns : List ℕ). row (ns ++ (last ∷ []))) (drop-cons others i 0 g) ∙ row_cons n rest
      ∙ ap (λ (end : ℕ). (numeral n ++ (end ∷ [])) ++ row rest) (end_is (drop (suc i) others) last) in
      record {
        text = b.text ++ piece;
        whole = rw (add-one i) (b.whole ∙ ap (λ (k : List ℕ). b.text ++ k) more ∙ sym (append_assoc b.text piece (row rest)));
        adds = adds_join b.adds w (omega (arith, b.few, number-length n comma, e.1));
        few = omega (arith, b.few, number-length n comma, length-append b.text piece);
      }

  pub row_all : {after : Text} → length others ≤ i → i ≤ length others → Adds (numeral last ++ (newline ∷ [])) now after
      → Adds (row numbers) before after
  row_all {after} g l w =
      let piece = numeral last ++ (newline ∷ []) in
      let whole : row numbers ≡ b.text ++ piece =
      ap row e.0 ∙ b.whole ∙ ap (λ (k : List ℕ). b.text ++ k)
      (ap (λ (k : List ℕ). row (k ++ (last ∷ []))) (drop_of_length-le others g) ∙ row_one last) in
      rw whole (adds_join b.adds w (omega (arith, b.few, number-length last newline, e.1)))
