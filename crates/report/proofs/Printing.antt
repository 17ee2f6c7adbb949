-- A field of a string, lines written one after another, and the two forms of a report. Assumes nothing.
use mathlib.Core.Bool.{Bool}
use mathlib.Core.List.{List, [], ◌∷◌, ◌++◌, append_assoc, append-nil}
use mathlib.Core.Path.{◌≡◌, refl, sym, ap, ◌∙◌}
use Prim.Native.Nat.{ℕ, ◌+◌, ◌-◌, ◌*◌, ◌%◌, ◌^◌, ◌≤◌, ◌<◌}
use native.Mathlib.Decide.{dec_le}
use native.Mathlib.Nat.{lt_of_lt_of_le}
use native.Mathlib.Numerals.{add-one}
use native.Mathlib.Omega.{arith}
use lib.ListN.{length, length-append, length-take, take, get_or}
use lib.Pow.{pow_mono}
use lib.Seq.{take-suc, take_all, length-take-le}
use borrow.Author.Tests.{lt-ltb, le-ltb}
use Rattle.bits.specs.declared.Phase.TheVariants.{Straight}
use Rattle.bits.specs.Bits.{number, unpack, cut, Covers, covered_bytes}
use Rattle.bits.proofs.Bytes.{length-unpack}
use Rattle.bits.proofs.Phases.{cut-recorded, part_bits}
use Rattle.bits.proofs.Numbers.{number-cut-lt}
use Rattle.format.specs.Answers.{answer_code}
use Rattle.format.specs.Tests.{bit_limit}
use Rattle.format.specs.Reading.{reading}
use Rattle.format.specs.Strings.{string_bits, type_at}
use Rattle.text.specs.declared.Text.{Text}
use Rattle.text.specs.Text.{row, line_most}
use Rattle.text.specs.Writing.{HasRoom, Adds}
use Rattle.text.proofs.Numerals.{row-most}
use Rattle.text.proofs.Writing.{adds_none, adds_room, adds_join}
use Rattle.report.specs.Lines.{Within}
use Rattle.report.specs.Report.{refused_line, all_bits, service_numbers, line, lines, listed, report}
use Rattle.report.specs.Sizes.{bytes_most}

-- ---- a field of the string at a place of its bytes
pub field_fits : (bytes : List ℕ) (offset first last v : ℕ) → v ≡ number (cut (offset + first - 1) (last + 1 - first) (unpack bytes))
    → Covers bytes offset 50 → 0 < first → first ≤ last → last ≤ 50 → last < first + 32 → v < 2 ^ 32
field_fits bytes offset first last v e h f g k w =
    let l =
    number-cut-lt (offset + first - 1) (last + 1 - first) (unpack bytes) (omega (arith, h.last, length-unpack bytes)) in
    rw e (lt_of_lt_of_le l (pow_mono {j = 32} (omega arith)))

-- ---- the service fields, from the bytes that they cover
module _ (bytes : List ℕ) (p : ℕ) (h : p + 50 ≤ 8 * length bytes) where
  abbrev part : List Bool
  part = unpack (covered_bytes p 50 bytes)

  same : (first last : ℕ) → 1 ≤ first → first ≤ last → last ≤ 50
      → number (string_bits part (p % 8) first last) ≡ number (string_bits (all_bits bytes) p first last)
  unfolding string_bits
  same first last f g k =
      let e : p % 8 + first - 1 ≡ p % 8 + (first - 1) = omega arith in
      let n = last + 1 - first in
      ap number
      (ap (λ (i : ℕ). cut i n part) e ∙ part_bits bytes p 50 Straight (first - 1) n (p + first - 1) (omega arith) (omega arith)
      ∙ sym (cut-recorded Straight (p + first - 1) n (8 * length bytes) bytes (omega arith)))

  service_part : service_numbers part (p % 8) ≡ service_numbers (all_bits bytes) p
  unfolding service_numbers type_at
  service_part =
      let s13 = same 13 18 (omega arith) (omega arith) (omega arith) in
      let s19 = same 19 24 (omega arith) (omega arith) (omega arith) in
      let s32 = same 32 33 (omega arith) (omega arith) (omega arith) in
      let s34 = same 34 34 (omega arith) (omega arith) (omega arith) in
      let s35 = same 35 50 (omega arith) (omega arith) (omega arith) in
      rw (s13, s19, s32, s34, s35) refl

  pub line_is : {service : List ℕ} {result : ℕ} → service ≡ service_numbers part (p % 8)
      → result ≡ (answer_code (reading Straight bytes (8 * length bytes) p)).0
      → row (p ∷ get_or service 0 0 ∷ get_or service 1 0 ∷ get_or service 2 0 ∷ get_or service 3 0 ∷ get_or service 4 0 ∷ result ∷ [])
      ≡ line bytes p
  unfolding line service_numbers
  line_is e r = rw (e ∙ service_part, r) refl

-- ---- lines
module _ (bytes : List ℕ) where
  line-length : (p : ℕ) → length (line bytes p) ≤ line_most
  unfolding line service_numbers
  line-length p = (row-most _ refl).1

  lines_one : (p : ℕ) (ps : List ℕ) → lines bytes (ps ++ (p ∷ [])) ≡ lines bytes ps ++ line bytes p
  unfolding lines
  lines_one p [] = append-nil (line bytes p)
  lines_one p (q ∷ ps) =
      ap (λ (k : List ℕ). line bytes q ++ k) (lines_one p ps) ∙ sym (append_assoc (line bytes q) (lines bytes ps) (line bytes p))

  pub lines-length : (ps : List ℕ) → length (lines bytes ps) ≤ line_most * length ps
  unfolding lines
  lines-length [] = omega arith
  lines-length (p ∷ ps) = omega (arith, length-append (line bytes p) (lines bytes ps), line-length p, lines-length ps)

  -- ---- the report
  pub report-refused : bit_limit < 8 * length bytes → report bytes ≡ refused_line
  unfolding report
  report-refused h = simp (lt-ltb bit_limit (8 * length bytes) h)

  pub report-listed : Within bytes → report bytes ≡ listed bytes
  unfolding report
  report-listed h = simp (le-ltb bit_limit (8 * length bytes) h)

-- what is read of an input is enough: for a longer one the refusal is printed
pub report_front : (bytes input : List ℕ) → bytes ≡ take bytes_most input → report input ≡ report bytes
report_front bytes input e =
    elim (dec_le bytes_most (length input)) [
      | yes h ↦
          let l = length-take-le bytes_most input h in
          report-refused input (omega arith) ∙ sym (report-refused bytes (omega (arith, ap length e)))
      | no h ↦ ap report (sym (e ∙ take_all bytes_most input (omega arith)))
    ]

-- ---- what is written once the lines of the first j starts are
module _ (bytes starts : List ℕ) where
  lines-few : (j : ℕ) → length (lines bytes (take j starts)) ≤ line_most * j
  lines-few j = omega (arith, lines-length bytes (take j starts), length-take j starts)

  pub lines_none : (before : Text) → Adds (lines bytes (take 0 starts)) before before
  unfolding lines
  lines_none before = adds_none before

  module _ {j : ℕ} {before now : Text} (b : Adds (lines bytes (take j starts)) before now)
      (room : HasRoom (line_most * length starts) before) where
    pub line_room : j < length starts → HasRoom line_most now
    line_room h = adds_room b line_most (omega (arith, lines-few j))

    pub lines_more : {after : Text} → j < length starts → Adds (line bytes (get_or starts j 0)) now after
        → Adds (lines bytes (take (j + 1) starts)) before after
    lines_more h w =
        let p = get_or starts j 0 in
        let more : lines bytes (take (j + 1) starts) ≡ lines bytes (take j starts) ++ line bytes p =
        rw (add-one j, take-suc starts j 0 h) (lines_one bytes p (take j starts)) in
        rw more (adds_join b w (omega (arith, lines-few j, line-length bytes p)))
