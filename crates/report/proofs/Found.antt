-- How long a report is, and what the list holds once a recording that is not too long is listed into it. Assumes nothing.
use mathlib.Core.List.{List, [], ◌∷◌, ◌++◌}
use mathlib.Core.Logic.{inl, inr}
use mathlib.Core.Path.{◌≡◌, refl, sym, ap, ◌∙◌}
use Prim.Native.Nat.{ℕ, zero, suc, ◌+◌, ◌*◌, ◌≤◌, ◌<◌}
use native.Mathlib.Decide.{dec_le}
use native.Mathlib.Omega.{arith}
use lib.ListN.{length, length-append, length-take, take, drop, get_or}
use lib.Seq.{take_at, get_or-take}
use Rattle.bits.specs.declared.Phase.TheVariants.{Straight}
use Rattle.bits.proofs.Phases.{length-recorded}
use Rattle.format.specs.Tests.{Outcome, bit_limit, Passes}
use Rattle.format.specs.Demand3.{In, ListPromise}
use Rattle.format.specs.Listing.{starts, list_after}
use Rattle.format.specs.Standing.{standing}
use Rattle.format.specs.Strings.{type_at}
use Rattle.std.specs.Prelude.{Ok, Err}
use Rattle.format.specs.declared.Refusal.{Refusal}
use Rattle.format.proofs.Agree.{length_unit, standing-stands}
use Rattle.format.proofs.Promise.{answer-starts}
use Rattle.format.proofs.Tests.{passes_count}
use Rattle.format.proofs.Rule.{few, listed-stands}
use Rattle.text.specs.declared.Text.{Text}
use Rattle.text.specs.Text.{line_most}
use Rattle.text.specs.Writing.{HasRoom, Adds}
use Rattle.text.proofs.Writing.{adds_room, adds_join}
use Rattle.report.specs.Lines.{Within, Inside}
use Rattle.report.specs.Sizes.{starts_most, report_most}
use Rattle.report.specs.Report.{header, all_bits, lines, listed, report}
use Rattle.report.proofs.Printing.{lines-length, report-refused, report-listed}

in_list : (xs : List ℕ) (i : ℕ) → i < length xs → In (get_or xs i 0) xs
in_list [] i h = absurd (omega arith)
in_list (x ∷ xs) zero h = inl refl
in_list (x ∷ xs) (suc i) h = inr (in_list xs i (omega arith))

-- ---- how long a report is
module _ (bytes : List ℕ) where
  bits-length : length (all_bits bytes) ≡ 8 * length bytes
  bits-length = length-recorded Straight bytes (8 * length bytes) (omega arith)

  starts_few : 125 * length (starts (all_bits bytes)) ≤ 8 * length bytes
  starts_few = omega (arith, few (all_bits bytes), bits-length)

  listed-length : Within bytes → length (listed bytes) ≤ report_most
  listed-length h =
      let found = starts (all_bits bytes) in
      omega (arith, length-append header (lines bytes found), lines-length bytes found, starts_few)

  pub report-length : length (report bytes) ≤ report_most
  report-length =
      elim (dec_le (8 * length bytes) bit_limit) [
        | yes h ↦ rw (report-listed bytes h) (listed-length h)
        | no h ↦ rw (report-refused bytes (omega arith)) (omega arith)
      ]

-- ---- the list
-- The first n entries are the starts, and lie inside; a string has at least 125 bits.
pub record Found (bytes list : List ℕ) (n : ℕ) : Type 0 where
  pub starts_are : take n list ≡ starts (all_bits bytes)
  pub enough : n ≤ length list
  pub inside : Inside bytes list n
  pub few_starts : 125 * n ≤ 8 * length bytes

module _ {bytes before list : List ℕ} {answer : Outcome} (p : ListPromise Straight bytes (8 * length bytes) before answer list)
    (h : Within bytes) (room : length before ≡ starts_most) where
  passes : Passes bytes (8 * length bytes)
  passes = record { short_enough = h; in_bytes = omega arith }

  -- The list is long enough for all starts.
  pub starts-answered : answer ≡ Ok (length (starts (all_bits bytes)))
  starts-answered =
      p.answered
      ∙ answer-starts (length bytes) (8 * length bytes) (length before) (length (starts (all_bits bytes))) (passes_count passes)
      (omega (arith, starts_few bytes))

  pub never_refused : {r : Refusal} → answer ≡ Err r → ⊥
  never_refused e = let s = starts-answered in let z : ◌≡◌ {A = ℕ} 0 1 = cc in omega arith

  start_inside : (q : ℕ) → In q (starts (all_bits bytes)) → q + 50 ≤ 8 * length bytes
  start_inside q i =
      let s = standing-stands (all_bits bytes) q (standing (all_bits bytes) q) refl (listed-stands (all_bits bytes) q i) in
      omega (arith, s.named, s.fits, length_unit (type_at (all_bits bytes) q), bits-length bytes)

  pub found : {n : ℕ} → answer ≡ Ok n → Found bytes list n
  found {n} e =
      let bits = all_bits bytes in
      let s = starts-answered in
      let m : n ≡ length (starts bits) = cc in
      let whole : list ≡ starts bits ++ drop (length (starts bits)) before =
      p.left ∙ ap (λ (a : Outcome). list_after a before (starts bits)) s in
      let l : take n list ≡ starts bits = ap (take n) whole ∙ take_at (starts bits) (drop (length (starts bits)) before) n (sym m) in
      record {
        starts_are = l;
        enough = omega (arith, ap length whole, length-append (starts bits) (drop (length (starts bits)) before));
        inside = λ i k.
            let g : get_or list i 0 ≡ get_or (starts bits) i 0 = sym (get_or-take n list i 0 k) ∙ ap (λ (xs : List ℕ). get_or xs i 0) l in
            omega (arith, start_inside (get_or (starts bits) i 0) (in_list (starts bits) i (omega arith)));
        few_starts = omega (arith, starts_few bytes);
      }

-- ---- the header, and then the lines
module _ {bytes list : List ℕ} {n : ℕ} (f : Found bytes list n) (h : Within bytes) where
  pub part_inside : Inside bytes (take n list) (length (take n list))
  part_inside i k =
      let g : get_or (take n list) i 0 ≡ get_or list i 0 = get_or-take n list i 0 (omega (arith, length-take n list)) in
      rw g (f.inside i (omega (arith, length-take n list)))

  module _ {before now : Text} (room : HasRoom report_most before) (v : Adds header before now) where
    pub lines_fit : HasRoom (line_most * length (take n list)) now
    lines_fit = adds_room v (line_most * length (take n list)) (omega (arith, f.few_starts, length-take n list))

    pub adds_listed : {after : Text} → Adds (lines bytes (take n list)) now after → Adds (listed bytes) before after
    adds_listed w =
        let e = length-append header (lines bytes (starts (all_bits bytes))) in
        adds_join v (rw f.starts_are at w) (omega (arith, listed-length bytes h))
