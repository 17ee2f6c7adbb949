-- The lines of the bit counts, one after another. Assumes nothing.
use mathlib.Core.List.{List, [], ◌∷◌}
use Prim.Native.Nat.{ℕ, zero, suc, ◌+◌, ◌*◌, ◌≤◌, ◌<◌}
use native.Mathlib.Numerals.{add-one}
use native.Mathlib.Omega.{arith}
use lib.ListN.{length, length-append}
use Rattle.bits.specs.declared.Phase.TheVariants.{Straight}
use Rattle.format.specs.Answers.{answer_code}
use Rattle.format.specs.Reading.{reading}
use Rattle.text.specs.declared.Text.{Text}
use Rattle.text.specs.Writing.{HasRoom, Adds}
use Rattle.text.proofs.Numerals.{row-length}
use Rattle.text.proofs.Writing.{adds_none, adds_room, adds_join}
use Rattle.cuts.specs.Cuts.{count_line, cuts, counts, cut_most}

cut-length : (bytes : List ℕ) (count : ℕ) → length (count_line bytes count) ≤ cut_most
unfolding count_line
cut-length bytes count = (row-length (count ∷ (answer_code (reading Straight bytes count 0)).0 ∷ [])).1

cuts-length : (bytes : List ℕ) (count : ℕ) → length (cuts bytes count) ≤ cut_most * count
unfolding cuts
cuts-length bytes zero = omega arith
cuts-length bytes (suc count) =
    omega (arith, length-append (cuts bytes count) (count_line bytes count), cut-length bytes count, cuts-length bytes count)

-- ---- what is written once the lines of the counts below `count` are
module _ (bytes : List ℕ) where
  pub cuts_none : (before : Text) → Adds (cuts bytes 0) before before
  unfolding cuts
  cuts_none before = adds_none before

  module _ {count : ℕ} {before now : Text} (b : Adds (cuts bytes count) before now) (room : HasRoom (cut_most * counts) before) where
    pub cut_room : count < counts → HasRoom cut_most now
    cut_room h = adds_room b cut_most (omega (arith, cuts-length bytes count))

    pub cuts_more : {after : Text} → count < counts → Adds (count_line bytes count) now after → Adds (cuts bytes (count + 1)) before after
    unfolding cuts
    cuts_more h w = rw (add-one count) (adds_join b w (omega (arith, cuts-length bytes count, cut-length bytes count)))

  -- All lines end within the memory.
  pub cuts_within : {before now : Text} → Adds (cuts bytes counts) before now → HasRoom (cut_most * counts) before → HasRoom 0 now
  cuts_within b room = adds_room b 0 (omega (arith, cuts-length bytes counts))
