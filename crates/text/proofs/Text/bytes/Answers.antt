-- `Text::bytes`: the part of the memory that the bytes fill. Assumes nothing.
use mathlib.Core.Path.{refl}
use Rattle.text.proofs.Writing.{wrote_part}
use Rattle.text.proofs.Text.bytes.Goals as goal

pub returns : goal.returns
returns c = record { wrote = wrote_part _ _ _ _ c.copy_from_slice.ensures.after; same_memory = refl }
