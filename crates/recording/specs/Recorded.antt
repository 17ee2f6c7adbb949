-- The true bits of a recording. Assumes nothing.
use Rattle.std.specs.Prelude.{Bool, List}
use Rattle.bits.specs.Bits.{recorded}
use Rattle.recording.specs.declared.Recording.{Recording}

abbrev pub bits_of : Recording → List Bool
bits_of rec = recorded rec.part.phase rec.part.bytes.now rec.count
