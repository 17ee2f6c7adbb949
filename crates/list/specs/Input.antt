-- What is read into a buffer. No contract can say which bytes a read puts there. Assumes nothing.
use Rattle.std.specs.Prelude.{ℕ, ◌≤◌, Result, IfOk}

-- Where the input can be read, no more bytes came than the buffer has.
abbrev pub CameIn : {E : Type 0} → ℕ → Result ℕ E → Type 0
CameIn room came = IfOk came (λ n. n ≤ room)
