-- What the functions of the report ask of the bytes and of the starts. Assumes nothing.
use Rattle.std.specs.Prelude.{List, ℕ, ◌+◌, ◌*◌, ◌≤◌, ◌<◌, length, get_or}
use Rattle.format.specs.Tests.{bit_limit}

-- The bits of all bytes are no more than the limit.
abbrev pub Within : List ℕ → Type 0
Within bytes = 8 * length bytes ≤ bit_limit

-- Each of the first n starts has its mark and its service fields within the bytes.
abbrev pub Inside : List ℕ → List ℕ → ℕ → Type 0
Inside bytes starts n = (i : ℕ) → i < n → get_or starts i 0 + 50 ≤ 8 * length bytes
