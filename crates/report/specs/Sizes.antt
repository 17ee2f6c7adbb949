-- The sizes that follow from the limit of a recording. Assumes nothing.
use Rattle.std.specs.Prelude.{ℕ, ◌+◌, ◌*◌, ◌/◌, length}
use Rattle.format.specs.Tests.{bit_limit}
use Rattle.text.specs.Text.{line_most}
use Rattle.report.specs.Report.{header}

-- The most starts that a recording within the limit has, and one more; each string has at least 125 bits.
abbrev pub starts_most : ℕ
starts_most = bit_limit / 125 + 1

-- The bytes of the longest recording that is not refused, and one more.
abbrev pub bytes_most : ℕ
bytes_most = bit_limit / 8 + 1

-- The most bytes of a report (`report-length` of `proofs/Found.antt`).
abbrev pub report_most : ℕ
report_most = length header + line_most * starts_most
