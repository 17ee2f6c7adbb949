-- Days of a four-year interval, which count from 1 to 1461 and begin again (document 02, U4). Assumes nothing.
use Rattle.std.specs.Prelude.{Bool, ◌&&◌, ℕ, leb, ℤ, pos, ◌-ℤ◌, unsigned_abs}
use Rattle.std.specs.Int.{int_rem_euclid}
use Rattle.format.specs.Types.{interval_days}

-- How many days after the first of two days the second comes: their difference modulo 1461, 0 to 1460.
unfoldable pub days_after : ℤ → ℤ → ℕ
days_after first second = unsigned_abs (int_rem_euclid (second -ℤ first) (pos interval_days))

-- The most days by which a day is later than another; 731 to 1460 days after it come the earlier ones.
abbrev pub most_later : ℕ
most_later = 730

abbrev pub is_later : ℕ → Bool
is_later days = leb 1 days && leb days most_later

-- Among so many days in a row one is the latest.
abbrev pub row_days : ℕ
row_days = 731
