-- A holiday: number, month, date.
use Rattle.std.specs.Prelude.{ℕ, Bool, ◌&&◌, List, [], ◌∷◌, nat_le, slice_index}
use Rattle.calendar.specs.Days.{date_of_some_year}
use Rattle.tables.specs.declared.entry.Entry.{Entry}
use Rattle.records.specs.declared.holiday.Holiday.{Holiday}

abbrev pub holiday_number : ℕ → Bool
holiday_number n = nat_le n 99

abbrev pub holiday_bytes : Entry Holiday → List ℕ
holiday_bytes e = e.number ∷ e.body.day.month ∷ e.body.day.day ∷ []

abbrev pub holiday_ranges : List ℕ → Bool
holiday_ranges bs = holiday_number (slice_index bs 0) && date_of_some_year (slice_index bs 1) (slice_index bs 2)
