-- A time set: number, start hour, start minute, end hour, end minute.
use Rattle.std.specs.Prelude.{ℕ, Bool, ◌&&◌, List, [], ◌∷◌, nat_le, slice_index}
use Rattle.calendar.specs.Days.{real_time, minute_of_day}
use Rattle.tables.specs.declared.entry.Entry.{Entry}
use Rattle.records.specs.declared.time_set.TimeSet.{TimeSet}

abbrev pub time_set_number : ℕ → Bool
time_set_number n = nat_le 2 n && nat_le n 255

abbrev pub time_set_bytes : Entry TimeSet → List ℕ
time_set_bytes e = e.number ∷ e.body.start.hour ∷ e.body.start.minute ∷ e.body.end.hour ∷ e.body.end.minute ∷ []

abbrev pub time_set_ranges : List ℕ → Bool
time_set_ranges bs =
    time_set_number (slice_index bs 0) && (real_time (slice_index bs 1) (slice_index bs 2) && (real_time (slice_index bs 3) (slice_index bs 4)
    && nat_le (minute_of_day (slice_index bs 1) (slice_index bs 2)) (minute_of_day (slice_index bs 3) (slice_index bs 4))))
