-- A window: a state (0 unused, 1 used), then start and end, each year, month, date, hour, minute.
use Rattle.std.specs.Prelude.{ℕ, ◌+◌, ◌-◌, ◌*◌, Bool, ◌&&◌, ◌||◌, List, [], ◌∷◌, ◌++◌, ◌==◌, nat_le, slice_index}
use Rattle.std.specs.List.{between}
use Rattle.calendar.specs.declared.minute.Minute.{Minute}
use Rattle.calendar.specs.Days.{real_date, real_time, day_count, minute_of_day}
use Rattle.records.specs.declared.window.Window.{Window}
use Rattle.records.specs.declared.window.Window.TheVariants.{Unused, Used}

-- a year byte 0 to 99 means 2000 to 2099
abbrev pub minute_bytes : Minute → List ℕ
minute_bytes m = (m.date.year - 2000) ∷ m.date.month ∷ m.date.day ∷ m.time.hour ∷ m.time.minute ∷ []

abbrev pub minute_ranges : List ℕ → Bool
minute_ranges bs = real_date (2000 + slice_index bs 0) (slice_index bs 1) (slice_index bs 2) && real_time (slice_index bs 3) (slice_index bs 4)

abbrev pub minute_said : List ℕ → ℕ
minute_said bs = 1440 * day_count (2000 + slice_index bs 0) (slice_index bs 1) (slice_index bs 2) + minute_of_day (slice_index bs 3) (slice_index bs 4)

abbrev pub window_bytes : Window → List ℕ
window_bytes (Unused k) = 0 ∷ k.bytes
window_bytes (Used v) = 1 ∷ (minute_bytes v.start ++ minute_bytes v.end)

abbrev pub validity_ranges : List ℕ → Bool
validity_ranges bs = minute_ranges (between 1 6 bs) && (minute_ranges (between 6 11 bs) && nat_le (minute_said (between 1 6 bs)) (minute_said (between 6 11 bs)))

-- with state 0 the other ten bytes are not checked
abbrev pub window_ranges : List ℕ → Bool
window_ranges bs = slice_index bs 0 == 0 || (slice_index bs 0 == 1 && validity_ranges bs)
