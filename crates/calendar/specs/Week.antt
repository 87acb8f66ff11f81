-- The days of the week. 1 January 2000 was a Saturday.
use Rattle.std.specs.Prelude.{ℕ, ◌+◌, ◌%◌, List, [], ◌∷◌, slice_index_or}
use Rattle.calendar.specs.declared.week.Weekday.{Weekday}
use Rattle.calendar.specs.declared.week.Weekday.TheVariants.{Monday, Tuesday, Wednesday, Thursday, Friday, Saturday, Sunday}

abbrev pub week : List Weekday
week = Monday ∷ Tuesday ∷ Wednesday ∷ Thursday ∷ Friday ∷ Saturday ∷ Sunday ∷ []

-- Monday is 0, Sunday 6
abbrev pub weekday_number : Weekday → ℕ
weekday_number Monday = 0
weekday_number Tuesday = 1
weekday_number Wednesday = 2
weekday_number Thursday = 3
weekday_number Friday = 4
weekday_number Saturday = 5
weekday_number Sunday = 6

-- the weekday n days after 1 January 2000
abbrev pub weekday_after : ℕ → Weekday
weekday_after n = slice_index_or week ((5 + n) % 7) Monday

abbrev pub following : Weekday → Weekday
following Monday = Tuesday
following Tuesday = Wednesday
following Wednesday = Thursday
following Thursday = Friday
following Friday = Saturday
following Saturday = Sunday
following Sunday = Monday
