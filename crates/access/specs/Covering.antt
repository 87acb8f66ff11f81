-- Does a time set, a zone or a group cover a minute? Each asks the records that stand.
use Rattle.std.specs.Prelude.{ℕ, zero, suc, ◌-◌, ◌/◌, ◌%◌, ◌^◌, Bool, false, cond, ◌&&◌, ◌||◌, List, [], ◌∷◌, is_some, ◌==◌, nat_le, slice_index}
use Rattle.calendar.specs.declared.date.Date.{Date}
use Rattle.calendar.specs.declared.minute.Minute.{Minute}
use Rattle.calendar.specs.declared.week.Weekday.{Weekday}
use Rattle.calendar.specs.Week.{weekday_number}
use Rattle.calendar.specs.Days.{minute_of_day}
use Rattle.calendar.specs.Dates.{weekday_of}
use Rattle.records.specs.declared.group.Group.{Group}
use Rattle.records.specs.declared.holiday.Holiday.{Holiday}
use Rattle.records.specs.declared.row.Row.{Row}
use Rattle.records.specs.declared.time_set.TimeSet.{TimeSet}
use Rattle.records.specs.declared.zone.Zone.{Zone}
use Rattle.tables.specs.Maps.{Map}
use Rattle.access.specs.Standing.{Standing, meant, lowest}

-- is it so of one of the numbers?
abbrev pub some_of : (ℕ → Bool) → List ℕ → Bool
some_of test [] = false
some_of test (n ∷ ns) = test n || some_of test ns

-- the times of a set include the minute, both ends too
abbrev pub times_include : Minute → TimeSet → Bool
times_include x t =
    nat_le (minute_of_day t.start.hour t.start.minute) (minute_of_day x.time.hour x.time.minute)
    && nat_le (minute_of_day x.time.hour x.time.minute) (minute_of_day t.end.hour t.end.minute)

abbrev pub set_covers : Standing → Minute → ℕ → Bool
set_covers s x n = meant s.time_sets (times_include x) n

-- Monday to Sunday, and the holiday row behind them
abbrev pub weekday_row : Weekday → ℕ
weekday_row d = weekday_number d

abbrev pub holiday_row : ℕ
holiday_row = 7

abbrev pub falls_on : Date → Holiday → Bool
falls_on d h = h.day.month == d.month && h.day.day == d.day

-- some holiday with a number below n falls on the day
abbrev pub holiday_among : Map Holiday → ℕ → Date → Bool
holiday_among f n d = is_some (lowest f (falls_on d) n)

abbrev pub row_among : Map Holiday → ℕ → Date → ℕ
row_among f n d = cond (holiday_among f n d) holiday_row (weekday_row (weekday_of d))

abbrev pub is_holiday : Standing → Date → Bool
is_holiday s d = holiday_among s.holidays s.holidays_end d

abbrev pub row_of : Standing → Date → ℕ
row_of s d = row_among s.holidays s.holidays_end d

-- the three time sets of a row
abbrev pub sets_at : List Row → ℕ → List ℕ
sets_at [] i = []
sets_at (r ∷ rs) zero = r.sets
sets_at (r ∷ rs) (suc i) = sets_at rs i

abbrev pub row_sets : Zone → ℕ → List ℕ
row_sets z i = sets_at z.rows i

abbrev pub zone_covers : Standing → Minute → ℕ → Bool
zone_covers s x n = meant s.zones (λ z. some_of (set_covers s x) (row_sets z (row_of s x.date))) n

-- bit 0 of the doors is door 1, bit 7 door 8
abbrev pub opens : ℕ → Group → Bool
opens door g = g.doors / 2 ^ (door - 1) % 2 == 1

abbrev pub zone_for : ℕ → Group → ℕ
zone_for door g = slice_index g.zones (door - 1)

abbrev pub group_opens : Standing → ℕ → ℕ → Bool
group_opens s door n = meant s.groups (opens door) n

abbrev pub group_admits : Standing → ℕ → Minute → ℕ → Bool
group_admits s door x n = meant s.groups (λ g. opens door g && zone_covers s x (zone_for door g)) n
