-- The records of bytes: each invariant of a type is asked of them, and there is a record only where every answer is yes.
-- Whether the number is one that a record may have, and how many bytes there are in all, is not asked here.
use Rattle.std.specs.Prelude.{◌≡◌, ℕ, zero, suc, ◌+◌, ◌^◌, ◌<◌, ◌≤◌, Bool, true, false, cond, T, List, [], ◌∷◌, length, take, drop, Some, None, Option, ◌==◌, nat_le, nat_lt, slice_index, refl}
use Rattle.std.proofs.Common.{ltb→lt, leb→le, eqb→eq}
use Rattle.std.specs.Option.{option_map}
use Rattle.std.specs.Int.Digits.{number_from_digits}
use Rattle.std.specs.List.{between}
use Rattle.calendar.specs.declared.date.Date.{Date}
use Rattle.calendar.specs.declared.minute.Minute.{Minute}
use Rattle.calendar.specs.declared.month_day.MonthDay.{MonthDay}
use Rattle.calendar.specs.declared.time_of_day.TimeOfDay.{TimeOfDay}
use Rattle.calendar.specs.Days.{real_date, date_of_some_year, minute_of_day}
use Rattle.calendar.specs.Dates.{minute_number}
use Rattle.tables.specs.declared.entry.Entry.{Entry}
use Rattle.records.specs.declared.group.Group.{Group}
use Rattle.records.specs.declared.holiday.Holiday.{Holiday}
use Rattle.records.specs.declared.row.Row.{Row}
use Rattle.records.specs.declared.time_set.TimeSet.{TimeSet}
use Rattle.records.specs.declared.user.Status.{Status}
use Rattle.records.specs.declared.user.Status.TheVariants.{Off, Active}
use Rattle.records.specs.declared.user.User.{User}
use Rattle.records.specs.declared.window.Kept.{Kept}
use Rattle.records.specs.declared.window.Validity.{Validity}
use Rattle.records.specs.declared.window.Window.{Window}
use Rattle.records.specs.declared.window.Window.TheVariants.{Unused, Used}
use Rattle.records.specs.declared.zone.Zone.{Zone}
use Rattle.records.specs.Named.{zones_named}

-- ---- questions, each with the proof of its yes

abbrev pub passed : (b : Bool) → Option (T b)
passed true = Some tt
passed false = None

abbrev pub is_true : (b : Bool) → Option (b ≡ true)
is_true true = Some refl
is_true false = None

abbrev pub less : (a b : ℕ) → Option (a < b)
less a b = option_map (ltb→lt a b) (passed (nat_lt a b))

abbrev pub at_most : (a b : ℕ) → Option (a ≤ b)
at_most a b = option_map (leb→le a b) (passed (nat_le a b))

abbrev pub same : (a b : ℕ) → Option (a ≡ b)
same a b = option_map (eqb→eq a b) (passed (a == b))

abbrev pub and_then : {A B : Type 0} → Option A → (A → Option B) → Option B
and_then None next = None
and_then (Some a) next = next a

-- ---- days and times

abbrev pub month_day_of : ℕ → ℕ → Option MonthDay
month_day_of m d = and_then (is_true (date_of_some_year m d)) (λ real. Some (record { month = m; day = d; real = real }))

abbrev pub date_of : ℕ → ℕ → ℕ → Option Date
date_of y m d = and_then (is_true (real_date y m d)) (λ real. Some (record { year = y; month = m; day = d; real = real }))

abbrev pub time_of : ℕ → ℕ → Option TimeOfDay
time_of h m =
    and_then (less h 24) (λ hours.
    and_then (less m 60) (λ minutes.
    Some (record { hour = h; minute = m; hours = hours; minutes = minutes })))

abbrev pub minute_of : List ℕ → Option Minute
minute_of bs =
    and_then (date_of (2000 + slice_index bs 0) (slice_index bs 1) (slice_index bs 2)) (λ date.
    and_then (time_of (slice_index bs 3) (slice_index bs 4)) (λ time.
    Some (record { date = date; time = time })))

-- ---- holidays

abbrev pub holiday_of : List ℕ → Option (Entry Holiday)
holiday_of bs =
    and_then (month_day_of (slice_index bs 1) (slice_index bs 2)) (λ day.
    Some (record { number = slice_index bs 0; body = record { day = day } }))

-- ---- time sets

abbrev pub time_set_of : List ℕ → Option (Entry TimeSet)
time_set_of bs =
    and_then (time_of (slice_index bs 1) (slice_index bs 2)) (λ start.
    and_then (time_of (slice_index bs 3) (slice_index bs 4)) (λ end.
    and_then (at_most (minute_of_day start.hour start.minute) (minute_of_day end.hour end.minute)) (λ ordered.
    Some (record { number = slice_index bs 0; body = record { start = start; end = end; ordered = ordered } }))))

-- ---- groups

abbrev pub group_of : List ℕ → Option (Entry Group)
group_of bs =
    and_then (same (length (between 1 9 bs)) 8) (λ eight.
    and_then (is_true (zones_named (between 1 9 bs))) (λ named.
    Some (record { number = slice_index bs 0; body = record { zones = between 1 9 bs; doors = slice_index bs 9; eight = eight; named = named } })))

-- ---- zones

abbrev pub row_of : List ℕ → Option Row
row_of bs = and_then (same (length bs) 3) (λ three. Some (record { sets = bs; three = three }))

-- so many rows, one behind the other
abbrev pub rows_of : ℕ → List ℕ → Option (List Row)
rows_of zero bs = Some []
rows_of (suc more) bs =
    and_then (row_of (take 3 bs)) (λ row.
    and_then (rows_of more (drop 3 bs)) (λ rows.
    Some (row ∷ rows)))

abbrev pub zone_of : List ℕ → Option (Entry Zone)
zone_of bs =
    and_then (rows_of 8 (drop 1 bs)) (λ rows.
    and_then (same (length rows) 8) (λ eight.
    Some (record { number = slice_index bs 0; body = record { rows = rows; eight = eight } })))

-- ---- windows

abbrev pub kept_of : List ℕ → Option Kept
kept_of bs = and_then (same (length bs) 10) (λ ten. Some (record { bytes = bs; ten = ten }))

abbrev pub validity_of : List ℕ → List ℕ → Option Validity
validity_of from to =
    and_then (minute_of from) (λ start.
    and_then (minute_of to) (λ end.
    and_then (at_most (minute_number start) (minute_number end)) (λ ordered.
    Some (record { start = start; end = end; ordered = ordered }))))

abbrev pub window_of : List ℕ → Option Window
window_of bs =
    cond (slice_index bs 0 == 0) (option_map Unused (kept_of (between 1 11 bs)))
    (cond (slice_index bs 0 == 1) (option_map Used (validity_of (between 1 6 bs) (between 6 11 bs)))
    None)

-- ---- users

abbrev pub status_of : ℕ → Option Status
status_of b = cond (b == 0) (Some Off) (cond (b == 1) (Some Active) None)

abbrev pub user_of : List ℕ → Option (Entry User)
user_of bs =
    and_then (less (number_from_digits 256 (between 4 12 bs)) (2 ^ 64)) (λ eight.
    and_then (same (length (between 12 43 bs)) 31) (λ named.
    and_then (window_of (between 43 54 bs)) (λ window.
    and_then (status_of (slice_index bs 54)) (λ status.
    and_then (at_most (slice_index bs 55) 5) (λ kinds.
    and_then (same (length (between 56 60 bs)) 4) (λ four.
    and_then (same (length (between 61 69 bs)) 8) (λ secret.
    and_then (same (length (between 69 84 bs)) 15) (λ rest.
    Some (record {
      number = number_from_digits 256 (between 0 4 bs);
      body = record {
        card = number_from_digits 256 (between 4 12 bs);
        name = between 12 43 bs;
        window = window;
        status = status;
        kind = slice_index bs 55;
        groups = between 56 60 bs;
        bypass = slice_index bs 60;
        password = between 61 69 bs;
        reserved = between 69 84 bs;
        eight = eight;
        named = named;
        kinds = kinds;
        four = four;
        secret = secret;
        rest = rest;
      };
    })))))))))
