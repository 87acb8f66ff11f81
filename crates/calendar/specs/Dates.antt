-- What the dates of the code are, and which date follows which.
use Rattle.std.specs.Prelude.{◌≡◌, ℕ, ◌+◌, ◌*◌, Bool, false, cond, ◌&&◌, nat_lt}
use Rattle.calendar.specs.declared.date.Date.{Date}
use Rattle.calendar.specs.declared.minute.Minute.{Minute}
use Rattle.calendar.specs.declared.moment.Moment.{Moment}
use Rattle.calendar.specs.declared.week.Weekday.{Weekday}
use Rattle.calendar.specs.declared.week.Weekday.TheVariants.{Thursday}
use Rattle.calendar.specs.Days.{month_length, day_count, minute_of_day, real_date, real_time}
use Rattle.calendar.specs.Week.{weekday_after, following}

-- days since 1 January 2000
abbrev pub day_number : Date → ℕ
day_number d = day_count d.year d.month d.day

abbrev pub weekday_of : Date → Weekday
weekday_of d = weekday_after (day_number d)

abbrev pub LastDate : Date → Type 0
LastDate d = (d.year ≡ 2099) × (d.month ≡ 12) × (d.day ≡ 31)

-- e is the day after d: in the same month, at the beginning of the next, or of the next year
abbrev pub DateAfter : Date → Date → Type 0
DateAfter d e =
    cond (nat_lt d.day (month_length d.year d.month)) ((e.year ≡ d.year) × (e.month ≡ d.month) × (e.day ≡ d.day + 1))
    (cond (nat_lt d.month 12) ((e.year ≡ d.year) × (e.month ≡ d.month + 1) × (e.day ≡ 1))
    ((e.year ≡ d.year + 1) × (e.month ≡ 1) × (e.day ≡ 1)))

pub record WeekdayFollows (d e : Date) : Type 0 where
  pub one_day_later : day_number e ≡ day_number d + 1
  pub next_weekday : weekday_of e ≡ following (weekday_of d)

-- minutes since 1 January 2000, 00:00; seconds do not count
abbrev pub minute_number : Minute → ℕ
minute_number x = 1440 * day_number x.date + minute_of_day x.time.hour x.time.minute

abbrev pub real_moment : ℕ → ℕ → ℕ → ℕ → ℕ → ℕ → Bool
real_moment y m d h mi s = real_date y m d && (real_time h mi && nat_lt s 60)

-- the numbers of a moment
pub record MomentIs (y m d h mi s : ℕ) (x : Moment) : Type 0 where
  pub year : x.minute.date.year ≡ y
  pub month : x.minute.date.month ≡ m
  pub day : x.minute.date.day ≡ d
  pub hour : x.minute.time.hour ≡ h
  pub minute : x.minute.time.minute ≡ mi
  pub second : x.second ≡ s

-- two dates that everybody can look up
pub record KnownDates : Type 0 where
  pub leap_day : weekday_after (day_count 2024 2 29) ≡ Thursday
  pub no_leap_day : real_date 2023 2 29 ≡ false
