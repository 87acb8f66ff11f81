-- The day after a date: it is real, one day later, and of the following weekday.
use Rattle.std.proofs.Common.{◌≡◌, ℕ, suc, ◌+◌, ◌-◌, ◌%◌, ◌<◌, ◌≤◌, true, false, get_or, take, IfSome, Some, None, sum, Option, ap, ◌∙◌, arith, MatchOption}
use Rattle.std.proofs.lemmas.Bool.Decides.{nat_tests}
use Rattle.std.proofs.lemmas.Grind.{common_steps}
use Rattle.std.proofs.lemmas.List.Sums.{sum_by_more}
use Rattle.calendar.specs.declared.date.Date.{Date}
use Rattle.calendar.specs.declared.week.Weekday.TheVariants.{Monday}
use Rattle.calendar.specs.Days.{year_length, month_lengths, month_length, days_of_years, day_count, real_date}
use Rattle.calendar.specs.Dates.{day_number, WeekdayFollows}
use Rattle.calendar.specs.Week.{week, weekday_after, following}
use Rattle.calendar.proofs.Counting.{months_counted, month_bounds}

-- ---- what a real date's numbers are

pub record Real (y m d : ℕ) : Type 0 where
  pub from_2000 : 2000 ≤ y
  pub to_2099 : y ≤ 2099
  pub from_january : 1 ≤ m
  pub to_december : m ≤ 12
  pub from_first : 1 ≤ d
  pub to_last : d ≤ month_length y m

pub real_parts : (y m d : ℕ) → real_date y m d ≡ true → Real y m d
real_parts y m d is = record { from_2000 = grind (arith, nat_tests); to_2099 = grind (arith, nat_tests); from_january = grind (arith, nat_tests); to_december = grind (arith, nat_tests); from_first = grind (arith, nat_tests); to_last = grind (arith, nat_tests) }

-- ---- the weekday

week_turns : (k : ℕ) → k < 7 → get_or week ((k + 1) % 7) Monday ≡ following (get_or week k Monday)
week_turns k few = grind (arith, common_steps)

pub weekday_turns : (n : ℕ) → weekday_after (n + 1) ≡ following (weekday_after n)
weekday_turns n =
    let turned : (5 + (n + 1)) % 7 ≡ ((5 + n) % 7 + 1) % 7 = omega arith in
    ap (λ k. get_or week k Monday) turned ∙ week_turns ((5 + n) % 7) (omega arith)

-- ---- one day later

pub in_month : (y m d : ℕ) → 1 ≤ d → day_count y m (d + 1) ≡ day_count y m d + 1
unfolding day_count
in_month y m d from_first = omega arith

pub month_on : (y m d : ℕ) → 1 ≤ m → m < 12 → d ≡ month_length y m → day_count y (m + 1) 1 ≡ day_count y m d + 1
unfolding day_count
month_on y m d from_january to_november is =
    let shifted : m + 1 - 1 ≡ m - 1 + 1 = omega arith in
    omega (arith, ap (λ k. sum (take k (month_lengths y))) shifted, sum_by_more (λ x. x) (month_lengths y) (m - 1) 0 (omega arith), month_bounds y m from_january (omega arith))

pub year_on : (y m d : ℕ) → 2000 ≤ y → m ≡ 12 → d ≡ month_length y m → day_count (y + 1) 1 1 ≡ day_count y m d + 1
unfolding day_count
year_on y m d from_2000 december is =
    let shifted : y + 1 - 2000 ≡ suc (y - 2000) = omega arith in
    let this_year : 2000 + (y - 2000) ≡ y = omega arith in
    omega (arith, ap days_of_years shifted, ap year_length this_year, months_counted y, ap (λ k. sum (take (k - 1) (month_lengths y))) december, ap (month_length y) december)

-- ---- what the code makes

-- a date that was made of the numbers of the day after
pub follows : (date : Date) (y m d : ℕ) (r : Option Date) → MatchOption r (real_date y m d ≡ false) (λ e. (e.year ≡ y) × (e.month ≡ m) × (e.day ≡ d)) → day_count y m d ≡ day_number date + 1 → IfSome r (λ e. WeekdayFollows date e)
follows date y m d None is later = tt
follows date y m d (Some e) is later =
    let one_day_later : day_number e ≡ day_number date + 1 = (λ i. day_count (is.0 i) (is.1 i) (is.2 i)) ∙ later in
    record { one_day_later = one_day_later; next_weekday = ap weekday_after one_day_later ∙ weekday_turns (day_number date) }
