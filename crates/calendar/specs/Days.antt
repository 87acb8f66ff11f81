-- Real dates and times of the years 2000 to 2099, and how many days and minutes have passed since 1 January 2000, 00:00.
use Rattle.std.specs.Prelude.{ℕ, zero, suc, ◌+◌, ◌-◌, ◌*◌, ◌%◌, Bool, cond, not, ◌&&◌, ◌||◌, List, [], ◌∷◌, take, sum, ◌==◌, nat_le, nat_lt, slice_index}

abbrev pub leap : ℕ → Bool
leap y = y % 4 == 0 && (not (y % 100 == 0) || y % 400 == 0)

abbrev pub year_length : ℕ → ℕ
year_length y = cond (leap y) 366 365

-- January to December
abbrev pub month_lengths : ℕ → List ℕ
month_lengths y = 31 ∷ cond (leap y) 29 28 ∷ 31 ∷ 30 ∷ 31 ∷ 30 ∷ 31 ∷ 31 ∷ 30 ∷ 31 ∷ 30 ∷ 31 ∷ []

abbrev pub month_length : ℕ → ℕ → ℕ
month_length y m = slice_index (month_lengths y) (m - 1)

abbrev pub real_day : ℕ → ℕ → ℕ → Bool
real_day y m d = (nat_le 1 m && nat_le m 12) && (nat_le 1 d && nat_le d (month_length y m))

abbrev pub real_date : ℕ → ℕ → ℕ → Bool
real_date y m d = (nat_le 2000 y && nat_le y 2099) && real_day y m d

-- a date of some year: 29 February is one
abbrev pub date_of_some_year : ℕ → ℕ → Bool
date_of_some_year m d = real_day 2000 m d

abbrev pub real_time : ℕ → ℕ → Bool
real_time h mi = nat_lt h 24 && nat_lt mi 60

-- the days of the first k years from 2000 on
abbrev pub days_of_years : ℕ → ℕ
days_of_years zero = 0
days_of_years (suc k) = days_of_years k + year_length (2000 + k)

-- the days from 1 January 2000 to a date
unfoldable pub day_count : ℕ → ℕ → ℕ → ℕ
day_count y m d = days_of_years (y - 2000) + sum (take (m - 1) (month_lengths y)) + (d - 1)

abbrev pub minute_of_day : ℕ → ℕ → ℕ
minute_of_day h mi = 60 * h + mi
