-- The days of years and of the months of a year.
use Rattle.std.proofs.Common.{◌≡◌, ℕ, zero, suc, ◌+◌, ◌*◌, ◌/◌, ◌<◌, ◌≤◌, Bool, true, false, cond, List, [], ◌∷◌, length, get_or, take, sum, refl, ap, arith}
use Rattle.std.proofs.lemmas.Bool.Decides.{nat_tests}
use Rattle.std.proofs.lemmas.Grind.{common_steps}
use Rattle.std.proofs.lemmas.List.{length-take-le, take-take, get_or-take}
use Rattle.std.proofs.lemmas.List.Sums.{sum_by_more_le}
use Rattle.calendar.specs.Days.{leap, year_length, month_lengths, month_length, days_of_years}

year_is : (k : ℕ) → k < 100 → year_length (2000 + k) + (k + 3) / 4 ≡ 365 + (k + 4) / 4
year_is k few = grind (arith, nat_tests)

pub years_counted : (k : ℕ) → k ≤ 100 → days_of_years k ≡ 365 * k + (k + 3) / 4
years_counted zero few = refl
years_counted (suc k) few = omega (arith, years_counted k (omega arith), year_is k (omega arith))

year_sum : (b : Bool) → sum (31 ∷ cond b 29 28 ∷ 31 ∷ 30 ∷ 31 ∷ 30 ∷ 31 ∷ 31 ∷ 30 ∷ 31 ∷ 30 ∷ 31 ∷ []) ≡ cond b 366 365
year_sum true = refl
year_sum false = refl

pub months_counted : (y : ℕ) → sum (month_lengths y) ≡ year_length y
months_counted y = year_sum (leap y)

pub month_bounds : (y m : ℕ) → 1 ≤ m → m ≤ 12 → (28 ≤ month_length y m) × (month_length y m ≤ 31)
month_bounds y m from_january to_december = grind (arith, common_steps)

-- the first i numbers of a list and a part of the next are within the first j
pub sum_before : (xs : List ℕ) (i j d : ℕ) → i < j → j ≤ length xs → d ≤ get_or xs i 0 → sum (take i xs) + d ≤ sum (take j xs)
sum_before xs i j d less within part =
    let front : sum (take i (take j xs)) ≡ sum (take i xs) = ap sum (take-take i j xs (omega arith)) in
    let next : get_or (take j xs) i 0 ≡ get_or xs i 0 = get_or-take j xs i 0 less in
    omega (arith, sum_by_more_le (λ x. x) (take j xs) i 0 (omega (arith, length-take-le j xs within)))
