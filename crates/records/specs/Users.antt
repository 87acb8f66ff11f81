-- A user: number (4), card (8), name (31), window (11), status, type, four groups, bypass level, password (8), reserved (15).
use Rattle.std.specs.Prelude.{ℕ, ◌/◌, ◌%◌, Bool, ◌&&◌, List, [], ◌∷◌, ◌++◌, drop, nat_le, nat_lt, slice_index}
use Rattle.std.specs.Int.Digits.{number_from_digits}
use Rattle.std.specs.List.{between}
use Rattle.tables.specs.declared.entry.Entry.{Entry}
use Rattle.records.specs.declared.user.Status.{Status}
use Rattle.records.specs.declared.user.Status.TheVariants.{Off, Active}
use Rattle.records.specs.declared.user.User.{User}
use Rattle.records.specs.Windows.{window_bytes, window_ranges}

-- the four bytes of a number, highest first
abbrev pub four : ℕ → List ℕ
four n = n / 16777216 % 256 ∷ n / 65536 % 256 ∷ n / 256 % 256 ∷ n % 256 ∷ []

abbrev pub card_bytes : ℕ → List ℕ
card_bytes c = four (c / 4294967296) ++ four (c % 4294967296)

abbrev pub status_byte : Status → ℕ
status_byte Off = 0
status_byte Active = 1

abbrev pub four_bytes_hold : ℕ → Bool
four_bytes_hold n = nat_lt n 4294967296

abbrev pub user_number : ℕ → ℕ → Bool
user_number last n = nat_le 1 n && nat_le n last

-- a number of the table that its field holds
abbrev pub user_may_have : ℕ → ℕ → Bool
user_may_have last n = user_number last n && four_bytes_hold n

-- the bytes behind the number
abbrev pub rest_bytes : User → List ℕ
rest_bytes u =
    card_bytes u.card ++ (u.name ++ (window_bytes u.window ++ (status_byte u.status ∷ u.kind ∷ (u.groups ++ (u.bypass ∷ (u.password ++ u.reserved))))))

abbrev pub user_bytes : Entry User → List ℕ
user_bytes e = four e.number ++ rest_bytes e.body

abbrev pub rest_ranges : List ℕ → Bool
rest_ranges rest = window_ranges (between 39 50 rest) && (nat_le (slice_index rest 50) 1 && nat_le (slice_index rest 51) 5)

abbrev pub user_ranges : ℕ → List ℕ → Bool
user_ranges last bs = user_number last (number_from_digits 256 (between 0 4 bs)) && rest_ranges (drop 4 bs)
