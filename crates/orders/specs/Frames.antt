-- The frame of an order: 07, 03, LENGTH (four), TID (two), COMMAND, the body, a checksum over all before it, and 04.
use Rattle.std.specs.Prelude.{◌≡◌, ℕ, ◌+◌, ◌^◌, ◌<◌, ◌≤◌, Bool, true, false, List, [], ◌∷◌, ◌++◌, length, drop}
use Rattle.std.specs.List.{flat_map, AllByRecursion}
use Rattle.tables.specs.declared.entry.Entry.{Entry}
use Rattle.records.specs.Groups.{group_number, group_bytes}
use Rattle.records.specs.Holidays.{holiday_number, holiday_bytes}
use Rattle.records.specs.TimeSets.{time_set_number, time_set_bytes}
use Rattle.records.specs.Users.{four, card_bytes, user_may_have, user_bytes}
use Rattle.records.specs.Zones.{zone_number, zone_bytes}
use Rattle.orders.specs.Commands.{command_byte}
use Rattle.orders.specs.Meanings.{Takes, nothing, a_user_number, a_card, a_user, a_time_set_number, a_zone_number, a_group_number, a_holiday_number, time_sets, zones, groups, holidays, takes, Content, Meaning}
use Rattle.orders.specs.Replies.{two, closed}

-- the byte OVERWRITE
abbrev pub overwrite_byte : Bool → ℕ
overwrite_byte true = 1
overwrite_byte false = 0

-- in a user's body OVERWRITE stands behind the number
abbrev pub content_bytes : (t : Takes) → Content t → List ℕ
content_bytes nothing x = []
content_bytes a_user_number n = four n
content_bytes a_card c = card_bytes c
content_bytes a_user x = four x.1.number ++ (overwrite_byte x.0 ∷ drop 4 (user_bytes x.1))
content_bytes a_time_set_number n = n ∷ []
content_bytes a_zone_number n = n ∷ []
content_bytes a_group_number n = n ∷ []
content_bytes a_holiday_number n = n ∷ []
content_bytes time_sets es = length es ∷ flat_map time_set_bytes es
content_bytes zones es = length es ∷ flat_map zone_bytes es
content_bytes groups es = length es ∷ flat_map group_bytes es
content_bytes holidays es = length es ∷ flat_map holiday_bytes es

abbrev pub body_bytes : Meaning → List ℕ
body_bytes m = content_bytes (takes m.0) m.1

abbrev pub frame_bytes : ℕ → Meaning → List ℕ
frame_bytes tid m =
    closed (7 ∷ 3 ∷ (four (11 + length (body_bytes m)) ++ (two tid ++ (command_byte m.0 ∷ body_bytes m))))

-- one record at least, as many as a byte can count, each under a number of its table
abbrev pub CountedRight : {B : Type 0} → (ℕ → Bool) → List (Entry B) → Type 0
CountedRight number_right es = (1 ≤ length es) × (length es ≤ 255) × AllByRecursion (λ e. number_right e.number ≡ true) es

-- what a command takes is in range; last is the last number of the user table
abbrev pub ContentRight : ℕ → (t : Takes) → Content t → Type 0
ContentRight last nothing x = Unit {0}
ContentRight last a_user_number n = n < 2 ^ 32
ContentRight last a_card c = c < 2 ^ 64
ContentRight last a_user x = user_may_have last x.1.number ≡ true
ContentRight last a_time_set_number n = time_set_number n ≡ true
ContentRight last a_zone_number n = zone_number n ≡ true
ContentRight last a_group_number n = group_number n ≡ true
ContentRight last a_holiday_number n = holiday_number n ≡ true
ContentRight last time_sets es = CountedRight time_set_number es
ContentRight last zones es = CountedRight zone_number es
ContentRight last groups es = CountedRight group_number es
ContentRight last holidays es = CountedRight holiday_number es

abbrev pub Right : ℕ → Meaning → Type 0
Right last m = ContentRight last (takes m.0) m.1
