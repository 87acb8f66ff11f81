-- Is every field in its range, and a count at least 1?
use Rattle.std.specs.Prelude.{ℕ, zero, suc, Bool, true, false, ◌&&◌, List, [], ◌∷◌, ◌++◌, take, drop, nat_le, slice_index}
use Rattle.records.specs.Groups.{group_number, group_ranges}
use Rattle.records.specs.Holidays.{holiday_number, holiday_ranges}
use Rattle.records.specs.TimeSets.{time_set_number, time_set_ranges}
use Rattle.records.specs.Users.{user_ranges}
use Rattle.records.specs.Zones.{zone_number, zone_ranges}
use Rattle.orders.specs.declared.command.Command.{Command}
use Rattle.orders.specs.Meanings.{Takes, nothing, a_user_number, a_card, a_user, a_time_set_number, a_zone_number, a_group_number, a_holiday_number, time_sets, zones, groups, holidays, takes}

-- n records of that size, one behind the other, each in range
abbrev pub every_record : (List ℕ → Bool) → ℕ → ℕ → List ℕ → Bool
every_record ranges size zero bs = true
every_record ranges size (suc n) bs = ranges (take size bs) && every_record ranges size n (drop size bs)

abbrev pub counted : (List ℕ → Bool) → ℕ → List ℕ → Bool
counted ranges size [] = false
counted ranges size (n ∷ records) = nat_le 1 n && every_record ranges size n records

-- the user's bytes in a body that has the byte OVERWRITE behind the number
abbrev pub user_of : List ℕ → List ℕ
user_of body = take 4 body ++ drop 5 body

-- is what a command takes in range? A user's number that a command only names is exempt
abbrev pub taken_right : ℕ → Takes → List ℕ → Bool
taken_right last nothing body = true
taken_right last a_user_number body = true
taken_right last a_card body = true
taken_right last a_user body = nat_le (slice_index body 4) 1 && user_ranges last (user_of body)
taken_right last a_time_set_number body = time_set_number (slice_index body 0)
taken_right last a_zone_number body = zone_number (slice_index body 0)
taken_right last a_group_number body = group_number (slice_index body 0)
taken_right last a_holiday_number body = holiday_number (slice_index body 0)
taken_right last time_sets body = counted time_set_ranges 5 body
taken_right last zones body = counted zone_ranges 25 body
taken_right last groups body = counted group_ranges 10 body
taken_right last holidays body = counted holiday_ranges 3 body

abbrev pub fields_right : ℕ → Command → List ℕ → Bool
fields_right last c body = taken_right last (takes c) body
