-- The length of each command's body. In a counted body the first byte is the count, and as many records follow.
use Rattle.std.specs.Prelude.{ℕ, ◌*◌, Bool, false, List, [], ◌∷◌, length, ◌==◌}
use Rattle.orders.specs.declared.command.Command.{Command}
use Rattle.orders.specs.declared.size.BodySize.{BodySize}
use Rattle.orders.specs.declared.size.BodySize.TheVariants.{Fixed, Counted}
use Rattle.orders.specs.Meanings.{Takes, nothing, a_user_number, a_card, a_user, a_time_set_number, a_zone_number, a_group_number, a_holiday_number, time_sets, zones, groups, holidays, takes}

-- how long the bytes are of what a command takes
abbrev pub size_taken : Takes → BodySize
size_taken nothing = Fixed 0
size_taken a_user_number = Fixed 4
size_taken a_card = Fixed 8
size_taken a_user = Fixed 85
size_taken a_time_set_number = Fixed 1
size_taken a_zone_number = Fixed 1
size_taken a_group_number = Fixed 1
size_taken a_holiday_number = Fixed 1
size_taken time_sets = Counted 5
size_taken zones = Counted 25
size_taken groups = Counted 10
size_taken holidays = Counted 3

abbrev pub size_of : Command → BodySize
size_of c = size_taken (takes c)

abbrev pub long_right : BodySize → List ℕ → Bool
long_right (Fixed n) body = length body == n
long_right (Counted n) [] = false
long_right (Counted n) (count ∷ records) = length records == n * count
