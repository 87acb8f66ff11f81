-- What an order means: its command, and what the command takes. No byte is in it.
use Rattle.std.specs.Prelude.{ℕ, Bool, List}
use Rattle.tables.specs.declared.entry.Entry.{Entry}
use Rattle.records.specs.declared.group.Group.{Group}
use Rattle.records.specs.declared.holiday.Holiday.{Holiday}
use Rattle.records.specs.declared.time_set.TimeSet.{TimeSet}
use Rattle.records.specs.declared.user.User.{User}
use Rattle.records.specs.declared.zone.Zone.{Zone}
use Rattle.orders.specs.declared.command.Command.{Command}
use Rattle.orders.specs.declared.command.Command.TheVariants.{DeleteUser, ClearUsers, QueryUser, CountUsers, QueryCard, ListUsers, RegisterUser, ReadUser, PutTimeSets, DeleteTimeSet, ClearTimeSets, ReadTimeSet, PutZones, DeleteZone, ClearZones, ReadZone, PutGroups, DeleteGroup, ClearGroups, ReadGroup, PutHolidays, DeleteHoliday, ClearHolidays, ReadHolidays, CountLog, ReadLog, ClearLog, ListTimeSets, ListZones, ListGroups}

pub data Takes : Type 0 where
  nothing : Takes
  a_user_number : Takes
  a_card : Takes
  a_user : Takes
  a_time_set_number : Takes
  a_zone_number : Takes
  a_group_number : Takes
  a_holiday_number : Takes
  time_sets : Takes
  zones : Takes
  groups : Takes
  holidays : Takes

abbrev pub takes : Command → Takes
takes DeleteUser = a_user_number
takes ClearUsers = nothing
takes QueryUser = a_user_number
takes CountUsers = nothing
takes QueryCard = a_card
takes ListUsers = nothing
takes RegisterUser = a_user
takes ReadUser = a_user_number
takes PutTimeSets = time_sets
takes DeleteTimeSet = a_time_set_number
takes ClearTimeSets = nothing
takes ReadTimeSet = a_time_set_number
takes PutZones = zones
takes DeleteZone = a_zone_number
takes ClearZones = nothing
takes ReadZone = a_zone_number
takes PutGroups = groups
takes DeleteGroup = a_group_number
takes ClearGroups = nothing
takes ReadGroup = a_group_number
takes PutHolidays = holidays
takes DeleteHoliday = a_holiday_number
takes ClearHolidays = nothing
takes ReadHolidays = nothing
takes CountLog = nothing
takes ReadLog = nothing
takes ClearLog = nothing
takes ListTimeSets = nothing
takes ListZones = nothing
takes ListGroups = nothing

-- a new user comes with leave to replace one that stands, or without
abbrev pub Content : Takes → Type 0
Content nothing = Unit {0}
Content a_user_number = ℕ
Content a_card = ℕ
Content a_user = Bool × Entry User
Content a_time_set_number = ℕ
Content a_zone_number = ℕ
Content a_group_number = ℕ
Content a_holiday_number = ℕ
Content time_sets = List (Entry TimeSet)
Content zones = List (Entry Zone)
Content groups = List (Entry Group)
Content holidays = List (Entry Holiday)

abbrev pub Meaning : Type 0
Meaning = (c : Command) × Content (takes c)
