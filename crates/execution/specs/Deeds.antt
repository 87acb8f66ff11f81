-- What an accepted order changes: the edits of one table, or the log.
use Rattle.std.specs.Prelude.{◌≡◌, List, [], ◌∷◌}
use Rattle.tables.specs.declared.edit.Edit.{Edit}
use Rattle.tables.specs.declared.edit.Edit.TheVariants.{Put, Remove, Clear}
use Rattle.tables.specs.declared.entry.Entry.{Entry}
use Rattle.tables.specs.Replays.{replay, Agree}
use Rattle.records.specs.declared.group.Group.{Group}
use Rattle.records.specs.declared.holiday.Holiday.{Holiday}
use Rattle.records.specs.declared.time_set.TimeSet.{TimeSet}
use Rattle.records.specs.declared.user.User.{User}
use Rattle.records.specs.declared.zone.Zone.{Zone}
use Rattle.access.specs.Standing.{Views}
use Rattle.journal.specs.declared.entry.Entry.{Entry as LogEntry}
use Rattle.orders.specs.declared.command.Command.{Command}
use Rattle.orders.specs.declared.command.Command.TheVariants.{DeleteUser, ClearUsers, QueryUser, CountUsers, QueryCard, ListUsers, RegisterUser, ReadUser, PutTimeSets, DeleteTimeSet, ClearTimeSets, ReadTimeSet, PutZones, DeleteZone, ClearZones, ReadZone, PutGroups, DeleteGroup, ClearGroups, ReadGroup, PutHolidays, DeleteHoliday, ClearHolidays, ReadHolidays, CountLog, ReadLog, ClearLog, ListTimeSets, ListZones, ListGroups}
use Rattle.orders.specs.Meanings.{takes, Content}

pub data Deed : Type 0 where
  on_users : List (Edit User) → Deed
  on_time_sets : List (Edit TimeSet) → Deed
  on_zones : List (Edit Zone) → Deed
  on_groups : List (Edit Group) → Deed
  on_holidays : List (Edit Holiday) → Deed
  log_cleared : Deed
  no_change : Deed

-- records are put in their order, so that under equal numbers the last stays
abbrev pub puts : {B : Type 0} → List (Entry B) → List (Edit B)
puts [] = []
puts (e ∷ es) = Put e ∷ puts es

abbrev pub deed : (c : Command) → Content (takes c) → Deed
deed DeleteUser n = on_users (Remove n ∷ [])
deed ClearUsers x = on_users (Clear ∷ [])
deed QueryUser x = no_change
deed CountUsers x = no_change
deed QueryCard x = no_change
deed ListUsers x = no_change
deed RegisterUser x = on_users (Put x.1 ∷ [])
deed ReadUser x = no_change
deed PutTimeSets es = on_time_sets (puts es)
deed DeleteTimeSet n = on_time_sets (Remove n ∷ [])
deed ClearTimeSets x = on_time_sets (Clear ∷ [])
deed ReadTimeSet x = no_change
deed PutZones es = on_zones (puts es)
deed DeleteZone n = on_zones (Remove n ∷ [])
deed ClearZones x = on_zones (Clear ∷ [])
deed ReadZone x = no_change
deed PutGroups es = on_groups (puts es)
deed DeleteGroup n = on_groups (Remove n ∷ [])
deed ClearGroups x = on_groups (Clear ∷ [])
deed ReadGroup x = no_change
deed PutHolidays es = on_holidays (puts es)
deed DeleteHoliday n = on_holidays (Remove n ∷ [])
deed ClearHolidays x = on_holidays (Clear ∷ [])
deed ReadHolidays x = no_change
deed CountLog x = no_change
deed ReadLog x = no_change
deed ClearLog x = log_cleared
deed ListTimeSets x = no_change
deed ListZones x = no_change
deed ListGroups x = no_change

-- ---- what a deed makes of each table and of the log

abbrev pub users_edits : Deed → List (Edit User)
users_edits (on_users es) = es
users_edits (on_time_sets es) = []
users_edits (on_zones es) = []
users_edits (on_groups es) = []
users_edits (on_holidays es) = []
users_edits log_cleared = []
users_edits no_change = []

abbrev pub time_sets_edits : Deed → List (Edit TimeSet)
time_sets_edits (on_users es) = []
time_sets_edits (on_time_sets es) = es
time_sets_edits (on_zones es) = []
time_sets_edits (on_groups es) = []
time_sets_edits (on_holidays es) = []
time_sets_edits log_cleared = []
time_sets_edits no_change = []

abbrev pub zones_edits : Deed → List (Edit Zone)
zones_edits (on_users es) = []
zones_edits (on_time_sets es) = []
zones_edits (on_zones es) = es
zones_edits (on_groups es) = []
zones_edits (on_holidays es) = []
zones_edits log_cleared = []
zones_edits no_change = []

abbrev pub groups_edits : Deed → List (Edit Group)
groups_edits (on_users es) = []
groups_edits (on_time_sets es) = []
groups_edits (on_zones es) = []
groups_edits (on_groups es) = es
groups_edits (on_holidays es) = []
groups_edits log_cleared = []
groups_edits no_change = []

abbrev pub holidays_edits : Deed → List (Edit Holiday)
holidays_edits (on_users es) = []
holidays_edits (on_time_sets es) = []
holidays_edits (on_zones es) = []
holidays_edits (on_groups es) = []
holidays_edits (on_holidays es) = es
holidays_edits log_cleared = []
holidays_edits no_change = []

abbrev pub log_after : Deed → List LogEntry → List LogEntry
log_after (on_users es) log = log
log_after (on_time_sets es) log = log
log_after (on_zones es) log = log
log_after (on_groups es) log = log
log_after (on_holidays es) log = log
log_after log_cleared log = []
log_after no_change log = log

-- what a deed leaves of five tables and the log
pub record Done (d : Deed) (before after : Views) (log log' : List LogEntry) : Type 0 where
  pub users : Agree after.users (replay before.users (users_edits d))
  pub time_sets : Agree after.time_sets (replay before.time_sets (time_sets_edits d))
  pub zones : Agree after.zones (replay before.zones (zones_edits d))
  pub groups : Agree after.groups (replay before.groups (groups_edits d))
  pub holidays : Agree after.holidays (replay before.holidays (holidays_edits d))
  pub log_is : log' ≡ log_after d log
