use Rattle.std.proofs.Common.{◌≡◌, drop}
use Rattle.doors.specs.declared.event.Event.TheVariants.{DoorNotOpened, NotNow}
use Rattle.access.specs.Standing.{standing, views_by}
use Rattle.access.specs.Covering.{some_of, set_covers, group_opens, group_admits}
use Rattle.access.proofs.Deciding.{decided}
use Rattle.access.proofs.groups.decide.Given as goal

abbrev pub invariant-groups : goal.invariant-groups
invariant-groups g l =
    let s = standing (views_by g.M.Users.Table.view g.M.TimeSets.Table.view g.M.Zones.Table.view g.M.Groups.Table.view g.M.Holidays.Table.view l.tables) in
    let opens = group_opens s l.door.number in
    let admits = group_admits s l.door.number l.minute in
    decided opens admits l.event (drop l.number-index l.groups) ≡ decided opens admits DoorNotOpened l.groups

abbrev pub invariant-loop-set : goal.invariant-loop-set
invariant-loop-set g l =
    let s = standing (views_by g.M.Users.Table.view g.M.TimeSets.Table.view g.M.Zones.Table.view g.M.Groups.Table.view g.M.Holidays.Table.view l.tables) in
    (l.event ≡ NotNow) × (some_of (set_covers s l.minute) (drop l.set-index l.set-items) ≡ some_of (set_covers s l.minute) l.set-items)
