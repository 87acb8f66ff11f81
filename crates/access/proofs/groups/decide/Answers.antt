use Rattle.access.specs.Standing.{standing, views_by}
use Rattle.access.proofs.Deciding.{ended}
use Rattle.access.proofs.groups.decide.Goals as goal

pub returns-after-groups : goal.returns-after-groups
returns-after-groups g c =
    let s = standing (views_by g.M.Users.Table.view g.M.TimeSets.Table.view g.M.Zones.Table.view g.M.Groups.Table.view g.M.Holidays.Table.view c.args.tables.now) in
    ended s c.args.door.number c.args.minute.now c.args.groups.now c.groups.number-index c.groups.event c.groups-test.false c.groups.invariant
