use Rattle.std.proofs.Common.{is_some, ap, arith}
use Rattle.access.specs.Standing.{standing, views_by}
use Rattle.access.proofs.Containing.{told_some, told_none, laws_at}
use Rattle.access.proofs.events.answer.Goals as goal

pub returns-in-Some : goal.returns-in-Some
returns-in-Some g c =
    let tables = c.args.tables.now in
    let s = standing (views_by g.M.Users.Table.view g.M.TimeSets.Table.view g.M.Zones.Table.view g.M.Groups.Table.view g.M.Holidays.Table.view tables) in
    let value = told_some s c.args.card c.args.door.number c.args.minute.now c.in-Some.found.now c.user_event.result c.in-Some.ensures c.user_event.ensures in
    record {
      value = value;
      laws = laws_at s c.args.card c.args.door.number c.args.minute.now (record {
        users_below = λ n e is. omega (arith, (g.met.M.Users.Table.within tables.users n (ap is_some is)).1);
        holidays_below = λ n e is. omega (arith, (g.met.M.Holidays.Table.within tables.holidays n (ap is_some is)).1);
      }) (g.met.M.Users.Table.named tables.users) _ value;
    }

pub returns-in-None : goal.returns-in-None
returns-in-None g c =
    let tables = c.args.tables.now in
    let s = standing (views_by g.M.Users.Table.view g.M.TimeSets.Table.view g.M.Zones.Table.view g.M.Groups.Table.view g.M.Holidays.Table.view tables) in
    let value = told_none s c.args.card c.args.door.number c.args.minute.now c.in-None.ensures in
    record {
      value = value;
      laws = laws_at s c.args.card c.args.door.number c.args.minute.now (record {
        users_below = λ n e is. omega (arith, (g.met.M.Users.Table.within tables.users n (ap is_some is)).1);
        holidays_below = λ n e is. omega (arith, (g.met.M.Holidays.Table.within tables.holidays n (ap is_some is)).1);
      }) (g.met.M.Users.Table.named tables.users) _ value;
    }
