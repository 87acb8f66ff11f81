use Rattle.std.proofs.Common.{◌∙◌, arith}
use Rattle.access.proofs.Meanings.{sets_read, sets_past}
use Rattle.access.proofs.days.row_sets.Goals as goal

pub returns-in-Some : goal.returns-in-Some
returns-in-Some c =
    let zone = c.args.zone.now in
    let row = c.in-Some.ensures in
    c.sets.ensures ∙ sets_read zone.rows c.args.row c.in-Some.found.now (omega (arith, zone.eight, row.0)) row.1

pub returns-in-None : goal.returns-in-None
returns-in-None c = let zone = c.args.zone.now in sets_past zone.rows c.args.row (omega (arith, zone.eight, c.in-None.ensures))
