use Rattle.std.proofs.Common.{rules, tests, ◌∙◌}
use Rattle.std.proofs.lemmas.Iterator.{YieldsList-from_slice}
use Rattle.std.proofs.lemmas.Iterator.Search.{all_from_yields_List}
use Rattle.records.specs.declared.row.Row.{Row}
use Rattle.records.specs.Zones.{sets_of}
use Rattle.execution.specs.Naming.{there, all_there}
use Rattle.execution.proofs.Every.{all_joined}
use Rattle.execution.proofs.naming.ZoneNaming.names_there.Goals as goal

pub returns : goal.returns
returns g c =
    let at = (g.T.Table.view c.args.time_sets.now).at in
    let rows = c.args.self.now.rows in
    all_from_yields_List (λ (r : Row). all_there at (sets_of r)) c.all.new.self _ c.all.result c.all.ensures.ran (YieldsList-from_slice rows (search rules)) (λ x b q k. search (rules, tests))
    ∙ all_joined (there at) sets_of rows
