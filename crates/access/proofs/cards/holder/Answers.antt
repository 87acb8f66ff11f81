use Rattle.std.proofs.Common.{rules, tests, ◌∙◌}
use Rattle.std.proofs.lemmas.Iterator.Search.{find_from_yields_List}
use Rattle.tables.proofs.Walked.{walk_meets}
use Rattle.access.specs.Events.{has_card}
use Rattle.access.proofs.Searching.{found_lowest}
use Rattle.access.proofs.cards.holder.Goals as goal

pub returns : goal.returns
returns g c =
    let view = g.T.Table.view in
    let users = c.args.users.now in
    find_from_yields_List (λ e. has_card c.args.card e.body) c.find.new.self _ c.find.result c.find.ensures.ran (walk_meets view c.iter.result users c.iter.ensures.table c.iter.ensures.above) (λ x b q k. search (rules, tests))
    ∙ found_lowest (has_card c.args.card) (view users)
