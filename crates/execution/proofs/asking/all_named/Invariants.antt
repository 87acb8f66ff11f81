use Rattle.std.proofs.Common.{◌≡◌, true, List, drop}
use Rattle.std.specs.List.{AllByRecursion, list_all}
use Rattle.tables.specs.declared.entry.Entry.{Entry}
use Rattle.orders.specs.Orders.{Lies}
use Rattle.execution.specs.Naming.{all_there}
use Rattle.execution.proofs.asking.all_named.Given as goal

abbrev pub invariant-loop-turn : goal.invariant-loop-turn
invariant-loop-turn g l =
    (es : List (Entry g.row.R.Denot)) → Lies g.R.Record.encoded g.R.Record.long l.place l.bytes es → AllByRecursion (λ e. g.R.Record.numbers l.last_user e.number ≡ true) es → list_all (λ e. all_there (g.T.Table.view l.table).at (g.R.Naming.names e.body)) (drop l.turn es) ≡ list_all (λ e. all_there (g.T.Table.view l.table).at (g.R.Naming.names e.body)) es
