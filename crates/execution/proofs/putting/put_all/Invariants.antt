use Rattle.std.proofs.Common.{◌≡◌, true, List, take}
use Rattle.std.specs.List.{AllByRecursion}
use Rattle.tables.specs.declared.entry.Entry.{Entry}
use Rattle.tables.specs.Replays.{replay, Agree, SameRange}
use Rattle.orders.specs.Orders.{Lies}
use Rattle.execution.specs.Deeds.{puts}
use Rattle.execution.proofs.putting.put_all.Given as goal

abbrev pub invariant-loop-turn : goal.invariant-loop-turn
invariant-loop-turn g l =
    ((es : List (Entry g.row.R.Denot)) → Lies g.R.Record.encoded g.R.Record.long l.place l.bytes es → AllByRecursion (λ e. g.R.Record.numbers l.last_user e.number ≡ true) es → Agree (g.T.Table.view l.table) (replay (g.T.Table.view l.initial.table) (puts (take l.turn es))))
    × SameRange (g.T.Table.view l.table) (g.T.Table.view l.initial.table)
