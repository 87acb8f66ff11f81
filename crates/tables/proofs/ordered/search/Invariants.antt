use Rattle.std.proofs.Common.{◌-◌, ◌≤◌, length}
use Rattle.tables.specs.Order.{Climbs}
use Rattle.tables.specs.Searches.{Narrowed}
use Rattle.tables.proofs.ordered.search.Given as goal

abbrev pub invariant-loop-low : goal.invariant-loop-low
invariant-loop-low g l = (l.low ≤ l.high) × (l.high ≤ length l.records) × (Climbs g.R.Keyed.rank l.records → Narrowed g.R.Keyed.rank (g.R.Keyed.sought l.key) l.records l.low l.high)

abbrev pub decreases-loop-low : goal.decreases-loop-low
decreases-loop-low g l = l.high - l.low
