use Rattle.std.proofs.Common.{◌≡◌, suc, ◌-◌, ◌≤◌}
use Rattle.tables.specs.Maps.{many, start}
use Rattle.tables.proofs.uses.walked.Given as goal

abbrev pub invariant-loop-number : goal.invariant-loop-number
invariant-loop-number g l = let v = g.T.Table.view l.table in (l.met ≡ many v.at (start l.reached)) × (start l.reached ≤ suc v.high)

abbrev pub decreases-loop-number : goal.decreases-loop-number
decreases-loop-number g l = suc (g.T.Table.view l.table).high - start l.reached
