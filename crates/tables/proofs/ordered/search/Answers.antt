use Rattle.std.proofs.Common.{arith}
use Rattle.tables.specs.Searches.{narrow_up, narrow_down}
use Rattle.tables.proofs.ordered.search.Goals as goal

pub loop-low-preserved-in-Less : goal.loop-low-preserved-in-Less
loop-low-preserved-in-Less g c = (
  omega arith,
  omega arith,
  λ climbs. narrow_up g.R.Keyed.rank (g.R.Keyed.sought c.args.key.now) c.args.records.now c.loop-low.low c.loop-low.high _ c.index-records-mid.result climbs (c.loop-low.invariant.2 climbs) (omega arith) c.index-records-mid.is c.in-Less.ensures,
)

pub loop-low-preserved : goal.loop-low-preserved
loop-low-preserved g c = (
  omega arith,
  omega arith,
  λ climbs. narrow_down g.R.Keyed.rank (g.R.Keyed.sought c.args.key.now) c.args.records.now c.loop-low.low c.loop-low.high _ c.index-records-mid.result climbs (c.loop-low.invariant.2 climbs) (omega arith) c.index-records-mid.is c.in-Greater.ensures,
)
