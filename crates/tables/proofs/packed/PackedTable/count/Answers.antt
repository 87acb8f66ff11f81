use Rattle.std.proofs.Common.{suc, vec_items, arith}
use Rattle.tables.specs.Packings.{many_find}
use Rattle.tables.proofs.packed.PackedTable.count.Goals as goal

pub returns : goal.returns
returns g c =
    let self = c.args.self.now in
    omega (arith, many_find (vec_items self.records) (suc self.range.last) self.ascends (λ k d h. omega (arith, (self.within k d h).1)))
