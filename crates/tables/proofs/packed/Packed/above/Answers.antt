use Rattle.std.proofs.Common.{vec_items}
use Rattle.tables.specs.Packings.{split_ok, split_err}
use Rattle.tables.proofs.packed.Packed.above.Goals as goal

pub returns-in-Ok : goal.returns-in-Ok
returns-in-Ok g c =
    let self = c.args.self.now in
    rw c.in-Some.is (split_ok (vec_items self.records) self.ascends c.in-Some.number c.in-Ok.at c.in-Ok.ensures)

pub returns-in-Err : goal.returns-in-Err
returns-in-Err g c =
    let self = c.args.self.now in
    rw c.in-Some.is (split_err (vec_items self.records) self.ascends c.in-Some.number c.in-Err.at c.in-Err.ensures)
