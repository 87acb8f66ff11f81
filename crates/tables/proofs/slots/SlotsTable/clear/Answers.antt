use Rattle.std.proofs.Common.{suc, sym, refl, arith}
use Rattle.tables.specs.Slotted.{slot_none, named_none, none_refilled}
use Rattle.tables.specs.Counts.{many_empty}
use Rattle.tables.proofs.slots.SlotsTable.clear.Goals as goal

pub invariant_of-self : goal.invariant_of-self
invariant_of-self g c =
    let self = c.args.self.now in
    let none = none_refilled self.places c.empty_all.new.places (omega arith) c.empty_all.ensures in
    record { sized = self.sized; each = named_none self.range.first _ none; counted = sym (many_empty _ (suc self.range.last) (slot_none self.range.first _ none)) }

pub returns : goal.returns
returns g c =
    let self = c.args.self.now in
    record { low_same = refl; high_same = refl; map_same = slot_none self.range.first _ (none_refilled self.places c.empty_all.new.places (omega arith) c.empty_all.ensures) }
