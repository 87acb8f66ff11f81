use Rattle.std.proofs.Common.{suc, ◌<◌, length, None, vec_items, ap, arith}
use Rattle.std.proofs.lemmas.List.{get_or_read}
use Rattle.tables.specs.Maps.{one}
use Rattle.tables.specs.Placed.{slot}
use Rattle.tables.specs.Counts.{many_le, one_le}
use Rattle.tables.specs.Slotted.{many_has, many_set, named_set}
use Rattle.tables.proofs.slots.Slots.store.Goals as goal

pub overflow_sub-self : goal.overflow_sub-self
overflow_sub-self g c =
    let self = c.args.self.now in
    let xs = vec_items self.places in
    let less : c.args.at < length xs = omega arith in
    let gone = ap one (get_or_read xs c.args.at _ less c.index.ensures None) in
    omega (arith, many_has self.range.first xs c.args.at (suc self.range.last) less (omega arith))

pub overflow_add-self : goal.overflow_add-self
overflow_add-self g c = let self = c.args.self.now in omega (arith, self.range.fits, many_le (slot self.range.first (vec_items self.places)) (suc self.range.last), one_le c.args.place)

pub invariant_of-self : goal.invariant_of-self
invariant_of-self g c =
    let self = c.args.self.now in
    let xs = vec_items self.places in
    let less : c.args.at < length xs = omega arith in
    let gone = ap one (get_or_read xs c.args.at _ less c.index.ensures None) in
    let set = many_set self.range.first xs c.args.at c.args.place (suc self.range.last) less (omega arith) in
    let has = many_has self.range.first xs c.args.at (suc self.range.last) less (omega arith) in
    record { sized = self.sized; each = named_set self.range.first xs c.args.at c.args.place less self.each c.requires.number; counted = omega arith }
