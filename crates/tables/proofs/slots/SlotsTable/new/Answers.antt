use Rattle.std.proofs.Common.{suc, sym, arith}
use Rattle.tables.specs.Slotted.{slot_none, named_none}
use Rattle.tables.specs.Counts.{many_empty}
use Rattle.tables.proofs.slots.SlotsTable.new.Goals as goal

pub invariant_of-result : goal.invariant_of-result
invariant_of-result g c =
    let range = c.new-range.result in
    let none = c.in_ok-places.ensures.1 in
    record {
      sized = omega (arith, c.in_ok-places.ensures.0);
      each = named_none range.first _ none;
      counted = sym (many_empty _ (suc range.last) (slot_none range.first _ none));
    }
