use Rattle.std.proofs.Common.{rules}
use Rattle.tables.specs.Slotted.{none_from_growth}
use Rattle.tables.proofs.slots.empty_places.Goals as goal

pub returns : goal.returns
returns g c = (search rules, none_from_growth _ _ c.args.size _ _ c.in_ok-places.ensures.items (λ f x h q. search rules) c.in_ok-resize_with.ensures.items)
