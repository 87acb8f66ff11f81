use Rattle.std.proofs.Common.{rules}
use Rattle.tables.specs.Slotted.{none_from_calls}
use Rattle.tables.proofs.slots.empty_all.Goals as goal

pub returns : goal.returns
returns g c = none_from_calls _ _ _ (λ f x h q. search rules) c.fill_with.ensures.ran
