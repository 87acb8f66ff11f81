use Rattle.calendar.proofs.Order.{minute_le}
use Rattle.calendar.proofs.minute.Minute.not_after.Goals as goal

pub returns : goal.returns
returns c = let order = minute_le c.args.self.now c.args.other.now in cc
