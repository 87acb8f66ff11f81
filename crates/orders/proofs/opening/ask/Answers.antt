use Rattle.std.proofs.Common.{sym}
use Rattle.orders.proofs.Framing.{asks_taken}
use Rattle.orders.proofs.opening.ask.Goals as goal

pub returns : goal.returns
returns c = sym (asks_taken c.args.last_user c.args.frame.now c.in_ok-command.command c.in_ok-command.body.now _ c.in_ok-command.ensures.value c.in_ok-order_of.ensures)
