use Rattle.std.proofs.Common.{Ok, sym, ap, ◌∙◌, arith}
use Rattle.orders.proofs.Framing.{asks_taken, frame_laws}
use Rattle.orders.proofs.protocol.reading.read.Goals as goal

pub returns-in_err-command-clause-laws : goal.returns-in_err-command-clause-laws
returns-in_err-command-clause-laws c = frame_laws c.args.last_user c.args.frame.now (λ i. omega (arith, c.type_inv.frame i))

pub returns-in_err-order-clause-laws : goal.returns-in_err-order-clause-laws
returns-in_err-order-clause-laws c = frame_laws c.args.last_user c.args.frame.now (λ i. omega (arith, c.type_inv.frame i))

pub returns : goal.returns
returns c =
    let f = c.args.frame.now in
    let command = c.in_ok-command.command in
    let taken = c.in_ok-order.ensures in
    let asks = asks_taken c.args.last_user f command c.in_ok-command.body.now _ c.in_ok-command.ensures.value taken in
    record {
      value = ((command, taken.content), taken.brings, (asks ∙ ap (λ l. Ok (command, l)) (sym taken.bytes), taken.right));
      laws = frame_laws c.args.last_user f (λ i. omega (arith, c.type_inv.frame i));
    }
