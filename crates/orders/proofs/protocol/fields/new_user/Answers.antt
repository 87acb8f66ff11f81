use Rattle.std.proofs.Common.{arith}
use Rattle.std.proofs.lemmas.Bool.{and_right}
use Rattle.std.proofs.lemmas.Result.{err_from_is_err_and}
use Rattle.orders.proofs.NewUsers.{user_found, user_not_found}
use Rattle.orders.proofs.protocol.fields.new_user.Goals as goal

pub returns-in_err-with_number : goal.returns-in_err-with_number
returns-in_err-with_number c =
    let in-some = c.in-Some-default-len1-up in
    let cases = in-some.ensures.cases in
    let e = err_from_is_err_and c.from_residual-in_err-with_number.result c.from_residual-in_err-with_number.ensures.1 in
    rw (e.1, e.2) (λ long. let told = user_not_found c.args.last_user c.args.body.now in-some.number.now in-some.field-0-1.now c.in_ok-number.number cases.1 cases.2 c.in_ok-number.ensures _ c.in_err-with_number.ensures.read long in (told.0, and_right _ _ told.1))

pub returns : goal.returns
returns c =
    let in-some = c.in-Some-default-len1-up in
    let cases = in-some.ensures.cases in
    user_found c.args.last_user c.args.body.now in-some.number.now in-some.field-0-1.now c.in_ok-number.number cases.1 cases.2 c.in_ok-number.ensures c.in_ok-with_number.field-0 (omega arith) (omega arith) c.in_ok-with_number.ensures.read.0 c.in_ok-with_number.ensures.number c.in_ok-with_number.ensures.may_have
