use Rattle.std.proofs.Common.{rules, ◌≡◌, ◌++◌, sym, ap, ◌∙◌, arith}
use Rattle.std.specs.Int.Digits.{number_from_digits}
use Rattle.std.proofs.lemmas.Bool.{and_from, and_left, and_right}
use Rattle.std.proofs.lemmas.Result.{err_from_is_err_and}
use Rattle.records.specs.Users.{four, rest_ranges, user_number}
use Rattle.records.specs.UserBytes.{number_back}
use Rattle.records.proofs.user.User.with_number.Goals as goal

pub returns-then-not-is_user-clause-read : goal.returns-then-not-is_user-clause-read
returns-then-not-is_user-clause-read c =
    (grind arith, and_left _ _ (ap (user_number c.args.last_user) (number_back c.args.number (omega arith)) ∙ sym c.is_user.ensures ∙ c.if-not-is_user.true))

pub returns-in_err-body-clause-read : goal.returns-in_err-body-clause-read
returns-in_err-body-clause-read c =
    let same : c.in_ok-rest.rest.now ≡ c.args.rest.now = search rules in
    let told = c.in_err-body.ensures in
    let p = err_from_is_err_and c.from_residual-in_err-body.result c.from_residual-in_err-body.ensures.1 in
    rw (p.1, p.2, told.0) (grind arith, and_right (user_number c.args.last_user (number_from_digits 256 (four c.args.number))) _ (ap rest_ranges (sym same) ∙ told.1))

pub returns-clause-read : goal.returns-clause-read
returns-clause-read c =
    let same : c.in_ok-rest.rest.now ≡ c.args.rest.now = search rules in
    let told = c.in_ok-body.ensures in (
      ap (λ rest. four c.args.number ++ rest) (told.0 ∙ same),
      and_from _ _ (ap (user_number c.args.last_user) (number_back c.args.number (omega arith)) ∙ search rules) (ap rest_ranges (sym same) ∙ told.1),
    )
