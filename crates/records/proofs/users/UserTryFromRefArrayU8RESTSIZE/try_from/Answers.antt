use Rattle.std.proofs.Common.{rules, ◌≡◌, ◌∷◌, ◌++◌, length, get_or, refl, sym, ap, ◌∙◌}
use Rattle.std.proofs.lemmas.Bool.{and_from, le-leb, lt-leb}
use Rattle.std.proofs.lemmas.Result.{err_from_is_err_and}
use Rattle.records.specs.Windows.{window_ranges}
use Rattle.records.specs.UserBytes.{rest_cut}
use Rattle.records.proofs.UserRest.{window_wrong, status_wrong, kind_wrong}
use Rattle.records.proofs.users.UserTryFromRefArrayU8RESTSIZE.try_from.Goals as goal

pub returns-in_err-window : goal.returns-in_err-window
returns-in_err-window c =
    let part = (rw c.unwrap.ensures at c.as_array.ensures.cases).same in
    let told = c.in_err-window.ensures in
    let p = err_from_is_err_and c.from_residual.result c.from_residual.ensures.1 in
    rw (p.1, p.2, told.0) (refl, window_wrong c.args.rest.now (ap window_ranges (sym part) ∙ told.1))

pub returns-in_err-status : goal.returns-in_err-status
returns-in_err-status c =
    let told = c.in_err-status.ensures in
    let p = err_from_is_err_and c.from_residual-in_err-status.result c.from_residual-in_err-status.ensures.1 in
    rw (p.1, p.2, told.0) (refl, status_wrong c.args.rest.now told.1)

pub returns-then-kind-gt-LAST_TYPE : goal.returns-then-kind-gt-LAST_TYPE
returns-then-kind-gt-LAST_TYPE c = (refl, kind_wrong c.args.rest.now (lt-leb _ 5 c.if-kind-gt-LAST_TYPE.true))

pub invariant_of-result : goal.invariant_of-result
invariant_of-result c =
    let card = rw c.unwrap-2.ensures at c.from_bytes.ensures in
    let name = rw c.unwrap-3.ensures at c.as_array-2.ensures.cases in
    let groups = rw c.unwrap-4.ensures at c.as_array-3.ensures.cases in
    let password = rw c.unwrap-5.ensures at c.as_array-4.ensures.cases in
    let reserved = rw c.unwrap-6.ensures at c.as_array-5.ensures.cases in
    record {
      eight = card.1;
      named = ap length name.same ∙ name.long;
      kinds = c.if-kind-gt-LAST_TYPE.false;
      four = ap length groups.same ∙ groups.long;
      secret = ap length password.same ∙ password.long;
      rest = ap length reserved.same ∙ reserved.long;
    }

pub returns : goal.returns
returns c =
    let rest = c.args.rest.now in
    let long : length rest ≡ 80 = search rules in
    let window-part = (rw c.unwrap.ensures at c.as_array.ensures.cases).same in
    let window = c.in_ok-window.ensures in
    let status = c.in_ok-status.ensures in
    let card = rw c.unwrap-2.ensures at c.from_bytes.ensures in
    let name = (rw c.unwrap-3.ensures at c.as_array-2.ensures.cases).same in
    let groups = (rw c.unwrap-4.ensures at c.as_array-3.ensures.cases).same in
    let password = (rw c.unwrap-5.ensures at c.as_array-4.ensures.cases).same in
    let reserved = (rw c.unwrap-6.ensures at c.as_array-5.ensures.cases).same in
    let kind = get_or rest 51 0 in
    let bypass = get_or rest 56 0 in (
      (λ i. card.0 i ++ (name i ++ ((window.0 ∙ window-part) i ++ (status.0 i ∷ kind ∷ (groups i ++ (bypass ∷ (password i ++ reserved i))))))) ∙ rest_cut rest long,
      and_from _ _ (ap window_ranges (sym window-part) ∙ window.1) (and_from _ _ status.1 (le-leb kind 5 c.if-kind-gt-LAST_TYPE.false)),
    )
