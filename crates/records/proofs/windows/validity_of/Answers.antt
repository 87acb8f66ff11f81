use Rattle.std.proofs.Common.{rules, ◌≡◌, refl, sym, ap, ◌∙◌, arith}
use Rattle.std.proofs.lemmas.Bool.{and_from, and_left, and_right, ltb-true, lt-leb}
use Rattle.std.proofs.lemmas.Result.{err_from_is_err_and}
use Rattle.calendar.proofs.Order.{minute_lt}
use Rattle.calendar.specs.Dates.{minute_number}
use Rattle.std.specs.List.{between}
use Rattle.records.specs.Windows.{minute_ranges, minute_said}
use Rattle.records.proofs.windows.validity_of.Goals as goal

pub returns-in_err-start : goal.returns-in_err-start
returns-in_err-start c =
    let from = (rw c.unwrap.ensures at c.as_array.ensures.cases).same in
    let told = c.in_err-start.ensures in
    let p = err_from_is_err_and c.from_residual.result c.from_residual.ensures.1 in
    rw (p.1, p.2, told.0) (refl, and_left _ _ (ap minute_ranges (sym from) ∙ told.1))

pub returns-then-lt : goal.returns-then-lt
returns-then-lt c =
    let bs = c.args.bytes.now in
    let from = (rw c.unwrap.ensures at c.as_array.ensures.cases).same in
    let to = (rw c.unwrap-2.ensures at c.as_array-2.ensures.cases).same in
    let start : minute_number c.in_ok-start.start ≡ minute_said (between 1 6 bs) = c.in_ok-start.ensures.1 ∙ ap minute_said from in
    let end : minute_number c.in_ok-end.end ≡ minute_said (between 6 11 bs) = c.in_ok-end.ensures.1 ∙ ap minute_said to in
    let less = ltb-true _ _ (sym (minute_lt c.in_ok-end.end c.in_ok-start.start) ∙ sym c.lt.ensures ∙ c.if-lt.true) in
    (refl, and_right (minute_ranges (between 1 6 bs)) _ (and_right (minute_ranges (between 6 11 bs)) _ (lt-leb (minute_said (between 1 6 bs)) _ (omega (arith, less, start, end)))))

pub invariant_of-result : goal.invariant_of-result
invariant_of-result c = record { ordered = let order = sym (minute_lt c.in_ok-end.end c.in_ok-start.start) ∙ sym c.lt.ensures ∙ c.if-lt.false in search rules }

pub returns : goal.returns
returns c =
    let start = c.in_ok-start.ensures in
    let end = c.in_ok-end.ensures in
    let from = (rw c.unwrap.ensures at c.as_array.ensures.cases).same in
    let to = (rw c.unwrap-2.ensures at c.as_array-2.ensures.cases).same in
    (start.0 ∙ from, end.0 ∙ to, and_from _ _ (ap minute_ranges (sym from) ∙ start.2) (and_from _ _ (ap minute_ranges (sym to) ∙ end.2) (search rules)))
