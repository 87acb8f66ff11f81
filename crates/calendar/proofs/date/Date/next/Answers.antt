use Rattle.std.proofs.Common.{◌+◌, arith}
use Rattle.std.proofs.lemmas.Grind.{common_steps}
use Rattle.calendar.proofs.Counting.{month_bounds}
use Rattle.calendar.proofs.Following.{real_parts, follows, in_month, month_on, year_on}
use Rattle.calendar.proofs.date.Date.next.Goals as goal

pub returns-then-self-days_in_month-clause-law : goal.returns-then-self-days_in_month-clause-law
returns-then-self-days_in_month-clause-law c =
    let date = c.args.self.now in
    let real = real_parts date.year date.month date.day date.real in
    follows date date.year date.month (date.day + 1) c.new.result c.new.ensures (in_month date.year date.month date.day real.from_first)

pub returns-then-self-lt12-clause-fields : goal.returns-then-self-lt12-clause-fields
returns-then-self-lt12-clause-fields c =
    let date = c.args.self.now in
    let some = month_bounds date.year (date.month + 1) (omega arith) (omega arith) in
    grind (arith, common_steps, some)

pub returns-then-self-lt12-clause-law : goal.returns-then-self-lt12-clause-law
returns-then-self-lt12-clause-law c =
    let date = c.args.self.now in
    let real = real_parts date.year date.month date.day date.real in
    follows date date.year (date.month + 1) 1 c.new-then-self-lt12.result c.new-then-self-lt12.ensures (month_on date.year date.month date.day real.from_january c.if-self-lt12.true (omega (arith, real.to_last)))

pub returns-else-self-lt12-clause-law : goal.returns-else-self-lt12-clause-law
returns-else-self-lt12-clause-law c =
    let date = c.args.self.now in
    let real = real_parts date.year date.month date.day date.real in
    follows date (date.year + 1) 1 1 c.new-else-self-lt12.result c.new-else-self-lt12.ensures (year_on date.year date.month date.day real.from_2000 (omega (arith, real.to_december)) (omega (arith, real.to_last)))
