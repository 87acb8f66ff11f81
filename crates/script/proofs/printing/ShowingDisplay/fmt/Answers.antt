use Rattle.std.proofs.Common.{arith}
use Rattle.std.proofs.Output.{has_written_of_eq}
use Rattle.script.proofs.PrintLaws.{two_places, four_places, shown}
use Rattle.script.proofs.printing.ShowingDisplay.fmt.Goals as goal

pub returns-clause-writes : goal.returns-clause-writes
returns-clause-writes g c = λ plain ok.
    let s = c.args.self.now in
    let written = simp (c.laid_out.ensures, c.laid_out-2.ensures, c.laid_out-3.ensures, c.laid_out-4.ensures, c.laid_out-5.ensures, c.laid_out-6.ensures, four_places s.year (omega arith), two_places s.month (omega arith), two_places s.date (omega arith), two_places s.hour (omega arith), two_places s.minute (omega arith), two_places s.second (omega arith)) at c.write.ensures.writes in
    has_written_of_eq _ _ _ _ _ (shown s) (written plain ok)
