use Rattle.script.proofs.HexLaws.{Laid}
use Rattle.script.proofs.hex.pairs_of.Given as goal

abbrev pub invariant-loop-i : goal.invariant-loop-i
invariant-loop-i l = Laid l.piece l.i l.pairs
