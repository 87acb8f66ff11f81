use Rattle.std.proofs.Common.{◌≡◌, length, refl, subst, arith}
use Rattle.script.proofs.HexLaws.{Laid, laid_more, laid_whole}
use Rattle.script.proofs.hex.pairs_of.Goals as goal

pub loop-i-init : goal.loop-i-init
loop-i-init c = record { room = refl; digits = refl; ascii = λ i. omega arith }

pub loop-i-preserved : goal.loop-i-preserved
loop-i-preserved c = laid_more c.args.piece.now c.loop-i.i c.loop-i.pairs c.pair_of.result c.loop-i.invariant (omega arith) c.requires (omega arith) c.pair_of.ensures

pub returns-clause-digits : goal.returns-clause-digits
returns-clause-digits c =
    let end : c.loop-i.i ≡ length c.args.piece.now = omega arith in
    (laid_whole c.args.piece.now c.loop-i.pairs (subst (λ i. Laid c.args.piece.now i c.loop-i.pairs) end c.loop-i.invariant)).0

pub returns-clause-ascii : goal.returns-clause-ascii
returns-clause-ascii c =
    let end : c.loop-i.i ≡ length c.args.piece.now = omega arith in
    (laid_whole c.args.piece.now c.loop-i.pairs (subst (λ i. Laid c.args.piece.now i c.loop-i.pairs) end c.loop-i.invariant)).1
