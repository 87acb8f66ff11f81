use Rattle.std.proofs.Common.{rules, ◌≡◌, ◌++◌, ◌*◌, length, take, sym, ap, subst, IsUtf8, ◌∙◌, append_assoc}
use Rattle.std.proofs.Output.{has_written_append, has_written_of_eq}
use Rattle.std.proofs.lemmas.Str.{IsUtf8-from_ascii}
use Rattle.script.specs.Hex.{hex_text}
use Rattle.script.proofs.HexLaws.{pieces_more}
use Rattle.script.proofs.hex.HexDisplay.fmt.Goals as goal

pub unwrap-requires : goal.unwrap-requires
unwrap-requires g c =
    let piece = c.in-Some.piece.now in
    let is : take (2 * length piece) c.as_flattened.result.now ≡ hex_text piece = ap (take (2 * length piece)) c.as_flattened.ensures.value ∙ c.pairs_of-pairs.ensures.digits in
    let utf8 = subst IsUtf8 (sym is) (IsUtf8-from_ascii (hex_text piece) c.pairs_of-pairs.ensures.ascii) in
    search rules

pub loop-piece-preserved : goal.loop-piece-preserved
loop-piece-preserved g c =
    let piece = c.in-Some.piece.now in
    let is : take (2 * length piece) c.as_flattened.result.now ≡ hex_text piece = ap (take (2 * length piece)) c.as_flattened.ensures.value ∙ c.pairs_of-pairs.ensures.digits in
    let (done, whole, so_far) = c.loop-piece.invariant.1 in
    let steps = c.in-Some.ensures.steps in
    let text = rw c.unwrap.ensures at c.from_utf8.ensures.cases in
    (steps.0 ∙ c.loop-piece.invariant.0, (done ++ piece, whole ∙ (ap (λ l. done ++ l) steps.1.0 ∙ sym (append_assoc done piece _)), λ plain. has_written_of_eq _ _ _ _ _ (pieces_more done piece) (has_written_append _ _ _ _ _ _ (so_far plain) (has_written_of_eq _ _ _ _ _ (text.0 ∙ is) (c.write_str.ensures.writes (so_far plain).plain (search rules))))))
