use Rattle.std.proofs.Common.{◌≡◌, List, ℕ, ◌++◌}
use Rattle.std.specs.Fmt.{HasWritten, IsPlainFormatter}
use Rattle.std.specs.Slice.Iter.{chunks_rest, chunks_size}
use Rattle.script.specs.Hex.{hex_text}
use Rattle.script.proofs.hex.HexDisplay.fmt.Given as goal

-- the bytes of the pieces that went by are written
abbrev pub invariant-loop-piece : goal.invariant-loop-piece
invariant-loop-piece g l =
    (chunks_size l.piece-iterator ≡ 16) × ((done : List ℕ) × (l.initial.self.0.now ≡ done ++ chunks_rest l.piece-iterator) × (IsPlainFormatter l.initial.f → HasWritten g.W.Write.write_str_gives l.initial.f (hex_text done) l.f))
