-- The laws of a line, together.
use Rattle.std.proofs.Common.{ℕ}
use Rattle.line.specs.Laws.{LineLaws}
use Rattle.line.proofs.Beginnings as beginnings
use Rattle.line.proofs.Frames as frames
use Rattle.line.proofs.Pieces as pieces

pub line_laws : (tid : ℕ) → LineLaws tid
line_laws tid = record {
  pieces_join = pieces.pieces_join tid;
  all_read = pieces.all_read tid;
  ready_at_last_byte = frames.ready_at_last_byte tid;
  other_passed_over = frames.other_passed_over tid;
  noise_passed_over = frames.noise_passed_over tid;
  still_begun = beginnings.still_begun tid;
  only_frames = beginnings.only_frames tid;
}
