use Rattle.std.proofs.Common.{◌≡◌, drop, vec_items}
use Rattle.script.specs.Hex.{hex_from, hex_bytes}
use Rattle.script.proofs.HexLaws.{after, Low}
use Rattle.script.proofs.hex.from_hex.Given as goal

abbrev pub invariant-loop-c : goal.invariant-loop-c
invariant-loop-c l = (after (vec_items l.bytes) (hex_from l.first (drop l.c-index l.text)) ≡ hex_bytes l.text) × Low l.first
