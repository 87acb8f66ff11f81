use Rattle.std.proofs.Common.{◌≡◌, ◌-◌, length, take}
use Rattle.script.specs.Fields.{hex_run}
use Rattle.script.proofs.FieldLaws.{before}
use Rattle.script.proofs.fields.hex_word.Given as goal

abbrev pub invariant-loop-byte : goal.invariant-loop-byte
invariant-loop-byte g l = record {
  same : before (take l.byte-index l.byte-items) (hex_run (g.row.N - l.byte-index) l.rest) ≡ hex_run g.row.N l.text;
  full : length l.byte-items ≡ g.row.N;
}
