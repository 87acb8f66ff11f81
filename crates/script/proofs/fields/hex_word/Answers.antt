use Rattle.std.proofs.Common.{sym, ap, ◌∙◌, arith, rules}
use Rattle.script.specs.Fields.{hex_byte}
use Rattle.script.proofs.FieldLaws.{run_more}
use Rattle.script.proofs.fields.hex_word.Goals as goal

pub loop-byte-preserved : goal.loop-byte-preserved
loop-byte-preserved g c = record {
  same = run_more g.row.N c.loop-byte.byte-index c.in_ok-byte.field-0-0 c.loop-byte.byte-items c.loop-byte.rest.now c.in_ok-byte.field-0-1.now (omega arith) c.loop-byte.invariant.full (sym (c.in_ok-byte.ensures ∙ ap hex_byte c.skip_spaces.ensures)) ∙ c.loop-byte.invariant.same;
  full = search rules;
}
