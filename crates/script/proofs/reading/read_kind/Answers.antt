use Rattle.std.proofs.Common.{◌≡◌, ℕ, ◌+◌, ◌<◌, List, length, get_or, drop, None, sym, ap, ◌∙◌}
use Rattle.std.proofs.lemmas.List.{at_drop_more}
use Rattle.std.specs.Option.{option_map}
use Rattle.script.specs.declared.entries.Kind.{Kind}
use Rattle.script.specs.Entries.{word_of}
use Rattle.script.specs.Fields.{after_word}
use Rattle.script.specs.Reading.{kind_among}
use Rattle.script.proofs.reading.read_kind.Goals as goal

-- a kind whose word the text does not begin with is passed over
passed_over : (kinds : List Kind) (t : List ℕ) (i : ℕ) (d : Kind) → i < length kinds → after_word (word_of (get_or kinds i d)) t ≡ None → kind_among (drop (i + 1) kinds) t ≡ kind_among (drop i kinds) t
passed_over kinds t i d h none = sym (at_drop_more (λ ks. kind_among ks t) kinds i d h ∙ rw none)

pub loop-kind-preserved : goal.loop-kind-preserved
loop-kind-preserved c =
    let missing = ap (λ w. after_word w c.args.text.now) (sym c.word.ensures) ∙ sym c.after_word.ensures ∙ ap (option_map (λ x. x.now)) c.in_default.is in
    passed_over _ c.args.text.now c.loop-kind.kind-index _ c.loop-kind-test.true missing ∙ c.loop-kind.invariant
