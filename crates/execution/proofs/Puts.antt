-- Records put one after the other.
use Rattle.std.proofs.Common.{◌≡◌, ℕ, ◌+◌, ◌<◌, List, [], ◌∷◌, ◌++◌, length, get_or, take, refl, ap, ◌∙◌}
use Rattle.std.proofs.lemmas.List.{take_more}
use Rattle.tables.specs.declared.entry.Entry.{Entry}
use Rattle.tables.specs.declared.edit.Edit.TheVariants.{Put}
use Rattle.tables.specs.Maps.{View}
use Rattle.tables.specs.Replays.{edited, replay, Agree}
use Rattle.tables.proofs.Replayed.{agree_on, edited_agree}
use Rattle.execution.specs.Deeds.{puts}

module _ {B : Type 0} where
  put_last : (v : View B) (es : List (Entry B)) (e : Entry B) → replay v (puts (es ++ (e ∷ []))) ≡ edited (replay v (puts es)) (Put e)
  put_last v [] e = refl
  put_last v (x ∷ es) e = put_last (edited v (Put x)) es e

  pub put_more : (v before after : View B) (es : List (Entry B)) (i : ℕ) (e : Entry B) → i < length es → get_or es i e ≡ e → Agree before (replay v (puts (take i es))) → Agree after (edited before (Put e)) → Agree after (replay v (puts (take (i + 1) es)))
  put_more v before after es i e within is so_far put =
      let so = replay v (puts (take i es)) in
      let more : replay v (puts (take (i + 1) es)) ≡ edited so (Put e) = ap (λ l. replay v (puts l)) (take_more es i e within ∙ ap (λ x. take i es ++ (x ∷ [])) is) ∙ put_last v (take i es) e in
      rw more (agree_on after (edited before (Put e)) (edited so (Put e)) put (edited_agree before so (Put e) so_far))
