-- Another user with a card.
use Rattle.std.proofs.Common.{◌≡◌, ℕ, suc, Bool, true, false, cond, not, ◌&&◌, ◌||◌, eqb, is_some, Some, None, Option, refl, ap, ◌∙◌}
use Rattle.std.specs.List.{list_any}
use Rattle.std.specs.Option.{option_to_list}
use Rattle.tables.specs.declared.entry.Entry.{Entry}
use Rattle.tables.specs.Maps.{View, removing}
use Rattle.tables.specs.Walks.{records_of}
use Rattle.records.specs.declared.user.User.{User}
use Rattle.access.specs.Standing.{kept_if}
use Rattle.access.specs.Events.{cards_match, has_card}
use Rattle.access.proofs.Searching.{any_of}
use Rattle.execution.specs.Objections.{another_among}

-- another number, and the card
abbrev pub is_other : ℕ → ℕ → Entry User → Bool
is_other number card e = not (eqb e.number number) && cards_match card e.body.card

either : (same : Bool) (card : ℕ) (e : Entry User) → ((not same && cards_match card e.body.card) || false) ≡ is_some (kept_if (has_card card) (cond same None (Some e)))
either true card e = refl
either false card e = kept (has_card card e.body)
  where
    kept : (b : Bool) → (b || false) ≡ is_some (cond b (Some e) None)
    kept true = refl
    kept false = refl

-- a user who is asked under a number is kept there with the one number left out
each_other : (number card k : ℕ) (o : Option (Entry User)) → ((e : Entry User) → o ≡ Some e → e.number ≡ k) → list_any (is_other number card) (option_to_list o) ≡ is_some (kept_if (has_card card) (cond (eqb k number) None o))
each_other number card k None named = nobody (eqb k number)
  where
    nobody : (b : Bool) → false ≡ is_some (kept_if (has_card card) (cond b None None))
    nobody true = refl
    nobody false = refl
each_other number card k (Some e) named =
    ap (λ j. (not (eqb j number) && cards_match card e.body.card) || false) (named e refl) ∙ either (eqb k number) card e

pub another_met : (v : View User) (number card : ℕ) → ((k : ℕ) (e : Entry User) → v.at k ≡ Some e → e.number ≡ k) → list_any (is_other number card) (records_of v) ≡ another_among v.at (suc v.high) number card
another_met v number card named = any_of (has_card card) v (is_other number card) (removing v.at number) (λ k. each_other number card k (v.at k) (named k))
