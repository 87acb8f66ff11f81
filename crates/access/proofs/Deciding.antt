-- What a pass over the groups comes to.
use Rattle.std.proofs.Common.{◌≡◌, ℕ, ◌≤◌, Bool, true, false, cond, not, ◌||◌, List, [], ◌∷◌, length, drop, sym, refl, ap, ◌∙◌}
use Rattle.std.proofs.lemmas.List.{at_drop_all}
use Rattle.std.proofs.lemmas.Bool.{true≢false}
use Rattle.doors.specs.declared.event.Event.{Event}
use Rattle.doors.specs.declared.event.Event.TheVariants.{Admitted, DoorNotOpened, NotNow}
use Rattle.calendar.specs.declared.minute.Minute.{Minute}
use Rattle.access.specs.Standing.{Standing}
use Rattle.access.specs.Covering.{some_of, group_opens, group_admits}
use Rattle.access.specs.Events.{groups_event}
use Rattle.access.proofs.Meanings.{some_of_weaker, admits_opens}

module _ (opens admits : ℕ → Bool) where
  -- what the rest of the groups makes of the event so far
  abbrev pub decided : Event → List ℕ → Event
  decided e [] = e
  decided e (n ∷ ns) = cond (admits n) Admitted (decided (cond (opens n) NotNow e) ns)

  one_more : (a o ads ops : Bool) (e : Event) → cond a Admitted (cond ads Admitted (cond ops NotNow (cond o NotNow e))) ≡ cond (a || ads) Admitted (cond (o || ops) NotNow e)
  one_more true o ads ops e = refl
  one_more false true true ops e = refl
  one_more false true false true e = refl
  one_more false true false false e = refl
  one_more false false ads ops e = refl

  decided_is : (e : Event) (ns : List ℕ) → decided e ns ≡ cond (some_of admits ns) Admitted (cond (some_of opens ns) NotNow e)
  decided_is e [] = refl
  decided_is e (n ∷ ns) =
      ap (cond (admits n) Admitted) (decided_is (cond (opens n) NotNow e) ns) ∙ one_more (admits n) (opens n) (some_of admits ns) (some_of opens ns) e

in_order : (ads ops : Bool) → (ads ≡ true → ops ≡ true) → cond ads Admitted (cond ops NotNow DoorNotOpened) ≡ cond (not ops) DoorNotOpened (cond (not ads) NotNow Admitted)
in_order true true opened = refl
in_order true false opened = absurd (true≢false (sym (opened refl)))
in_order false true opened = refl
in_order false false opened = refl

module _ (s : Standing) (door : ℕ) (x : Minute) (ns : List ℕ) where
  decided_all : decided (group_opens s door) (group_admits s door x) DoorNotOpened ns ≡ groups_event s ns door x
  decided_all =
      decided_is (group_opens s door) (group_admits s door x) DoorNotOpened ns
      ∙ in_order (some_of (group_admits s door x) ns) (some_of (group_opens s door) ns) (some_of_weaker (group_admits s door x) (group_opens s door) (admits_opens s door x) ns)

  -- what the pass has come to where it ends
  pub ended : (i : ℕ) (e : Event) → length ns ≤ i → decided (group_opens s door) (group_admits s door x) e (drop i ns) ≡ decided (group_opens s door) (group_admits s door x) DoorNotOpened ns → e ≡ groups_event s ns door x
  ended i e over so_far = sym (at_drop_all (decided (group_opens s door) (group_admits s door x) e) ns i over) ∙ so_far ∙ decided_all
