-- More records never shut a door, and all laws of an answer together.
use Rattle.std.proofs.Common.{◌≡◌, ℕ, true, false, ltb, Some, None, sym, ap, ◌∙◌, subst, inl, inr, ⊎_elim}
use Rattle.std.proofs.lemmas.Bool.{cases_Bool, cond-true, cond-false}
use Rattle.calendar.specs.declared.date.Date.{Date}
use Rattle.calendar.specs.declared.minute.Minute.{Minute}
use Rattle.doors.specs.declared.event.Event.{Event}
use Rattle.doors.specs.declared.event.Event.TheVariants.{Admitted, UnknownCard}
use Rattle.records.specs.declared.user.User.{User}
use Rattle.tables.specs.declared.entry.Entry.{Entry}
use Rattle.tables.specs.Maps.{Map}
use Rattle.access.specs.Standing.{Standing, Bounded, named}
use Rattle.access.specs.declared.answer.Answer.{Answer}
use Rattle.access.specs.Events.{holder, user_event, answered, answered_by}
use Rattle.access.specs.Grounds.{SetCovers, RowOf, ZoneCovers, GroupAdmits, Ground, Contained, SameHolidays, AccessLaws}
use Rattle.access.proofs.Grounding.{holder_found, grounded, ground_brings, nobody_told}

-- what a number names stands in the larger table too
named_in : {B : Type 0} (f g : Map B) → ((n : ℕ) (e : Entry B) → f n ≡ Some e → g n ≡ Some e) → (n : ℕ) (e : Entry B) → named f n ≡ Some e → named g n ≡ Some e
named_in f g within n e is =
    ⊎_elim
    (λ (built_in : ltb n 2 ≡ true). cond-true (ltb n 2) None (g n) built_in ∙ sym (cond-true (ltb n 2) None (f n) built_in) ∙ is)
    (λ (other : ltb n 2 ≡ false). cond-false (ltb n 2) None (g n) other ∙ within n e (sym (cond-false (ltb n 2) None (f n) other) ∙ is))
    (cases_Bool (ltb n 2))

module _ (s t : Standing) (contained : Contained s t) (same : SameHolidays s t) where
  set_in : (x : Minute) (n : ℕ) → SetCovers s x n → SetCovers t x n
  set_in x n (inl one) = inl one
  set_in x n (inr r) =
      inr (record { set = r.set; stands = named_in s.time_sets t.time_sets contained.time_sets n r.set r.stands; begun = r.begun; not_over = r.not_over })

  row_in : (d : Date) (i : ℕ) → RowOf s d i → RowOf t d i
  row_in d i (inl h) = inl ((same d).0 h.0, h.1)
  row_in d i (inr h) = inr ((λ on. h.0 ((same d).1 on)), h.1)

  zone_in : (x : Minute) (n : ℕ) → ZoneCovers s x n → ZoneCovers t x n
  zone_in x n (inl one) = inl one
  zone_in x n (inr r) =
      inr (record {
        zone = r.zone;
        stands = named_in s.zones t.zones contained.zones n r.zone r.stands;
        row = r.row;
        of_day = row_in x.date r.row r.of_day;
        place = r.place;
        one_of_three = r.one_of_three;
        covers = set_in x _ r.covers;
      })

  group_in : (door : ℕ) (x : Minute) (n : ℕ) → GroupAdmits s door x n → GroupAdmits t door x n
  group_in door x n (inl one) = inl one
  group_in door x n (inr r) =
      inr (record {
        group = r.group;
        stands = named_in s.groups t.groups contained.groups n r.group r.stands;
        opened = r.opened;
        covered = zone_in x _ r.covered;
      })

  admitted_in : (card door : ℕ) (x : Minute) → Ground s card door x Admitted → Ground t card door x Admitted
  admitted_in card door x c =
      let one = c.so.2 in
      record {
        not_0 = c.not_0;
        number = c.number;
        user = c.user;
        stands = contained.users c.number c.user c.stands;
        has = c.has;
        so = (c.so.0, c.so.1, record { place = one.place; one_of_four = one.one_of_four; so = group_in door x _ one.so });
      }

laws_hold : (s : Standing) → Bounded s → ((n : ℕ) (e : Entry User) → s.users n ≡ Some e → e.number ≡ n) → (card door : ℕ) (x : Minute) → AccessLaws s card door x (answered s card door x)
laws_hold s bounded numbered card door x = record {
  on_its_ground = λ unique e. ((λ is. subst (Ground s card door x) is (grounded s bounded card door x)), ground_brings s bounded card door x unique e);
  whose = λ unique n u stands has. ap (λ o. (answered_by s o door x).user) (holder_found s card bounded unique n u stands has) ∙ numbered n u stands;
  nobody = nobody_told s card door x;
  more_records = λ unique admitted t bounded' unique' contained same.
      ground_brings t bounded' card door x unique' Admitted (admitted_in s t contained same card door x (subst (Ground s card door x) admitted (grounded s bounded card door x)));
}

module _ (s : Standing) (card door : ℕ) (x : Minute) where
  -- what the code tells is what is answered
  pub told_some : (e : Entry User) (v : Event) → Some e ≡ holder s card → v ≡ user_event s e.body door x → record { event = v; user = e.number } ≡ answered s card door x
  told_some e v is said = (λ i. record { event = said i; user = e.number }) ∙ ap (λ o. answered_by s o door x) is

  pub told_none : None ≡ holder s card → record { event = UnknownCard; user = 0 } ≡ answered s card door x
  told_none is = ap (λ o. answered_by s o door x) is

  pub laws_at : Bounded s → ((n : ℕ) (e : Entry User) → s.users n ≡ Some e → e.number ≡ n) → (a : Answer) → a ≡ answered s card door x → AccessLaws s card door x a
  laws_at bounded numbered a is = subst (AccessLaws s card door x) (sym is) (laws_hold s bounded numbered card door x)
