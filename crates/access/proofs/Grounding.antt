-- An event comes exactly on its ground.
use Rattle.std.proofs.Common.{◌≡◌, ℕ, ◌<◌, Bool, true, false, cond, not, eqb, Some, None, Decides, Option, sym, refl, ap, ◌∙◌, ⊎_elim, arith}
use Rattle.std.proofs.lemmas.Bool.{cases_Bool, cond_both, and_parts, and_from, eqb-true, eqb-false, eq-eqb, ne_eqb, not-true, not-false, not_from_false, true≢false, false≢true}
use Rattle.std.proofs.lemmas.Bool.Decides.{not_from_Decides}
use Rattle.calendar.specs.declared.minute.Minute.{Minute}
use Rattle.doors.specs.declared.event.Event.{Event}
use Rattle.doors.specs.declared.event.Event.TheVariants.{Admitted, UnknownCard, UserOff, OutOfDate, DoorNotOpened, NotNow}
use Rattle.records.specs.declared.user.Status.{Status}
use Rattle.records.specs.declared.user.Status.TheVariants.{Off, Active}
use Rattle.records.specs.declared.user.User.{User}
use Rattle.tables.specs.declared.entry.Entry.{Entry}
use Rattle.access.specs.Standing.{Standing, Bounded, passes}
use Rattle.access.specs.Covering.{some_of, group_opens, group_admits}
use Rattle.access.specs.Events.{cards_match, has_card, holder, active, in_date, groups_event, user_event, answered_by, answered}
use Rattle.access.specs.Grounds.{OneGroup, GroupOpens, GroupAdmits, InDate, CardOf, Ground, UniqueCards}
use Rattle.access.proofs.Lowest.{lowest_none, none_passes, lowest_first, first_lowest}
use Rattle.access.proofs.Meanings.{some_of_weaker, admits_opens}
use Rattle.access.proofs.Coverings.{decides_opens, decides_admits, decides_groups, decides_in_date}

-- ---- who has a card

matched : (card held : ℕ) → cards_match card held ≡ true → (card ≡ 0 → ⊥) × (held ≡ card)
matched card held so =
    let both = and_parts (not (eqb card 0)) (eqb card held) so in
    (eqb-false card 0 (not-true (eqb card 0) both.0), sym (eqb-true card held both.1))

matching : (card held : ℕ) → (card ≡ 0 → ⊥) → held ≡ card → cards_match card held ≡ true
matching card held not_0 has = and_from _ _ (not_from_false (eqb card 0) (ne_eqb card 0 not_0)) (eq-eqb card held (sym has))

both_match : (card a b : ℕ) → cards_match card a ≡ true → cards_match card b ≡ true → cards_match a b ≡ true
both_match card a b first second = ap (λ k. cards_match k b) (matched card a first).1 ∙ second

module _ (s : Standing) (card : ℕ) where
  -- no other user below has it
  fails_before : UniqueCards s.users → (n : ℕ) (u : Entry User) → s.users n ≡ Some u → has_card card u.body ≡ true → (j : ℕ) → j < n → (o : Option (Entry User)) → s.users j ≡ o → passes (has_card card) o ≡ false
  fails_before unique n u stands has j less None is = refl
  fails_before unique n u stands has j less (Some v) is =
      ⊎_elim
      (λ (so : has_card card v.body ≡ true).
      let same = unique j n v u is stands (both_match card v.body.card u.body.card so has) in
      absurd (omega arith))
      (λ (fails : has_card card v.body ≡ false). fails)
      (cases_Bool (has_card card v.body))

  pub holder_found : Bounded s → UniqueCards s.users → (n : ℕ) (u : Entry User) → s.users n ≡ Some u → has_card card u.body ≡ true → holder s card ≡ Some u
  holder_found bounded unique n u stands has =
      lowest_first s.users (has_card card) s.users_end u (record {
        number = n;
        below = bounded.users_below n u stands;
        stands = stands;
        yes = has;
        none_before = λ j less. fails_before unique n u stands has j less (s.users j) refl;
      })

-- ---- the questions, by their answers

-- active, in date, a group opens, a group admits
abbrev asked : Bool → Bool → Bool → Bool → Event
asked on dated opened let_in = cond (not on) UserOff (cond (not dated) OutOfDate (cond (not opened) DoorNotOpened (cond (not let_in) NotNow Admitted)))

never_unknown : (a b c d : Bool) → asked a b c d ≡ UnknownCard → ⊥
never_unknown false b c d is = let z : ◌≡◌ {A = ℕ} 0 1 = cc in omega arith
never_unknown true false c d is = let z : ◌≡◌ {A = ℕ} 0 1 = cc in omega arith
never_unknown true true false d is = let z : ◌≡◌ {A = ℕ} 0 1 = cc in omega arith
never_unknown true true true false is = let z : ◌≡◌ {A = ℕ} 0 1 = cc in omega arith
never_unknown true true true true is = let z : ◌≡◌ {A = ℕ} 0 1 = cc in omega arith

is_active : (t : Status) → active t ≡ true → t ≡ Active
is_active Off so = absurd (false≢true so)
is_active Active so = refl

is_off : (t : Status) → active t ≡ false → t ≡ Off
is_off Off fails = refl
is_off Active fails = absurd (true≢false fails)

not_so : {P : Type 0} (b : Bool) → (b ≡ true → P) → (P → ⊥) → b ≡ false
not_so b to none = ⊎_elim (λ (so : b ≡ true). absurd (none (to so))) (λ (fails : b ≡ false). fails) (cases_Bool b)

-- ---- a user's questions against their grounds

module _ (s : Standing) (bounded : Bounded s) (door : ℕ) (x : Minute) (u : User) where
  groups_open : Decides (some_of (group_opens s door) u.groups) (OneGroup u (GroupOpens s door))
  groups_open = decides_groups u (group_opens s door) (GroupOpens s door) refl (decides_opens s door)

  groups_admit : Decides (some_of (group_admits s door x) u.groups) (OneGroup u (GroupAdmits s door x))
  groups_admit = decides_groups u (group_admits s door x) (GroupAdmits s door x) refl (decides_admits s bounded x door)

user_asked : (s : Standing) (door : ℕ) (x : Minute) (u : User) {a b c d : Bool} → active u.status ≡ a → in_date u.window x ≡ b → some_of (group_opens s door) u.groups ≡ c → some_of (group_admits s door x) u.groups ≡ d → user_event s u door x ≡ asked a b c d
user_asked s door x u on dated opened let_in = λ i. asked (on i) (dated i) (opened i) (let_in i)

module _ (s : Standing) (bounded : Bounded s) (card door : ℕ) (x : Minute) where
  module _ (not_0 : card ≡ 0 → ⊥) (n : ℕ) (e : Entry User) (stands : s.users n ≡ Some e) (has : e.body.card ≡ card) where
    card_of : (P : ℕ → User → Type 0) → P n e.body → CardOf s card P
    card_of P so = record { not_0 = not_0; number = n; user = e; stands = stands; has = has; so = so }

    user_grounded : Ground s card door x (user_event s e.body door x)
    user_grounded =
        let u = e.body in
        let dates = decides_in_date u.window x in
        let open_it = groups_open s bounded door x u in
        let admit_it = groups_admit s bounded door x u in
        cond_both (not (active u.status)) UserOff (cond (not (in_date u.window x)) OutOfDate (groups_event s u.groups door x)) (Ground s card door x)
        (λ off. card_of (λ n u. u.status ≡ Off) (is_off u.status (not-true (active u.status) off)))
        (λ on.
        let act = is_active u.status (not-false (active u.status) on) in
        cond_both (not (in_date u.window x)) OutOfDate (groups_event s u.groups door x) (Ground s card door x)
        (λ out. card_of (λ n u. (u.status ≡ Active) × (InDate u.window x → ⊥)) (act, not_from_Decides _ dates (not-true _ out)))
        (λ dated.
        let in_it = dates.0 (not-false _ dated) in
        cond_both (not (some_of (group_opens s door) u.groups)) DoorNotOpened (cond (not (some_of (group_admits s door x) u.groups)) NotNow Admitted) (Ground s card door x)
        (λ shut. card_of (λ n u. (u.status ≡ Active) × InDate u.window x × (OneGroup u (GroupOpens s door) → ⊥)) (act, in_it, not_from_Decides _ open_it (not-true _ shut)))
        (λ opened.
        cond_both (not (some_of (group_admits s door x) u.groups)) NotNow Admitted (Ground s card door x)
        (λ later. card_of (λ n u. (u.status ≡ Active) × InDate u.window x × OneGroup u (GroupOpens s door) × (OneGroup u (GroupAdmits s door x) → ⊥)) (act, in_it, open_it.0 (not-false _ opened), not_from_Decides _ admit_it (not-true _ later)))
        (λ admitted. card_of (λ n u. (u.status ≡ Active) × InDate u.window x × OneGroup u (GroupAdmits s door x)) (act, in_it, admit_it.0 (not-false _ admitted))))))

  grounded_by : (o : Option (Entry User)) → holder s card ≡ o → Ground s card door x (answered_by s o door x).event
  grounded_by None is = λ c.
      let fails = none_passes s.users (has_card card) s.users_end is c.number (bounded.users_below c.number c.user c.stands) in
      let so = ap (passes (has_card card)) c.stands ∙ matching card c.user.body.card c.not_0 c.has in
      true≢false (sym so ∙ fails)
  grounded_by (Some e) is =
      let first = first_lowest s.users (has_card card) s.users_end e is in
      let has = matched card e.body.card first.yes in
      user_grounded has.0 first.number e first.stands has.1

  pub grounded : Ground s card door x (answered s card door x).event
  grounded = grounded_by (holder s card) refl

  -- ---- a ground brings its event

  module _ (unique : UniqueCards s.users) where
    holder_of : {P : ℕ → User → Type 0} (c : CardOf s card P) → holder s card ≡ Some c.user
    holder_of c = holder_found s card bounded unique c.number c.user c.stands (matching card c.user.body.card c.not_0 c.has)

    told : {P : ℕ → User → Type 0} (c : CardOf s card P) → (answered s card door x).event ≡ user_event s c.user.body door x
    told c = ap (λ o. (answered_by s o door x).event) (holder_of c)

    nobody_has : (CardOf s card (λ n u. Unit {0}) → ⊥) → (k : ℕ) (o : Option (Entry User)) → s.users k ≡ o → passes (has_card card) o ≡ false
    nobody_has none k None is = refl
    nobody_has none k (Some v) is =
        not_so (has_card card v.body)
        (λ so. let has = matched card v.body.card so in record { not_0 = has.0; number = k; user = v; stands = is; has = has.1; so = tt })
        none

    pub ground_brings : (e : Event) → Ground s card door x e → (answered s card door x).event ≡ e
    ground_brings UnknownCard none =
        ap (λ o. (answered_by s o door x).event) (lowest_none s.users (has_card card) s.users_end (λ k h. nobody_has none k (s.users k) refl))
    ground_brings UserOff c = told c ∙ user_asked s door x c.user.body (ap active c.so) refl refl refl
    ground_brings OutOfDate c =
        let u = c.user.body in
        told c ∙ user_asked s door x u (ap active c.so.0) (not_so (in_date u.window x) (decides_in_date u.window x).0 c.so.1) refl refl
    ground_brings DoorNotOpened c =
        let u = c.user.body in
        told c
        ∙ user_asked s door x u (ap active c.so.0) ((decides_in_date u.window x).1 c.so.1)
        (not_so (some_of (group_opens s door) u.groups) (groups_open s bounded door x u).0 c.so.2) refl
    ground_brings NotNow c =
        let u = c.user.body in
        told c
        ∙ user_asked s door x u (ap active c.so.0) ((decides_in_date u.window x).1 c.so.1) ((groups_open s bounded door x u).1 c.so.2)
        (not_so (some_of (group_admits s door x) u.groups) (groups_admit s bounded door x u).0 c.so.3)
    ground_brings Admitted c =
        let u = c.user.body in
        let let_in = (groups_admit s bounded door x u).1 c.so.2 in
        told c
        ∙ user_asked s door x u (ap active c.so.0) ((decides_in_date u.window x).1 c.so.1)
        (some_of_weaker (group_admits s door x) (group_opens s door) (admits_opens s door x) u.groups let_in) let_in

-- ---- the user told

module _ (s : Standing) (card door : ℕ) (x : Minute) where
  nobody_by : (o : Option (Entry User)) → (answered_by s o door x).event ≡ UnknownCard → (answered_by s o door x).user ≡ 0
  nobody_by None is = refl
  nobody_by (Some e) is = absurd (never_unknown (active e.body.status) (in_date e.body.window x) (some_of (group_opens s door) e.body.groups) (some_of (group_admits s door x) e.body.groups) is)

  pub nobody_told : (answered s card door x).event ≡ UnknownCard → (answered s card door x).user ≡ 0
  nobody_told = nobody_by (holder s card)
