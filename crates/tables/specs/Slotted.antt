-- The map of a list of places.
use Rattle.std.specs.Prelude.{◌≡◌, ℕ, zero, suc, ◌+◌, ◌-◌, ◌<◌, ◌≤◌, true, false, List, [], ◌∷◌, ◌++◌, length, drop, take, get_or, is_some, Some, None, Option, Vec, MatchOption, ◌≢◌, slice_index_or, slice_set, refl}
use Rattle.std.proofs.Math.Seq.{take-nil}
use Rattle.std.proofs.Common.{sym, ap, ◌∙◌, ⊎_elim, arith}
use Rattle.std.specs.List.{AllWithin, AppendsResults, FoldsTo, HoldsAt, slice_range}
use Rattle.std.specs.Option.{option_map}
use Rattle.std.specs.Vec.{with_items}
use Rattle.std.proofs.lemmas.Bool.{both_ways, cases_eq, cases_lt, lt-ltb, le-ltb, cond-true, cond-false}
use Rattle.std.proofs.lemmas.List.{get_or-take, get_or-drop, get_or-set_same, get_or-set_other, get_or_past, with_items_is}
use Rattle.std.proofs.lemmas.Bool.Decides.{nat_tests}
use Rattle.tables.specs.declared.entry.Entry.{Entry}
use Rattle.tables.specs.Maps.{one, many, inside, putting, removing, Next}
use Rattle.tables.specs.Placed.{slot, Named}
use Rattle.tables.specs.Counts.{many_change}
use Rattle.tables.specs.Edited.{put_from, remove_from}

module _ {B : Type 0} (low : ℕ) (xs : List (Option (Entry B))) where
  pub slot_below : (n : ℕ) → n < low → slot low xs n ≡ None
  slot_below n h = cond-true _ _ _ (lt-ltb n low h)

  pub slot_from : (n : ℕ) → low ≤ n → slot low xs n ≡ slice_index_or xs (n - low) None
  slot_from n h = cond-false _ _ _ (le-ltb n low h)

  pub slot_past : (n : ℕ) → low + length xs ≤ n → slot low xs n ≡ None
  slot_past n h = slot_from n (omega arith) ∙ get_or_past xs (n - low) None (omega arith)

  pub full_within : (k : ℕ) → is_some (slice_index_or xs k None) ≡ true → k < length xs
  full_within k full =
      ⊎_elim
      (λ (h : k < length xs). h)
      (λ (h : length xs ≤ k). absurd (both_ways _ (ap is_some (get_or_past xs k None h)) full))
      (cases_lt k (length xs))

  pub slot_within : (n : ℕ) → is_some (slot low xs n) ≡ true → (low ≤ n) × (n < low + length xs)
  slot_within n full =
      ⊎_elim
      (λ (h : n < low). absurd (both_ways _ (ap is_some (slot_below n h)) full))
      (λ (h : low ≤ n). let less = full_within (n - low) (sym (ap is_some (slot_from n h)) ∙ full) in (h, omega arith))
      (cases_lt n low)

  pub slot_named : Named low xs → (n : ℕ) (e : Entry B) → slot low xs n ≡ Some e → e.number ≡ n
  slot_named named n e is =
      let within = slot_within n (ap is_some is) in
      let number = named (n - low) e (sym (slot_from n within.0) ∙ is) in
      omega arith

  pub slot_outside : (high n : ℕ) → length xs ≡ suc high - low → inside low high n ≡ false → slot low xs n ≡ None
  slot_outside high n sized out =
      ⊎_elim
      (λ (h : n < low). slot_below n h)
      (λ (h : low ≤ n). slot_past n (let above : high < n = grind (arith, nat_tests) in omega arith))
      (cases_lt n low)

  pub slot_remove_outside : (high k : ℕ) → length xs ≡ suc high - low → inside low high k ≡ false → (n : ℕ) → slot low xs n ≡ removing (slot low xs) k n
  slot_remove_outside high k sized out = remove_from (slot low xs) k (slot low xs) (slot_outside high k sized out) (λ m other. refl)

  -- a walk over the places is a walk over the numbers
  pub next_slot : (a : ℕ) (r : Option ℕ) → Next (λ k. get_or xs k None) (a - low) r → Next (slot low xs) a (option_map (λ k. low + k) r)
  next_slot a None none = λ n from.
      ⊎_elim
      (λ (h : n < low). slot_below n h)
      (λ (h : low ≤ n). slot_from n h ∙ none (n - low) (omega arith))
      (cases_lt n low)
  next_slot a (Some k) least = record {
    from = omega (arith, least.from);
    there = let e : low + k - low ≡ k = omega arith in ap is_some (slot_from (low + k) (omega arith) ∙ ap (λ (j : ℕ). get_or xs j None) e) ∙ least.there;
    none_before = λ n from before.
        ⊎_elim
        (λ (h : n < low). slot_below n h)
        (λ (h : low ≤ n). slot_from n h ∙ least.none_before (n - low) (omega arith) (omega arith))
        (cases_lt n low);
  }

module _ {B : Type 0} (low : ℕ) (xs : List (Option (Entry B))) (at : ℕ) (place : Option (Entry B)) where
  pub slot_set_same : at < length xs → slot low (slice_set xs at place) (low + at) ≡ place
  slot_set_same h =
      let e : low + at - low ≡ at = omega arith in
      slot_from low (slice_set xs at place) (low + at) (omega arith) ∙ rw e (get_or-set_same xs at place None h)

  pub slot_set_other : (n : ℕ) → (n ≢ low + at) → slot low (slice_set xs at place) n ≡ slot low xs n
  slot_set_other n ne =
      ⊎_elim
      (λ (h : n < low). slot_below low (slice_set xs at place) n h ∙ sym (slot_below low xs n h))
      (λ (h : low ≤ n).
      slot_from low (slice_set xs at place) n h ∙ (get_or-set_other xs at (n - low) place None (λ q. ne (omega arith)) ∙ sym (slot_from low xs n h)))
      (cases_lt n low)

  pub slot_put : (high : ℕ) (e : Entry B) → place ≡ Some e → at < length xs → inside low high e.number ≡ true → e.number ≡ low + at → (n : ℕ) → slot low (slice_set xs at place) n ≡ putting low high (slot low xs) e n
  slot_put high e is less within number =
      put_from low high (slot low xs) e (slot low (slice_set xs at place)) within
      (ap (slot low (slice_set xs at place)) number ∙ (slot_set_same less ∙ is))
      (λ m other. slot_set_other m (λ q. other (q ∙ sym number)))

  pub slot_remove : (k : ℕ) → place ≡ None → at < length xs → k ≡ low + at → (n : ℕ) → slot low (slice_set xs at place) n ≡ removing (slot low xs) k n
  slot_remove k is less number =
      remove_from (slot low xs) k (slot low (slice_set xs at place))
      (ap (slot low (slice_set xs at place)) number ∙ (slot_set_same less ∙ is))
      (λ m other. slot_set_other m (λ q. other (q ∙ sym number)))

  pub named_set : at < length xs → Named low xs → ((e : Entry B) → place ≡ Some e → e.number ≡ low + at) → Named low (slice_set xs at place)
  named_set less named here k e is =
      ⊎_elim
      (λ (q : k ≡ at). let same = get_or-set_same xs at place None less in rw q (here e (sym same ∙ (rw q at is))))
      (λ (q : k ≡ at → ⊥). named k e (sym (get_or-set_other xs at k place None q) ∙ is))
      (cases_eq k at)

  -- the count after a place is set
  pub many_set : (n : ℕ) → at < length xs → low + at < n → many (slot low (slice_set xs at place)) n + one (slice_index_or xs at None) ≡ many (slot low xs) n + one place
  many_set n less within =
      let changed = many_change (slot low xs) (slot low (slice_set xs at place)) (low + at) n within slot_set_other in
      let e : low + at - low ≡ at = omega arith in
      let was : one (slot low xs (low + at)) ≡ one (slice_index_or xs at None) = ap one (slot_from low xs (low + at) (omega arith) ∙ rw e refl) in
      let is : one (slot low (slice_set xs at place) (low + at)) ≡ one place = ap one (slot_set_same less) in
      omega arith

module _ {B : Type 0} where
  pub many_has : (low : ℕ) (xs : List (Option (Entry B))) (at n : ℕ) → at < length xs → low + at < n → one (slice_index_or xs at None) ≤ many (slot low xs) n
  many_has low xs at n less within = omega (arith, many_set low xs at None n less within)

  pub none_push : (xs : List (Option (Entry B))) → ((k : ℕ) → slice_index_or xs k None ≡ None) → (k : ℕ) → slice_index_or (xs ++ None ∷ []) k None ≡ None
  none_push [] none zero = refl
  none_push [] none (suc k) = refl
  none_push (x ∷ xs) none zero = none zero
  none_push (x ∷ xs) none (suc k) = none_push xs (λ j. none (suc j)) k

  -- the first full place of those from `from` on
  pub next_place : (xs : List (Option (Entry B))) (from : ℕ) (ahead : List (Option (Entry B))) (r : Option ℕ) → ahead ≡ slice_range xs from (length xs) → length ahead + from ≡ length xs → MatchOption r (AllWithin (λ o. o ≡ None) ahead 0 (length ahead)) (λ i. (i < length ahead) × HoldsAt (λ o. is_some o ≡ true) ahead i × AllWithin (λ o. o ≡ None) ahead 0 i) → Next (λ k. slice_index_or xs k None) from (option_map (λ i. from + i) r)
  next_place xs from ahead r is long found = next r found
    where
      read : (k : ℕ) → k < length ahead → get_or xs (from + k) None ≡ get_or ahead k None
      read k less = sym (ap (λ l. get_or l k None) is ∙ get_or-take (length xs - from) (drop from xs) k None (omega arith) ∙ get_or-drop from xs k None)

      read_from : (n : ℕ) → from ≤ n → n < length xs → get_or xs n None ≡ get_or ahead (n - from) None
      read_from n past less = let e : n ≡ from + (n - from) = omega arith in ap (λ (k : ℕ). get_or xs k None) e ∙ read (n - from) (omega arith)

      next : (r : Option ℕ) → MatchOption r (AllWithin (λ o. o ≡ None) ahead 0 (length ahead)) (λ i. (i < length ahead) × HoldsAt (λ o. is_some o ≡ true) ahead i × AllWithin (λ o. o ≡ None) ahead 0 i) → Next (λ k. slice_index_or xs k None) from (option_map (λ i. from + i) r)
      next None none = λ n past.
          ⊎_elim
          (λ (h : n < length xs). read_from n past h ∙ none (n - from) None (omega arith) (omega arith))
          (λ (h : length xs ≤ n). get_or_past xs n None h)
          (cases_lt n (length xs))
      next (Some i) first = record {
        from = omega arith;
        there = ap is_some (read i first.0) ∙ first.1 None;
        none_before = λ n past before. read_from n past (omega (arith, first.0)) ∙ first.2 (n - from) None (omega arith) (omega arith);
      }

  -- what a closure gives that gives none each time
  pub none_from_calls : {F : Type 0} (step : F → Option (Entry B) → F → Type 0) (f : F) (xs : List (Option (Entry B))) → ((f : F) (x : Option (Entry B)) (h : F) → step f x h → x ≡ None) → (last : F) × FoldsTo step f xs last → (k : ℕ) → slice_index_or xs k None ≡ None
  none_from_calls step f [] none ran k = refl
  none_from_calls step f (x ∷ xs) none ran zero = none f x ran.1.0 ran.1.1
  none_from_calls step f (x ∷ xs) none ran (suc k) = none_from_calls step ran.1.0 xs none (ran.0, ran.1.2) k

  pub none_from_growth : {F : Type 0} (step : F → Option (Entry B) → F → Type 0) (f : F) (n : ℕ) (before xs : List (Option (Entry B))) → before ≡ [] → ((f : F) (x : Option (Entry B)) (h : F) → step f x h → x ≡ None) → AppendsResults step (take n before) xs f → (k : ℕ) → slice_index_or xs k None ≡ None
  none_from_growth step f n before xs empty none ran k =
      let old : take n before ≡ [] = ap (take n) empty ∙ take-nil n in
      ap (λ (l : List (Option (Entry B))). get_or l k None) (ran.2 ∙ ap (λ l. l ++ ran.0) old) ∙ none_from_calls step f ran.0 none (ran.1, ran.3) k

  pub slot_none : (low : ℕ) (xs : List (Option (Entry B))) → ((k : ℕ) → slice_index_or xs k None ≡ None) → (n : ℕ) → slot low xs n ≡ None
  slot_none low xs none n =
      ⊎_elim
      (λ (h : n < low). slot_below low xs n h)
      (λ (h : low ≤ n). slot_from low xs n h ∙ none (n - low))
      (cases_lt n low)

  pub named_none : (low : ℕ) (xs : List (Option (Entry B))) → ((k : ℕ) → slice_index_or xs k None ≡ None) → Named low xs
  named_none low xs none k e is = let z : ◌≡◌ {A = ℕ} 0 1 = let n = none k in cc in omega arith

  pub none_refilled : {Z : Type 0} (v : Vec (Option (Entry B)) Z) (ws : List (Option (Entry B))) → length ws ≡ v.len → ((k : ℕ) → slice_index_or ws k None ≡ None) → (k : ℕ) → slice_index_or (with_items v ws).items k None ≡ None
  none_refilled v ws long none k = ap (λ (l : List (Option (Entry B))). get_or l k None) (with_items_is v ws long) ∙ none k
