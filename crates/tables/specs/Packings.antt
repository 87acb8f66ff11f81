-- Records packed in ascending numbers: what an edit keeps, what a search finds, and how many there are.
use Rattle.std.specs.Prelude.{◌≡◌, ℕ, zero, suc, ◌+◌, ◌-◌, ◌<◌, ◌≤◌, Bool, true, cond, List, [], ◌∷◌, ◌++◌, length, get_or, take, is_some, Some, None, Ok, Err, Option, slice_index_or, slice_set, refl}
use Rattle.std.proofs.Common.{sym, ap, ◌∙◌, ⊎_elim, arith}
use Rattle.std.specs.List.{insert, remove}
use Rattle.std.proofs.lemmas.List.{same_lists, get_or_append_left, get_or_push, get_or-take, length_push, length-take-le, get_or_default, length-set, get_or-set_same, get_or-set_other}
use Rattle.std.proofs.lemmas.List.Edits.{length-insert, get_or-insert_below, get_or-insert_at, get_or-insert_above, length-remove, get_or-remove_below, get_or-remove_above}
use Rattle.std.proofs.lemmas.Bool.{both_ways, cases_eq, cases_lt, cases_order, cond-true, cond-false, eq-eqb, ne_eqb}
use Rattle.std.proofs.lemmas.Bool.Decides.{nat_tests}
use Rattle.tables.specs.declared.entry.Entry.{Entry}
use Rattle.tables.specs.Maps.{one, many, inside, putting, removing, Next}
use Rattle.tables.specs.Order.{Located, Sunk, Raised}
use Rattle.tables.specs.Packing.{find, number_of, Ascends, Within, Split}
use Rattle.tables.specs.Counts.{many_change, many_empty}
use Rattle.tables.specs.Edited.{put_from, remove_from}
use Rattle.tables.specs.Finds.{find_none, find_first, find_inserted_other, find_removed_other, find_set_other}
use Rattle.tables.specs.Searches.{climbs_far}

pub chosen : {X : Type 0} (b : Bool) (x y z : X) → z ≡ cond b x y → b ≡ true → z ≡ x
chosen b x y z is holds = is ∙ cond-true b x y holds

module _ {R : Type 0} where
  -- the same place
  pub at_place : (xs : List R) (d : R) (i j : ℕ) → i ≡ j → slice_index_or xs i d ≡ slice_index_or xs j d
  at_place xs d i j e = ap (λ (k : ℕ). get_or xs k d) e

  -- a push and a move down are an insertion
  pub inserted_from_sunk : (xs ys : List R) (x : R) (at : ℕ) → at ≤ length xs → length ys ≡ length xs + 1 → Sunk (xs ++ x ∷ []) at ys → ys ≡ insert xs at x
  inserted_from_sunk xs ys x at le long sunk =
      let pushed = length_push xs x in
      same_lists ys (insert xs at x) (long ∙ sym (length-insert xs at x le))
      (λ k d h.
      ⊎_elim
      (λ (q : k ≡ at).
      at_place ys d k at q ∙ (sunk.here d (omega arith) ∙ (get_or_push xs x d (length (xs ++ x ∷ []) - 1) (omega arith) ∙ (sym (get_or-insert_at xs at x d le) ∙ at_place (insert xs at x) d at k (sym q)))))
      (⊎_elim
      (λ (q : k < at). sunk.below k d q ∙ (get_or_append_left xs (x ∷ []) d k (omega arith) ∙ sym (get_or-insert_below xs at x d k q le)))
      (λ (q : at < k).
      sunk.above k d q (omega arith) ∙ (get_or_append_left xs (x ∷ []) d (k - 1) (omega arith) ∙ (sym (get_or-insert_above xs at x d (k - 1) (omega arith) le) ∙ at_place (insert xs at x) d (k - 1 + 1) k (omega arith)))))
      (cases_order k at))

  -- a move up and a pop are a removal
  pub removed_from_raised : (xs ys : List R) (at : ℕ) → at < length xs → length ys ≡ length xs → Raised xs at ys → take (length xs - 1) ys ≡ remove xs at
  removed_from_raised xs ys at less long raised =
      let gone = length-remove xs at less in
      let left = length-take-le (length xs - 1) ys (omega arith) in
      same_lists (take (length xs - 1) ys) (remove xs at) (omega arith)
      (λ k d h.
      get_or-take (length xs - 1) ys k d (omega arith) ∙
      ⊎_elim
      (λ (q : k < at). raised.below k d q ∙ sym (get_or-remove_below xs at d k q less))
      (λ (q : at ≤ k). raised.above k d q (omega arith) ∙ sym (get_or-remove_above xs at d k q less))
      (cases_lt k at))

module _ {B : Type 0} where
  same_number : (e f : Entry B) → e ≡ f → e.number ≡ f.number
  same_number e f q = ap number_of q

  number_at : (xs : List (Entry B)) (d : Entry B) (i j : ℕ) → i ≡ j → (get_or xs i d).number ≡ (get_or xs j d).number
  number_at xs d i j e = ap number_of (at_place xs d i j e)

module _ {B : Type 0} (xs : List (Entry B)) (up : Ascends xs) where
  pub split_ok : (k i : ℕ) → Located number_of k xs (Ok i) → Split (k + 1) xs (i + 1)
  split_ok k i located = record {
    within = omega (arith, located.0);
    before = λ j d h.
        ⊎_elim
        (λ (q : j ≡ i). omega (arith, number_at xs d j i q, located.1 d))
        (λ (q : j ≡ i → ⊥). omega (arith, climbs_far number_of xs up j i d (omega arith) located.0, located.1 d))
        (cases_eq j i);
    behind = λ j d h l. omega (arith, climbs_far number_of xs up i j d (omega arith) l, located.1 d);
  }

  pub split_err : (k i : ℕ) → Located number_of k xs (Err i) → Split (k + 1) xs i
  split_err k i located = record {
    within = located.0;
    before = λ j d h. omega (arith, located.1 j d h);
    behind = λ j d h l. omega (arith, located.2 j d h l);
  }

  -- what a search finds
  pub find_ok : (k i : ℕ) (d : Entry B) → Located number_of k xs (Ok i) → find xs k ≡ Some (slice_index_or xs i d)
  find_ok k i d located =
      find_first xs k i d located.0 (λ j h q. omega (arith, climbs_far number_of xs up j i d h located.0, located.1 d)) (located.1 d)

  pub find_read : (k i : ℕ) (x : Entry B) → Located number_of k xs (Ok i) → x ≡ slice_index_or xs i x → Some x ≡ find xs k
  find_read k i x located read = ap Some read ∙ sym (find_ok k i x located)

  pub find_err : (k i : ℕ) → Located number_of k xs (Err i) → find xs k ≡ None
  find_err k i located =
      find_none xs k (λ j d l q.
      ⊎_elim
      (λ (h : j < i). omega (arith, located.1 j d h))
      (λ (h : i ≤ j). omega (arith, located.2 j d h l))
      (cases_lt j i))

  -- the first number from a on
  pub next_some : (a i : ℕ) (d : Entry B) → Split a xs i → i < length xs → Next (find xs) a (Some (get_or xs i d).number)
  next_some a i d split less = record {
    from = split.behind i d (omega arith) less;
    there = ap is_some (find_ok (get_or xs i d).number i d (less, λ f. ap number_of (get_or_default xs i f d less)));
    none_before = λ n from before.
        find_none xs n (λ j f l q.
        ⊎_elim
        (λ (h : j < i). omega (arith, split.before j f h))
        (λ (h : i ≤ j).
        let same = same_number _ _ (get_or_default xs i f d less) in
        ⊎_elim
        (λ (e : j ≡ i). omega (arith, number_at xs f j i e))
        (λ (e : j ≡ i → ⊥). omega (arith, climbs_far number_of xs up i j f (omega arith) l))
        (cases_eq j i))
        (cases_lt j i));
  }

  pub next_none : (a i : ℕ) → Split a xs i → length xs ≤ i → Next (find xs) a None
  next_none a i split past = λ n from. find_none xs n (λ j d l q. omega (arith, split.before j d (omega arith)))

module _ {B : Type 0} where
  ascends_rest : (x : Entry B) (xs : List (Entry B)) → Ascends (x ∷ xs) → Ascends xs
  ascends_rest x xs up k d less =
      let step = up (suc k) d (omega arith) in
      let e = number_at (x ∷ xs) d (suc k + 1) (suc (k + 1)) (omega arith) in
      omega arith

  -- where a record is found
  pub record At (xs : List (Entry B)) (n : ℕ) (e : Entry B) : Type 0 where
    pub place : ℕ
    pub less : place < length xs
    pub here : get_or xs place e ≡ e
    pub number : e.number ≡ n

  pub find_inside : (xs : List (Entry B)) (n : ℕ) (e : Entry B) → find xs n ≡ Some e → At xs n e
  find_inside [] n e is = let z : ◌≡◌ {A = ℕ} 0 1 = cc in absurd (omega arith)
  find_inside (x ∷ xs) n e is =
      ⊎_elim
      (λ (q : x.number ≡ n).
      let first = cond-true _ (Some x) (find xs n) (eq-eqb x.number n q) in
      let same : x ≡ e = cc in
      record { place = zero; less = omega arith; here = same; number = sym (ap number_of same) ∙ q })
      (λ (q : x.number ≡ n → ⊥).
      let rest = find_inside xs n e (sym (cond-false _ (Some x) (find xs n) (ne_eqb x.number n q)) ∙ is) in
      record { place = suc rest.place; less = omega (arith, rest.less); here = rest.here; number = rest.number })
      (cases_eq x.number n)

  pub find_named : (xs : List (Entry B)) (n : ℕ) (e : Entry B) → find xs n ≡ Some e → e.number ≡ n
  find_named xs n e is = (find_inside xs n e is).number

  pub find_within : (low high : ℕ) (xs : List (Entry B)) (n : ℕ) → Within low high xs → is_some (find xs n) ≡ true → (low ≤ n) × (n ≤ high)
  find_within low high xs n within full = some_within (find xs n) refl full
    where
      some_within : (o : Option (Entry B)) → find xs n ≡ o → is_some o ≡ true → (low ≤ n) × (n ≤ high)
      some_within None is full = absurd (both_ways _ refl full)
      some_within (Some e) is full =
          let at = find_inside xs n e is in
          let range = within at.place e at.less in
          let same = ap number_of at.here in
          (omega (arith, range.0, at.number), omega (arith, range.1, at.number))

  -- each record counts once
  pub many_find : (xs : List (Entry B)) (n : ℕ) → Ascends xs → ((k : ℕ) (d : Entry B) → k < length xs → (get_or xs k d).number < n) → many (find xs) n ≡ length xs
  many_find [] n up below = many_empty (find []) n (λ m. refl)
  many_find (x ∷ xs) n up below =
      let rest = many_find xs n (ascends_rest x xs up) (λ k d h. below (suc k) d (omega arith)) in
      let gone : find xs x.number ≡ None = find_none xs x.number (λ j d h q. omega (arith, climbs_far number_of (x ∷ xs) up zero (suc j) d (omega arith) (omega arith))) in
      let here : find (x ∷ xs) x.number ≡ Some x = find_first (x ∷ xs) x.number zero x (omega arith) (λ j h q. omega arith) refl in
      let change = many_change (find xs) (find (x ∷ xs)) x.number n (below zero x (omega arith)) (λ m other. cond-false _ _ _ (ne_eqb x.number m (λ q. other (sym q)))) in
      let nothing = ap one gone in
      let something = ap one here in
      omega arith

  -- the number at a place is at least as far from `low` as the place from the start
  spread : (low high : ℕ) (xs : List (Entry B)) → Ascends xs → Within low high xs → (k : ℕ) (d : Entry B) → k < length xs → low + k ≤ (get_or xs k d).number
  spread low high xs up within zero d less = omega (arith, within zero d less)
  spread low high xs up within (suc k) d less =
      let before = spread low high xs up within k d (omega arith) in
      let step = up k d (omega arith) in
      let e = number_at xs d (k + 1) (suc k) (omega arith) in
      omega arith

  -- there are no more records than numbers
  pub few : (low high : ℕ) (xs : List (Entry B)) (d : Entry B) → Ascends xs → Within low high xs → length xs ≤ suc high - low
  few low high xs d up within =
      ⊎_elim
      (λ (h : 0 < length xs).
      let far = spread low high xs up within (length xs - 1) d (omega arith) in
      let top = within (length xs - 1) d (omega arith) in
      omega (arith, top.1))
      (λ (h : length xs ≤ 0). omega arith)
      (cases_lt 0 (length xs))

module _ {B : Type 0} (low high : ℕ) (xs : List (Entry B)) (up : Ascends xs) (in_range : Within low high xs) where
  module _ (at : ℕ) (x : Entry B) (located : Located number_of x.number xs (Err at)) where
    number_below : (k : ℕ) (d : Entry B) → k < at → (get_or (insert xs at x) k d).number ≡ (get_or xs k d).number
    number_below k d h = ap number_of (get_or-insert_below xs at x d k h located.0)

    number_here : (k : ℕ) (d : Entry B) → k ≡ at → (get_or (insert xs at x) k d).number ≡ x.number
    number_here k d q = number_at (insert xs at x) d k at q ∙ ap number_of (get_or-insert_at xs at x d located.0)

    number_above : (k : ℕ) (d : Entry B) → at < k → (get_or (insert xs at x) k d).number ≡ (get_or xs (k - 1) d).number
    number_above k d h =
        number_at (insert xs at x) d k (k - 1 + 1) (omega arith) ∙ ap number_of (get_or-insert_above xs at x d (k - 1) (omega arith) located.0)

    pub ascends_inserted : Ascends (insert xs at x)
    ascends_inserted k d less =
        let long = length-insert xs at x located.0 in
        ⊎_elim
        (λ (q : k ≡ at). omega (arith, number_here k d q, number_above (k + 1) d (omega arith), located.2 (k + 1 - 1) d (omega arith) (omega arith)))
        (⊎_elim
        (λ (q : k < at).
        ⊎_elim
        (λ (e : k + 1 ≡ at). omega (arith, number_below k d q, number_here (k + 1) d e, located.1 k d q))
        (λ (e : k + 1 ≡ at → ⊥). omega (arith, number_below k d q, number_below (k + 1) d (omega arith), up k d (omega arith)))
        (cases_eq (k + 1) at))
        (λ (q : at < k).
        omega (arith, number_above k d q, number_above (k + 1) d (omega arith), up (k - 1) d (omega arith), number_at xs d (k - 1 + 1) (k + 1 - 1) (omega arith))))
        (cases_order k at)

    pub within_inserted : inside low high x.number ≡ true → Within low high (insert xs at x)
    within_inserted within k d less =
        let long = length-insert xs at x located.0 in
        let range : (low ≤ x.number) × (x.number ≤ high) = grind (arith, nat_tests) in
        ⊎_elim
        (λ (q : k ≡ at). let e = number_here k d q in (omega arith, omega arith))
        (⊎_elim
        (λ (q : k < at). let e = number_below k d q in let r = in_range k d (omega arith) in (omega arith, omega arith))
        (λ (q : at < k). let e = number_above k d q in let r = in_range (k - 1) d (omega arith) in (omega arith, omega arith)))
        (cases_order k at)

    pub room_left : inside low high x.number ≡ true → length xs < suc high - low
    room_left within =
        let long = length-insert xs at x located.0 in
        omega (arith, few low high (insert xs at x) x ascends_inserted (within_inserted within))

    pub find_inserted : inside low high x.number ≡ true → (n : ℕ) → find (insert xs at x) n ≡ putting low high (find xs) x n
    find_inserted within =
        let long = length-insert xs at x located.0 in
        put_from low high (find xs) x (find (insert xs at x)) within
        (find_ok (insert xs at x) ascends_inserted x.number at x (omega (arith, located.0), λ d. number_here at d refl) ∙ ap Some (get_or-insert_at xs at x x located.0))
        (λ m other. find_inserted_other xs at x m other)

  module _ (at : ℕ) (x : Entry B) (located : Located number_of x.number xs (Ok at)) where
    pub find_replaced : inside low high x.number ≡ true → (n : ℕ) → find (slice_set xs at x) n ≡ putting low high (find xs) x n
    find_replaced within =
        put_from low high (find xs) x (find (slice_set xs at x)) within
        (find_first (slice_set xs at x) x.number at x (rw length-set located.0)
        (λ j h q. omega (arith, ap number_of (get_or-set_other xs at j x x (λ e. omega arith)), climbs_far number_of xs up j at x h located.0, located.1 x))
        (ap number_of (get_or-set_same xs at x x located.0))
        ∙ ap Some (get_or-set_same xs at x x located.0))
        (λ m other. find_set_other xs at x x m located.0 (located.1 x) other)

  module _ (at : ℕ) (less : at < length xs) where
    kept_below : (k : ℕ) (d : Entry B) → k < at → (get_or (remove xs at) k d).number ≡ (get_or xs k d).number
    kept_below k d h = ap number_of (get_or-remove_below xs at d k h less)

    kept_above : (k : ℕ) (d : Entry B) → at ≤ k → (get_or (remove xs at) k d).number ≡ (get_or xs (k + 1) d).number
    kept_above k d h = ap number_of (get_or-remove_above xs at d k h less)

    pub ascends_removed : Ascends (remove xs at)
    ascends_removed k d h =
        let long = length-remove xs at less in
        ⊎_elim
        (λ (q : k < at).
        ⊎_elim
        (λ (e : k + 1 < at). omega (arith, kept_below k d q, kept_below (k + 1) d e, up k d (omega arith)))
        (λ (e : at ≤ k + 1). omega (arith, kept_below k d q, kept_above (k + 1) d e, climbs_far number_of xs up k (k + 1 + 1) d (omega arith) (omega arith)))
        (cases_lt (k + 1) at))
        (λ (q : at ≤ k). omega (arith, kept_above k d q, kept_above (k + 1) d (omega arith), up (k + 1) d (omega arith)))
        (cases_lt k at)

    pub within_removed : Within low high (remove xs at)
    within_removed k d h =
        let long = length-remove xs at less in
        ⊎_elim
        (λ (q : k < at). let e = kept_below k d q in let r = in_range k d (omega arith) in (omega arith, omega arith))
        (λ (q : at ≤ k). let e = kept_above k d q in let r = in_range (k + 1) d (omega arith) in (omega arith, omega arith))
        (cases_lt k at)

    pub find_removed : (k : ℕ) → ((d : Entry B) → (get_or xs at d).number ≡ k) → (n : ℕ) → find (remove xs at) n ≡ removing (find xs) k n
    find_removed k is =
        let long = length-remove xs at less in
        remove_from (find xs) k (find (remove xs at))
        (find_none (remove xs at) k (λ j d h q.
        ⊎_elim
        (λ (e : j < at). omega (arith, kept_below j d e, climbs_far number_of xs up j at d e less, is d))
        (λ (e : at ≤ j). omega (arith, kept_above j d e, climbs_far number_of xs up at (j + 1) d (omega arith) (omega arith), is d))
        (cases_lt j at)))
        (λ m other. find_removed_other xs at m less (λ d q. other (q ∙ is d)))
