-- Which record is the lowest that passes a test.
use Rattle.std.proofs.Common.{◌≡◌, ℕ, zero, suc, ◌<◌, Bool, true, false, cond, is_some, Some, None, Option, sym, refl, ap, ◌∙◌, ⊎_elim, arith}
use Rattle.std.proofs.lemmas.Bool.{cases_eq, cases_Bool, cond-true, true≢false, false≢true}
use Rattle.tables.specs.declared.entry.Entry.{Entry}
use Rattle.tables.specs.Maps.{Map}
use Rattle.access.specs.Standing.{passes, kept_if, or_else, lowest}

module _ {B : Type 0} where
  or_else_none : (o p : Option (Entry B)) → or_else o p ≡ None → (o ≡ None) × (p ≡ None)
  or_else_none None p is = (refl, is)
  or_else_none (Some e) p is = absurd (let z : ◌≡◌ {A = ℕ} 0 1 = cc in omega arith)

  kept_none : (test : B → Bool) (o : Option (Entry B)) → kept_if test o ≡ None → passes test o ≡ false
  kept_none test None is = refl
  kept_none test (Some e) is =
      ⊎_elim
      (λ (yes : test e.body ≡ true).
      let some : Some e ≡ None = sym (cond-true (test e.body) (Some e) None yes) ∙ is in
      absurd (let z : ◌≡◌ {A = ℕ} 0 1 = cc in omega arith))
      (λ (no : test e.body ≡ false). no)
      (cases_Bool (test e.body))

  -- the record that is kept is the one that stands, and it passes
  kept_some : (test : B → Bool) (o : Option (Entry B)) (e : Entry B) → kept_if test o ≡ Some e → (o ≡ Some e) × (test e.body ≡ true)
  kept_some test None e is = absurd (let z : ◌≡◌ {A = ℕ} 0 1 = cc in omega arith)
  kept_some test (Some d) e is =
      ⊎_elim
      (λ (yes : test d.body ≡ true).
      let same : Some d ≡ Some e = sym (cond-true (test d.body) (Some d) None yes) ∙ is in
      let one : d ≡ e = cc in
      (same, sym (ap (λ (x : Entry B). test x.body) one) ∙ yes))
      (λ (no : test d.body ≡ false).
      let none : None ≡ Some e = sym (ap (λ (b : Bool). cond b (Some d) None) no) ∙ is in
      absurd (let z : ◌≡◌ {A = ℕ} 0 1 = cc in omega arith))
      (cases_Bool (test d.body))

  -- the record under k passes, and none below it does
  pub record First (f : Map B) (test : B → Bool) (n : ℕ) (e : Entry B) : Type 0 where
    pub number : ℕ
    pub below : number < n
    pub stands : f number ≡ Some e
    pub yes : test e.body ≡ true
    pub none_before : (j : ℕ) → j < number → passes test (f j) ≡ false

  pub lowest_none : (f : Map B) (test : B → Bool) (n : ℕ) → ((k : ℕ) → k < n → passes test (f k) ≡ false) → lowest f test n ≡ None
  unfolding lowest
  lowest_none f test zero none = refl
  lowest_none f test (suc n) none =
      ap (λ o. or_else o (kept_if test (f n))) (lowest_none f test n (λ k h. none k (omega arith)))
      ∙ ap (λ (b : Bool). cond b (f n) None) (none n (omega arith))

  pub none_passes : (f : Map B) (test : B → Bool) (n : ℕ) → lowest f test n ≡ None → (k : ℕ) → k < n → passes test (f k) ≡ false
  unfolding lowest
  none_passes f test zero is k less = absurd (omega arith)
  none_passes f test (suc n) is k less =
      let parts = or_else_none (lowest f test n) (kept_if test (f n)) is in
      ⊎_elim
      (λ (e : k ≡ n). ap (λ m. passes test (f m)) e ∙ kept_none test (f n) parts.1)
      (λ (e : k ≡ n → ⊥). none_passes f test n parts.0 k (omega arith))
      (cases_eq k n)

  pub lowest_first : (f : Map B) (test : B → Bool) (n : ℕ) (e : Entry B) → First f test n e → lowest f test n ≡ Some e
  unfolding lowest
  lowest_first f test zero e first = absurd (let b = first.below in omega arith)
  lowest_first f test (suc n) e first =
      ⊎_elim
      (λ (same : first.number ≡ n).
      let here : f n ≡ Some e = sym (ap f same) ∙ first.stands in
      let before = lowest_none f test n (λ k h. first.none_before k (omega arith)) in
      ap (λ o. or_else o (kept_if test (f n))) before ∙ ap (kept_if test) here ∙ cond-true (test e.body) (Some e) None first.yes)
      (λ (other : first.number ≡ n → ⊥).
      let less : first.number < n = let b = first.below in omega arith in
      let before = lowest_first f test n e (record { number = first.number; below = less; stands = first.stands; yes = first.yes; none_before = first.none_before }) in
      ap (λ o. or_else o (kept_if test (f n))) before)
      (cases_eq first.number n)

  step_some : (f : Map B) (test : B → Bool) (n : ℕ) (e : Entry B) (o : Option (Entry B)) → lowest f test n ≡ o → or_else o (kept_if test (f n)) ≡ Some e → (lowest f test n ≡ Some e → First f test n e) → First f test (suc n) e
  step_some f test n e None none is before =
      let kept = kept_some test (f n) e is in
      record { number = n; below = omega arith; stands = kept.0; yes = kept.1; none_before = none_passes f test n none }
  step_some f test n e (Some d) some is before =
      let first = before (some ∙ is) in
      record { number = first.number; below = (let b = first.below in omega arith); stands = first.stands; yes = first.yes; none_before = first.none_before }

  pub first_lowest : (f : Map B) (test : B → Bool) (n : ℕ) (e : Entry B) → lowest f test n ≡ Some e → First f test n e
  unfolding lowest
  first_lowest f test zero e is = absurd (let z : ◌≡◌ {A = ℕ} 0 1 = cc in omega arith)
  first_lowest f test (suc n) e is = step_some f test n e (lowest f test n) refl is (first_lowest f test n e)

  pub some_stands : (o : Option (Entry B)) → is_some o ≡ true → (e : Entry B) × (o ≡ Some e)
  some_stands None is = absurd (false≢true is)
  some_stands (Some e) is = (e, refl)

  found_step : (f : Map B) (test : B → Bool) (n k : ℕ) (e : Entry B) → k < n → f k ≡ Some e → test e.body ≡ true → (o : Option (Entry B)) → lowest f test n ≡ o → is_some o ≡ true
  found_step f test n k e below stands so None none = absurd (true≢false (sym (ap (passes test) stands ∙ so) ∙ none_passes f test n none k below))
  found_step f test n k e below stands so (Some d) some = refl

  -- where one passes there is a lowest
  pub lowest_there : (f : Map B) (test : B → Bool) (n k : ℕ) (e : Entry B) → k < n → f k ≡ Some e → test e.body ≡ true → is_some (lowest f test n) ≡ true
  lowest_there f test n k e below stands so = found_step f test n k e below stands so (lowest f test n) refl
