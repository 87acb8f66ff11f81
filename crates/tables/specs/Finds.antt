-- The map of a list of records.
use Rattle.std.specs.Prelude.{◌≡◌, ℕ, zero, suc, ◌<◌, cond, List, [], ◌∷◌, length, get_or, Some, None, Option, ◌==◌, ◌≢◌, slice_index_or, slice_set, refl}
use Rattle.std.proofs.Common.{sym, ap, ◌∙◌, arith}
use Rattle.std.specs.List.{insert, remove}
use Rattle.std.proofs.lemmas.Bool.{cond-true, cond-false, eq-eqb, ne_eqb}
use Rattle.tables.specs.declared.entry.Entry.{Entry}
use Rattle.tables.specs.Packing.{find}

module _ {B : Type 0} where
  pub find_none : (xs : List (Entry B)) (n : ℕ) → ((j : ℕ) (d : Entry B) → j < length xs → (get_or xs j d).number ≢ n) → find xs n ≡ None
  find_none [] n others = refl
  find_none (x ∷ xs) n others =
      cond-false _ _ _ (ne_eqb x.number n (others zero x (omega arith))) ∙ find_none xs n (λ j d h. others (suc j) d (omega arith))

  -- the first record with the number
  pub find_first : (xs : List (Entry B)) (n i : ℕ) (d : Entry B) → i < length xs → ((j : ℕ) → j < i → (get_or xs j d).number ≢ n) → (get_or xs i d).number ≡ n → find xs n ≡ Some (slice_index_or xs i d)
  find_first [] n i d less before here = absurd (omega arith)
  find_first (x ∷ xs) n zero d less before here = cond-true _ _ _ (eq-eqb x.number n here)
  find_first (x ∷ xs) n (suc i) d less before here =
      cond-false _ _ _ (ne_eqb x.number n (before zero (omega arith))) ∙ find_first xs n i d (omega arith) (λ j h. before (suc j) (omega arith)) here

  passes : (x : Entry B) (xs ys : List (Entry B)) (n : ℕ) → find xs n ≡ find ys n → find (x ∷ xs) n ≡ find (x ∷ ys) n
  passes x xs ys n same = ap (λ (o : Option (Entry B)). cond (x.number == n) (Some x) o) same

  -- another number is found as before
  pub find_inserted_other : (xs : List (Entry B)) (at : ℕ) (x : Entry B) (n : ℕ) → (n ≢ x.number) → find (insert xs at x) n ≡ find xs n
  find_inserted_other xs zero x n other = cond-false _ _ _ (ne_eqb x.number n (λ q. other (sym q)))
  find_inserted_other [] (suc at) x n other = cond-false _ _ _ (ne_eqb x.number n (λ q. other (sym q)))
  find_inserted_other (y ∷ ys) (suc at) x n other = passes y (insert ys at x) ys n (find_inserted_other ys at x n other)

  pub find_removed_other : (xs : List (Entry B)) (at n : ℕ) → at < length xs → ((d : Entry B) → n ≢ (get_or xs at d).number) → find (remove xs at) n ≡ find xs n
  find_removed_other [] at n less other = absurd (omega arith)
  find_removed_other (y ∷ ys) zero n less other = sym (cond-false _ _ _ (ne_eqb y.number n (λ q. other y (sym q))))
  find_removed_other (y ∷ ys) (suc at) n less other = passes y (remove ys at) ys n (find_removed_other ys at n (omega arith) other)

  pub find_set_other : (xs : List (Entry B)) (at : ℕ) (x d : Entry B) (n : ℕ) → at < length xs → (get_or xs at d).number ≡ x.number → (n ≢ x.number) → find (slice_set xs at x) n ≡ find xs n
  find_set_other [] at x d n less same other = refl
  find_set_other (y ∷ ys) zero x d n less same other =
      cond-false _ _ _ (ne_eqb x.number n (λ q. other (sym q))) ∙ sym (cond-false _ _ _ (ne_eqb y.number n (λ q. other (sym q ∙ same))))
  find_set_other (y ∷ ys) (suc at) x d n less same other = passes y (slice_set ys at x) ys n (find_set_other ys at x d n (omega arith) same other)
