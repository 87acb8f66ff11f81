-- A test of each element, one by one.
use Rattle.std.proofs.Common.{◌≡◌, ℕ, zero, suc, ◌+◌, ◌<◌, Bool, true, false, ◌&&◌, List, [], ◌∷◌, length, get_or, drop, Some, None, Option, sym, refl, ap, ◌∙◌, arith}
use Rattle.std.specs.List.{flat_map, list_all, slice_get}
use Rattle.std.proofs.lemmas.List.Folds.{list_all-append}
use Rattle.std.proofs.lemmas.List.{drop_more}
use Rattle.std.proofs.lemmas.Option.{slice_get-get_or}

module _ {A : Type 0} (test : A → Bool) where
  pub all_more : (xs : List A) (i : ℕ) (d : A) → i < length xs → test (get_or xs i d) ≡ true → list_all test (drop i xs) ≡ list_all test (drop (i + 1) xs)
  all_more xs i d within right = ap (list_all test) (drop_more xs i d within) ∙ ap (λ t. t && list_all test (drop (i + 1) xs)) right

  pub all_fail : (xs : List A) (i : ℕ) (d : A) → i < length xs → test (get_or xs i d) ≡ false → list_all test (drop i xs) ≡ false
  all_fail xs i d within wrong = ap (list_all test) (drop_more xs i d within) ∙ ap (λ t. t && list_all test (drop (i + 1) xs)) wrong

  -- lists one behind the other
  pub all_joined : {B : Type 0} (f : B → List A) (xs : List B) → list_all (λ x. list_all test (f x)) xs ≡ list_all test (flat_map f xs)
  all_joined f [] = refl
  all_joined f (x ∷ xs) = ap (λ b. list_all test (f x) && b) (all_joined f xs) ∙ sym (list_all-append test (f x) (flat_map f xs))

abbrev pub the_some : {A : Type 0} → A → Option A → A
the_some d (Some x) = x
the_some d None = d

-- the element of a place that is known
pub nth_is : {A : Type 0} (xs : List A) (i : ℕ) (x : A) → i < length xs → slice_get xs i ≡ Some x → get_or xs i x ≡ x
nth_is xs i x within is = ap (the_some x) (sym (slice_get-get_or xs i x within) ∙ is)

pub nth_there : {A : Type 0} (xs : List A) (i : ℕ) → i < length xs → slice_get xs i ≡ None → ⊥
nth_there [] i within is = absurd (omega arith)
nth_there (x ∷ xs) zero within is = let no_way : ◌≡◌ {A = ℕ} 0 1 = cc in absurd (omega arith)
nth_there (x ∷ xs) (suc i) within is = nth_there xs i (omega arith) is
