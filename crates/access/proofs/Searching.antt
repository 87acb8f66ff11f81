-- What a search in a walk over a table finds: the record with the lowest number.
use Rattle.std.proofs.Common.{◌≡◌, ℕ, zero, suc, ◌+◌, ◌-◌, Bool, true, false, cond, ◌||◌, ◌++◌, is_some, Some, None, Option, refl, ap, ◌∙◌, arith}
use Rattle.std.specs.List.{find, list_any}
use Rattle.std.specs.Option.{option_or, option_to_list}
use Rattle.std.proofs.lemmas.List.Folds.{find-append, list_any-append}
use Rattle.tables.specs.declared.entry.Entry.{Entry}
use Rattle.tables.specs.Maps.{Map, View}
use Rattle.tables.specs.Walks.{records_from, records_of}
use Rattle.tables.proofs.Walked.{records_more}
use Rattle.access.specs.Standing.{kept_if, or_else, lowest}

module _ {B : Type 0} (test : B → Bool) where
  abbrev of_entry : Entry B → Bool
  of_entry e = test e.body

  find_here : (o : Option (Entry B)) → find of_entry (option_to_list o) ≡ kept_if test o
  find_here None = refl
  find_here (Some e) = refl

  any_here : (o : Option (Entry B)) → list_any of_entry (option_to_list o) ≡ is_some (kept_if test o)
  any_here None = refl
  any_here (Some e) = in_one (test e.body)
    where
      in_one : (b : Bool) → (b || false) ≡ is_some (cond b (Some e) None)
      in_one true = refl
      in_one false = refl

  same_or : (o p : Option (Entry B)) → option_or o p ≡ or_else o p
  same_or None p = refl
  same_or (Some e) p = refl

  some_or : (o p : Option (Entry B)) → (is_some o || is_some p) ≡ is_some (or_else o p)
  some_or None p = refl
  some_or (Some e) p = refl

  find_more : (f : Map B) (n : ℕ) → find of_entry (records_from f 0 (suc n)) ≡ or_else (find of_entry (records_from f 0 n)) (kept_if test (f n))
  find_more f n =
      let e : 0 + n ≡ n = omega arith in
      let before = records_from f 0 n in
      ap (find of_entry) (records_more f 0 n ∙ ap (λ k. before ++ option_to_list (f k)) e)
      ∙ (find-append of_entry before (option_to_list (f n)) ∙ (ap (option_or (find of_entry before)) (find_here (f n)) ∙ same_or (find of_entry before) (kept_if test (f n))))

  find_from : (f : Map B) (n : ℕ) → find of_entry (records_from f 0 n) ≡ lowest f test n
  unfolding records_from lowest
  find_from f zero = refl
  find_from f (suc n) = find_more f n ∙ ap (λ o. or_else o (kept_if test (f n))) (find_from f n)

  module _ (asked : Entry B → Bool) (f g : Map B) (each : (k : ℕ) → list_any asked (option_to_list (f k)) ≡ is_some (kept_if test (g k))) where
    any_more : (n : ℕ) → list_any asked (records_from f 0 (suc n)) ≡ (list_any asked (records_from f 0 n) || is_some (kept_if test (g n)))
    any_more n =
        let e : 0 + n ≡ n = omega arith in
        let before = records_from f 0 n in
        ap (list_any asked) (records_more f 0 n ∙ ap (λ k. before ++ option_to_list (f k)) e)
        ∙ (list_any-append asked before (option_to_list (f n)) ∙ ap (λ b. list_any asked before || b) (each n))

    any_from : (n : ℕ) → list_any asked (records_from f 0 n) ≡ is_some (lowest g test n)
    unfolding records_from lowest
    any_from zero = refl
    any_from (suc n) = any_more n ∙ (ap (λ b. b || is_some (kept_if test (g n))) (any_from n) ∙ some_or (lowest g test n) (kept_if test (g n)))

  whole : (v : View B) → suc v.high - 0 ≡ suc v.high
  whole v = omega arith

  -- the first record that a walk finds is that with the lowest number
  pub found_lowest : (v : View B) → find of_entry (records_of v) ≡ lowest v.at test (suc v.high)
  found_lowest v = ap (λ n. find of_entry (records_from v.at 0 n)) (whole v) ∙ find_from v.at (suc v.high)

  -- and a walk finds one exactly where there is one: of its own map, or of another that it answers for
  pub any_of : (v : View B) (asked : Entry B → Bool) (g : Map B) → ((k : ℕ) → list_any asked (option_to_list (v.at k)) ≡ is_some (kept_if test (g k))) → list_any asked (records_of v) ≡ is_some (lowest g test (suc v.high))
  any_of v asked g each = ap (λ n. list_any asked (records_from v.at 0 n)) (whole v) ∙ any_from asked v.at g each (suc v.high)

  pub any_lowest : (v : View B) → list_any of_entry (records_of v) ≡ is_some (lowest v.at test (suc v.high))
  any_lowest v = any_of v of_entry v.at (λ k. any_here (v.at k))
