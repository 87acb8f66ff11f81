-- One step of a walk, and which records a walk meets.
use Rattle.std.proofs.Common.{◌≡◌, ℕ, zero, suc, ◌+◌, ◌-◌, ◌<◌, ◌≤◌, List, [], ◌∷◌, ◌++◌, length, is_some, Bor, Some, None, Option, sym, refl, ap, ◌∙◌, ⊎_elim, arith, rules}
use Rattle.std.specs.Prelude.{⊤}
use Rattle.std.specs.Iterator.{MakesProgress, YieldsFirstBy, item_count}
use Rattle.std.specs.Option.{MatchOption, option_map, option_to_list}
use Rattle.std.proofs.lemmas.Bool.{both_ways, cases_eq}
use Rattle.std.proofs.lemmas.Iterator.{YieldsList}
use Rattle.std.proofs.lemmas.Iterator.Consumers.{YieldsList-from_first}
use Rattle.std.proofs.lemmas.List.{append-nil, append_assoc}
use Rattle.tables.specs.declared.walk.Walk.{Walk}
use Rattle.tables.specs.declared.entry.Entry.{Entry}
use Rattle.tables.specs.Maps.{Map, View, start, Least}
use Rattle.tables.specs.Walks.{records_from, records_left, records_of}

module _ {B : Type 0} where
  -- where no record is, none is met
  pub none_left : (f : Map B) (a n : ℕ) → ((k : ℕ) → a ≤ k → f k ≡ None) → records_from f a n ≡ []
  unfolding records_from
  none_left f a zero none = refl
  none_left f a (suc n) none = ap (λ o. option_to_list o ++ records_from f (suc a) n) (none a (omega arith)) ∙ none_left f (suc a) n (λ k from. none k (omega arith))

  -- the first record, and those behind it
  pub first_left : (f : Map B) (a n k : ℕ) (e : Entry B) → Least f a k → k < a + n → f k ≡ Some e → records_from f a n ≡ e ∷ records_from f (suc k) (a + n - suc k)
  unfolding records_from
  first_left f a zero k e least less is = absurd (omega (arith, least.from))
  first_left f a (suc n) k e least less is =
      ⊎_elim
      (λ (q : a ≡ k).
      let here : f a ≡ Some e = ap f q ∙ is in
      let from : suc a ≡ suc k = omega arith in
      let rest : n ≡ a + suc n - suc k = omega arith in
      ap (λ o. option_to_list o ++ records_from f (suc a) n) here ∙ ap (λ l. e ∷ l) (ap (λ b. records_from f b n) from ∙ ap (records_from f (suc k)) rest))
      (λ (q : a ≡ k → ⊥).
      let past : Least f (suc a) k = record { from = omega (arith, least.from); there = least.there; none_before = λ m from before. least.none_before m (omega arith) before } in
      let rest : suc a + n - suc k ≡ a + suc n - suc k = omega arith in
      ap (λ o. option_to_list o ++ records_from f (suc a) n) (least.none_before a (omega arith) (omega (arith, least.from)))
      ∙ (first_left f (suc a) n k e past (omega arith) is ∙ ap (λ m. e ∷ records_from f (suc k) m) rest))
      (cases_eq a k)

  -- a step of a walk that meets a record
  pub walk_on : (v : View B) (a k : ℕ) (r : Option (Bor (Entry B))) → Least v.at a k → k ≤ v.high → option_map (λ x. x.now) r ≡ v.at k → MatchOption r ((records_left v a ≡ []) × (records_left v (k + 1) ≡ [])) (λ x. records_left v a ≡ x.now ∷ records_left v (k + 1))
  walk_on v a k None least within is = absurd (both_ways _ (ap is_some (sym is)) least.there)
  walk_on v a k (Some x) least within is =
      let next : suc k ≡ k + 1 = omega arith in
      let n = suc v.high - a in
      let rest : a + n - suc k ≡ suc v.high - (k + 1) = omega (arith, least.from) in
      first_left v.at a n k x.now least (omega (arith, least.from)) (sym is)
      ∙ ap (λ l. x.now ∷ l) (ap (λ b. records_from v.at b (a + n - suc k)) next ∙ ap (records_from v.at (k + 1)) rest)

-- what shows a list and gives its first comes nearer to its end
pub goes_on : {S A B : Type 0} (view : A → B) (rest : S → List B) (s t : S) (r : Option A) → YieldsFirstBy view rest s r t → MakesProgress (λ _. ⊤) (item_count rest) s r t
goes_on view rest s t None given = search rules
goes_on view rest s t (Some x) given = let shorter = ap length given in search rules

-- a walk from the start meets all records
pub walk_meets : {T B : Type 0} (view : T → View B) (w : Walk T) (t : T) → w.table.now ≡ t → w.above ≡ None → YieldsList (YieldsFirstBy (λ (x : Bor (Entry B)). x.now) (λ (v : Walk T). records_left (view v.table.now) (start v.above))) (λ x. x.now) w (records_of (view t))
walk_meets view w t table above = YieldsList-from_first (λ x. x.now) (λ v. records_left (view v.table.now) (start v.above)) (records_of (view t)) (λ i. records_left (view (table i)) (start (above i)))

-- the record under the last number stands last
pub records_more : {B : Type 0} (f : Map B) (a n : ℕ) → records_from f a (suc n) ≡ records_from f a n ++ option_to_list (f (a + n))
unfolding records_from
records_more f a zero = let e : a ≡ a + zero = omega arith in append-nil (option_to_list (f a)) ∙ ap (λ k. option_to_list (f k)) e
records_more f a (suc n) =
    let e : suc a + n ≡ a + suc n = omega arith in
    ap (λ l. option_to_list (f a) ++ l) (records_more f (suc a) n ∙ ap (λ k. records_from f (suc a) n ++ option_to_list (f k)) e)
    ∙ sym (append_assoc (option_to_list (f a)) (records_from f (suc a) n) (option_to_list (f (a + suc n))))
