-- A replay of changes, one more change at a time and on equal tables; what equal tables have in common.
use Rattle.std.proofs.Common.{◌≡◌, ℕ, suc, ◌+◌, ◌<◌, true, cond, ◌&&◌, eqb, List, [], ◌∷◌, ◌++◌, length, get_or, take, is_some, Some, None, Option, sym, refl, ap, ◌∙◌, ⊎_elim}
use Rattle.std.proofs.lemmas.List.{take_more}
use Rattle.std.proofs.lemmas.Bool.{both_ways, cases_order}
use Rattle.tables.specs.declared.entry.Entry.{Entry}
use Rattle.tables.specs.declared.edit.Edit.{Edit}
use Rattle.tables.specs.declared.edit.Edit.TheVariants.{Put, Remove, Clear}
use Rattle.tables.specs.Maps.{Map, View, inside, many, start, Next}
use Rattle.tables.specs.Replays.{edited, replay, Agree, Alike}
use Rattle.tables.specs.Counts.{many_agree}

module _ {B : Type 0} where
  pub agree_self : (v : View B) → Agree v v
  agree_self v = record { low_same = refl; high_same = refl; map_same = λ n. refl }

  pub agree_back : (v w : View B) → Agree v w → Agree w v
  agree_back v w a = record { low_same = sym a.low_same; high_same = sym a.high_same; map_same = λ n. sym (a.map_same n) }

  pub agree_on : (u v w : View B) → Agree u v → Agree v w → Agree u w
  agree_on u v w a b = record { low_same = a.low_same ∙ b.low_same; high_same = a.high_same ∙ b.high_same; map_same = λ n. a.map_same n ∙ b.map_same n }

  -- the same change keeps equal tables equal
  pub edited_agree : (v w : View B) (e : Edit B) → Agree v w → Agree (edited v e) (edited w e)
  edited_agree v w (Put e) a = record {
    low_same = a.low_same;
    high_same = a.high_same;
    map_same = λ n. λ i. cond (inside (a.low_same i) (a.high_same i) e.number && eqb n e.number) (Some e) (a.map_same n i);
  }
  edited_agree v w (Remove k) a = record {
    low_same = a.low_same;
    high_same = a.high_same;
    map_same = λ n. ap (λ (o : Option (Entry B)). cond (eqb n k) None o) (a.map_same n);
  }
  edited_agree v w Clear a = record { low_same = a.low_same; high_same = a.high_same; map_same = λ n. refl }

  pub replay_agree : (v w : View B) (es : List (Edit B)) → Agree v w → Agree (replay v es) (replay w es)
  replay_agree v w [] a = a
  replay_agree v w (e ∷ es) a = replay_agree (edited v e) (edited w e) es (edited_agree v w e a)

  replay_append : (v : View B) (es ds : List (Edit B)) → replay v (es ++ ds) ≡ replay (replay v es) ds
  replay_append v [] ds = refl
  replay_append v (e ∷ es) ds = replay_append (edited v e) es ds

  replay_more : (v : View B) (es : List (Edit B)) (i : ℕ) (d : Edit B) → i < length es → replay v (take (i + 1) es) ≡ edited (replay v (take i es)) (get_or es i d)
  replay_more v es i d less = ap (replay v) (take_more es i d less) ∙ replay_append v (take i es) (get_or es i d ∷ [])

  -- one more change, made to a table that is as the changes before leave it
  pub replay_step : (v was is : View B) (es : List (Edit B)) (i : ℕ) (e : Edit B) → i < length es → e ≡ get_or es i e → Agree was (replay v (take i es)) → Agree is (edited was e) → Agree is (replay v (take (i + 1) es))
  replay_step v was is es i e less read before change =
      let so_far = replay v (take i es) in
      let more : edited so_far e ≡ replay v (take (i + 1) es) = ap (edited so_far) read ∙ sym (replay_more v es i e less) in
      rw (← more) (agree_on is (edited was e) (edited so_far e) change (edited_agree was so_far e before))

module _ {B : Type 0} (f g : Map B) (same : (n : ℕ) → f n ≡ g n) where
  -- a record of one map where the other has none
  apart : (n : ℕ) → is_some (f n) ≡ true → g n ≡ None → ⊥
  apart n there none = both_ways _ (ap is_some (same n ∙ none)) there

  apart' : (n : ℕ) → is_some (g n) ≡ true → f n ≡ None → ⊥
  apart' n there none = both_ways _ (ap is_some (sym (same n) ∙ none)) there

  next_same : (a : ℕ) (r s : Option ℕ) → Next f a r → Next g a s → r ≡ s
  next_same a None None p q = refl
  next_same a None (Some k) p q = absurd (apart' k q.there (p k q.from))
  next_same a (Some j) None p q = absurd (apart j p.there (q j p.from))
  next_same a (Some j) (Some k) p q =
      ⊎_elim
      (λ (e : j ≡ k). ap Some e)
      (⊎_elim
      (λ (l : j < k). absurd (apart j p.there (q.none_before j p.from l)))
      (λ (l : k < j). absurd (apart' k q.there (p.none_before k q.from l))))
      (cases_order j k)

module _ {B : Type 0} where
  alike_from_agree : (v w : View B) → Agree v w → Alike v w
  alike_from_agree v w a = record {
    agree = a;
    count_same = many_agree w.at v.at (suc v.high) (λ m _. a.map_same m) ∙ ap (λ n. many w.at (suc n)) a.high_same;
    walk_same = λ above. next_same v.at w.at a.map_same (start above);
  }

  -- two tables after the same changes
  pub alike_from_replays : (v w v' w' : View B) (es : List (Edit B)) → Agree v' (replay v es) → Agree w' (replay w es) → Agree v w → Alike v' w'
  alike_from_replays v w v' w' es left right a =
      alike_from_agree v' w' (agree_on v' (replay v es) w' left (agree_on (replay v es) (replay w es) w' (replay_agree v w es a) (agree_back w' (replay w es) right)))
