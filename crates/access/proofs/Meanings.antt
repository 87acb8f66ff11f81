-- What a number of a time set, a zone or a group comes to.
use Rattle.std.proofs.Common.{◌≡◌, ℕ, zero, suc, ◌<◌, ◌≤◌, Bool, true, List, [], ◌∷◌, length, get_or, Some, None, Option, sym, refl, ap, ◌∙◌, inl, inr, ⊎_elim, arith}
use Rattle.std.proofs.lemmas.Bool.{cases_eq, eq-eqb, ne_eqb, cond-true, cond-false, and_parts, or_cases, or_left, or_right}
use Rattle.tables.specs.declared.entry.Entry.{Entry}
use Rattle.tables.specs.Maps.{Map}
use Rattle.calendar.specs.declared.minute.Minute.{Minute}
use Rattle.records.specs.declared.row.Row.{Row}
use Rattle.access.specs.Standing.{Standing, named, passes, meant}
use Rattle.access.specs.Covering.{some_of, sets_at, opens, group_opens, group_admits}

module _ {B : Type 0} (f : Map B) (test : B → Bool) where
  pub meant_always : (n : ℕ) → n ≡ 1 → meant f test n ≡ true
  meant_always n is = cond-true _ _ _ (eq-eqb n 1 is)

  pub meant_passes : (n : ℕ) (o : Option (Entry B)) → (n ≡ 1 → ⊥) → o ≡ named f n → meant f test n ≡ passes test o
  meant_passes n o other is = cond-false _ _ _ (ne_eqb n 1 other) ∙ ap (passes test) (sym is)

pub some_of_weaker : (p q : ℕ → Bool) → ((n : ℕ) → p n ≡ true → q n ≡ true) → (ns : List ℕ) → some_of p ns ≡ true → some_of q ns ≡ true
some_of_weaker p q weaker [] so = so
some_of_weaker p q weaker (n ∷ ns) so =
    elim (or_cases (p n) (some_of p ns) so) [ inl here ↦ or_left (q n) (some_of q ns) (weaker n here) | inr later ↦ or_right (q n) (some_of q ns) (some_of_weaker p q weaker ns later) ]

module _ {B : Type 0} (p q : B → Bool) (weaker : (b : B) → p b ≡ true → q b ≡ true) where
  passes_weaker : (o : Option (Entry B)) → passes p o ≡ true → passes q o ≡ true
  passes_weaker None so = so
  passes_weaker (Some e) so = weaker e.body so

  pub meant_weaker : (f : Map B) (n : ℕ) → meant f p n ≡ true → meant f q n ≡ true
  meant_weaker f n so =
      ⊎_elim
      (λ (one : n ≡ 1). meant_always f q n one)
      (λ (other : n ≡ 1 → ⊥).
      meant_passes f q n (named f n) other refl ∙ passes_weaker (named f n) (sym (meant_passes f p n (named f n) other refl) ∙ so))
      (cases_eq n 1)

-- the time sets of the row at a place, and past the last row
pub sets_read : (rows : List Row) (i : ℕ) (r : Row) → i < length rows → ((d : Row) → r ≡ get_or rows i d) → r.sets ≡ sets_at rows i
sets_read [] i r within is = absurd (omega arith)
sets_read (q ∷ rows) zero r within is = ap (λ (y : Row). y.sets) (is q)
sets_read (q ∷ rows) (suc i) r within is = sets_read rows i r (omega arith) is

pub sets_past : (rows : List Row) (i : ℕ) → length rows ≤ i → [] ≡ sets_at rows i
sets_past [] i past = refl
sets_past (q ∷ rows) zero past = absurd (omega arith)
sets_past (q ∷ rows) (suc i) past = sets_past rows i (omega arith)

module _ (s : Standing) (door : ℕ) (x : Minute) where
  pub admits_opens : (n : ℕ) → group_admits s door x n ≡ true → group_opens s door n ≡ true
  admits_opens n so = meant_weaker _ (opens door) (λ g both. (and_parts _ _ both).0) s.groups n so
