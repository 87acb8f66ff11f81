-- How many numbers of a map have a record.
use Rattle.std.specs.Prelude.{◌≡◌, ℕ, zero, suc, ◌+◌, ◌<◌, ◌≤◌, Bool, cond, Some, None, Option, ◌≢◌}
use Rattle.std.proofs.Math.Path.{refl, ap}
use Rattle.std.proofs.Common.{sym}
use Rattle.std.proofs.Math.Logic.{⊎_elim}
use native.Mathlib.Omega.{arith}
use Rattle.std.proofs.lemmas.Bool.{cases_eq}
use Rattle.tables.specs.declared.entry.Entry.{Entry}
use Rattle.tables.specs.Maps.{Map, one, many, Least}

module _ {B : Type 0} where
  pub one_le : (o : Option (Entry B)) → one o ≤ 1
  one_le None = omega arith
  one_le (Some x) = omega arith

  pub many_le : (f : Map B) (n : ℕ) → many f n ≤ n
  unfolding many
  many_le f zero = omega arith
  many_le f (suc n) = omega (arith, many_le f n, one_le (f n))

  pub many_agree : (f g : Map B) (n : ℕ) → ((m : ℕ) → m < n → g m ≡ f m) → many g n ≡ many f n
  unfolding many
  many_agree f g zero same = refl
  many_agree f g (suc n) same =
      let below = many_agree f g n (λ m h. same m (omega arith)) in
      let here = ap one (same n (omega arith)) in
      omega arith

  -- where two maps differ at one number alone
  pub many_change : (f g : Map B) (k n : ℕ) → k < n → ((m : ℕ) → (m ≢ k) → g m ≡ f m) → many g n + one (f k) ≡ many f n + one (g k)
  unfolding many
  many_change f g k zero less same = absurd (omega arith)
  many_change f g k (suc n) less same =
      ⊎_elim
      (λ (e : k ≡ n). let below = many_agree f g n (λ m h. same m (λ q. omega arith)) in rw e (omega arith))
      (λ (e : k ≡ n → ⊥).
      let below = many_change f g k n (omega arith) same in
      let here = ap one (same n (λ q. e (sym q))) in
      omega arith)
      (cases_eq k n)

  -- where there is no record from a up to b
  pub many_none : (f : Map B) (a b : ℕ) → a ≤ b → ((m : ℕ) → a ≤ m → m < b → f m ≡ None) → many f b ≡ many f a
  unfolding many
  many_none f a zero le none = let e : zero ≡ a = omega arith in ap (many f) e
  many_none f a (suc b) le none =
      ⊎_elim
      (λ (e : a ≡ suc b). ap (many f) (sym e))
      (λ (e : a ≡ suc b → ⊥).
      let below = many_none f a b (omega arith) (λ m l h. none m l (omega arith)) in
      let here = ap one (none b (omega arith) (omega arith)) in
      omega arith)
      (cases_eq a (suc b))

  pub many_empty : (f : Map B) (n : ℕ) → ((m : ℕ) → f m ≡ None) → many f n ≡ 0
  unfolding many
  many_empty f n none = many_none f 0 n (omega arith) (λ m _ _. none m)

  -- one step of a walk
  pub many_least : (f : Map B) (a k : ℕ) → Least f a k → many f (k + 1) ≡ many f a + 1
  unfolding many
  many_least f a k least =
      let e : k + 1 ≡ suc k = omega arith in
      let before = many_none f a k least.from least.none_before in
      let here : one (f k) ≡ 1 = ap (λ (b : Bool). cond b 1 0) least.there in
      rw e (omega arith)

  pub many_zero : (f : Map B) → many f 0 ≡ 0
  unfolding many
  many_zero f = refl
