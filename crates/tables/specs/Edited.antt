-- What a put and a removal leave under each number.
use Rattle.std.specs.Prelude.{◌≡◌, ℕ, true, false, Some, None, ◌≢◌}
use Rattle.std.proofs.Common.{sym, ap, ◌∙◌, ⊎_elim}
use Rattle.std.proofs.lemmas.Bool.{cases_eq, eq-eqb, ne_eqb, and_from, and_left, and_right, cond-true, cond-false}
use Rattle.tables.specs.declared.entry.Entry.{Entry}
use Rattle.tables.specs.Maps.{Map, inside, putting, removing}

module _ {B : Type 0} (low high : ℕ) (f : Map B) (e : Entry B) where
  pub putting_here : (n : ℕ) → inside low high e.number ≡ true → n ≡ e.number → putting low high f e n ≡ Some e
  putting_here n within here = cond-true _ _ _ (and_from _ _ within (eq-eqb _ _ here))

  pub putting_other : (n : ℕ) → (n ≢ e.number) → putting low high f e n ≡ f n
  putting_other n other = cond-false _ _ _ (and_right _ _ (ne_eqb _ _ other))

  pub putting_outside : (n : ℕ) → inside low high e.number ≡ false → putting low high f e n ≡ f n
  putting_outside n out = cond-false _ _ _ (and_left _ _ out)

  pub put_from : (g : Map B) → inside low high e.number ≡ true → g e.number ≡ Some e → ((m : ℕ) → (m ≢ e.number) → g m ≡ f m) → (n : ℕ) → g n ≡ putting low high f e n
  put_from g within here others n =
      ⊎_elim
      (λ (q : n ≡ e.number). ap g q ∙ (here ∙ sym (putting_here n within q)))
      (λ (q : n ≡ e.number → ⊥). others n q ∙ sym (putting_other n q))
      (cases_eq n e.number)

module _ {B : Type 0} (f : Map B) (k : ℕ) where
  pub removing_here : (n : ℕ) → n ≡ k → removing f k n ≡ None
  removing_here n here = cond-true _ _ _ (eq-eqb _ _ here)

  pub removing_other : (n : ℕ) → (n ≢ k) → removing f k n ≡ f n
  removing_other n other = cond-false _ _ _ (ne_eqb _ _ other)

  pub remove_from : (g : Map B) → g k ≡ None → ((m : ℕ) → (m ≢ k) → g m ≡ f m) → (n : ℕ) → g n ≡ removing f k n
  remove_from g here others n =
      ⊎_elim
      (λ (q : n ≡ k). ap g q ∙ (here ∙ sym (removing_here n q)))
      (λ (q : n ≡ k → ⊥). others n q ∙ sym (removing_other n q))
      (cases_eq n k)
