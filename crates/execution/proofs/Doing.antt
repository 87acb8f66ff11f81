-- A change, tied to what an order brings.
use Rattle.std.proofs.Common.{◌≡◌, ℕ, List, Some, None, Option, sym, ap, ◌∙◌, subst, arith}
use Rattle.journal.specs.declared.entry.Entry.{Entry as LogEntry}
use Rattle.orders.specs.Meanings.{Meaning}
use Rattle.execution.proofs.Every.{the_some}
use Rattle.access.specs.Standing.{Views}
use Rattle.execution.specs.Deeds.{deed, Done}

pub done_as : {v w : Views} {log log' : List LogEntry} (m n : Meaning) → m ≡ n → Done (deed n.0 n.1) v w log log' → Done (deed m.0 m.1) v w log log'
done_as {v} {w} {log} {log'} m n is done = subst (λ (x : Meaning). Done (deed x.0 x.1) v w log log') (sym is) done

pub same_some : {A : Type 0} (o : Option A) (x y : A) → o ≡ Some x → o ≡ Some y → x ≡ y
same_some o x y one other = ap (the_some x) (sym one ∙ other)

pub none_some : {A : Type 0} (x : A) → None ≡ Some x → ⊥
none_some x is = let no_way : ◌≡◌ {A = ℕ} 0 1 = cc in absurd (omega arith)
