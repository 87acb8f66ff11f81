-- The questions that ask the tables, tied to what an order brings.
use Rattle.std.proofs.Common.{◌≡◌, ℕ, Bool, List, is_some, Some, None, Option, Result, sym, ap, ◌∙◌, subst, Bor}
use Rattle.std.specs.Option.{option_map}
use Rattle.access.specs.Standing.{Standing}
use Rattle.orders.specs.declared.order.Order.{Order}
use Rattle.orders.specs.declared.refusal.Refusal.{Refusal}
use Rattle.orders.specs.Frames.{Right}
use Rattle.orders.specs.Meanings.{Meaning}
use Rattle.orders.specs.Orders.{Brings}
use Rattle.execution.specs.Objections.{unless, admitted_or, asked_tables}

pub brings_as : (o d : Order) (bs : List ℕ) (m : Meaning) → o ≡ d → Brings o bs m → Brings d bs m
brings_as o d bs m is brings = subst (λ x. Brings x bs m) is brings

pub right_as : (last : ℕ) (m n : Meaning) → m ≡ n → Right last m → Right last n
right_as last m n is right = subst (λ x. Right last x) is right

-- a look-up finds something exactly where something stands
pub some_there : {X : Type 0} (o : Option (Bor X)) (p : Option X) → option_map (λ x. x.now) o ≡ p → is_some o ≡ is_some p
some_there (Some x) p is = ap is_some is
some_there None p is = ap is_some is

-- a question that was asked is the one that the meaning asks
pub told : (s : Standing) (r : Result (Unit {0}) Refusal) (b there : Bool) (e : Refusal) (m n : Meaning) → r ≡ admitted_or (unless b e) → b ≡ there → m ≡ n → admitted_or (unless there e) ≡ asked_tables s n → r ≡ asked_tables s m
told s r b there e m n found same is asked = found ∙ ap (λ t. admitted_or (unless t e)) same ∙ asked ∙ ap (asked_tables s) (sym is)
