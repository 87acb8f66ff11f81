-- A body read as what its command takes.
use Rattle.std.proofs.Common.{◌≡◌, ℕ, true, List, [], ◌∷◌, length, get_or, sym, refl, ap, ◌∙◌, subst, arith}
use Rattle.std.proofs.lemmas.Grind.{common_steps, elements}
use Rattle.std.proofs.lemmas.Bool.{eqb-true}
use Rattle.orders.specs.declared.command.Command.{Command}
use Rattle.orders.specs.declared.order.Order.{Order}
use Rattle.orders.specs.declared.size.BodySize.TheVariants.{Fixed}
use Rattle.orders.specs.Bodies.{size_of, long_right}
use Rattle.orders.specs.Frames.{content_bytes, ContentRight}
use Rattle.orders.specs.Meanings.{nothing, takes, Content}
use Rattle.orders.specs.Orders.{Brings}
use Rattle.orders.specs.Readings.{Taken}

pub taken_by : {last : ℕ} {c d : Command} {body : List ℕ} {o : Order} → c ≡ d → Taken last d body o → Taken last c body o
taken_by {last} {c} {d} {body} {o} is taken = subst (λ x. Taken last x body o) (sym is) taken

long : {c d : Command} (body : List ℕ) (n : ℕ) → size_of d ≡ Fixed n → c ≡ d → long_right (size_of c) body ≡ true → length body ≡ n
long {c} {d} body n size is right = eqb-true (length body) n (sym (ap (λ x. long_right (size_of x) body) is ∙ ap (λ s. long_right s body) size) ∙ right)

-- a command that takes nothing
pub plainly : {last : ℕ} {c d : Command} {body : List ℕ} {o : Order} → takes d ≡ nothing → size_of d ≡ Fixed 0 → c ≡ d → long_right (size_of c) body ≡ true → ((x : Content (takes d)) → Brings o body (d, x)) → Taken last c body o
plainly {last} {c} {d} {body} none size is right brings =
    let held = subst (λ t. (x : Content t) × (content_bytes t x ≡ []) × ContentRight last t x) (sym none) (tt, refl, tt) in
    taken_by is (record { content = held.0; brings = brings held.0; bytes = held.1 ∙ empty body (long body 0 size is right); right = held.2 })
  where
    empty : (body : List ℕ) → length body ≡ 0 → [] ≡ body
    empty body none = grind (arith, common_steps)

-- a command that takes the number of a record
pub numbered : {last : ℕ} {c d : Command} {body : List ℕ} {o : Order} (n : ℕ) → size_of d ≡ Fixed 1 → c ≡ d → long_right (size_of c) body ≡ true → n ≡ get_or body 0 0 → (n ∷ [] ≡ body → Taken last d body o) → Taken last c body o
numbered {last} {c} {d} {body} n size is right read taken = taken_by is (taken (one body (long body 1 size is right) read))
  where
    one : (body : List ℕ) → length body ≡ 1 → n ≡ get_or body 0 0 → n ∷ [] ≡ body
    one body single read = grind (arith, elements)
