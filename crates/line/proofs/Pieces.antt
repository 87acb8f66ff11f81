-- Pieces do not matter, and a piece is read to its end unless an order is ready.
use Rattle.std.proofs.Common.{◌≡◌, ℕ, ◌+◌, List, [], ◌∷◌, ◌++◌, length, refl, ap, ◌∙◌, arith}
use Rattle.line.specs.Rule.{State, listening, holding, hears, after_byte, goes_on, one_more}
use Rattle.line.specs.Laws.{heard_on, PiecesJoin, AllRead}
use Rattle.line.proofs.Hearing.{same_heard}

-- one byte, and then what is left of the two pieces
joins_on : (tid : ℕ) (p q : List ℕ) (s : State) → ((v : List ℕ) → hears tid v (p ++ q) ≡ heard_on tid (hears tid v p).taken (hears tid v p).state q) → goes_on s (λ v. hears tid v (p ++ q)) ≡ heard_on tid (goes_on s (λ v. hears tid v p)).taken (goes_on s (λ v. hears tid v p)).state q
joins_on tid p q (listening v) rest = ap one_more (rest v) ∙ one_later (hears tid v p).taken (hears tid v p).state
  where
    one_later : (n : ℕ) (s : State) → one_more (heard_on tid n s q) ≡ heard_on tid (n + 1) s q
    one_later n (listening w) = same_heard (omega arith) refl
    one_later n (holding f) = refl
joins_on tid p q (holding f) rest = refl

pub pieces_join : (tid : ℕ) → PiecesJoin tid
unfolding hears
pieces_join tid u [] q = same_heard (omega arith) refl
pieces_join tid u (b ∷ p) q = joins_on tid p q (after_byte tid u b) (λ v. pieces_join tid v p q)

-- one byte, and then what is left of the piece
reads_on : (tid : ℕ) (p v : List ℕ) (s : State) → ((w : List ℕ) → (hears tid w p).state ≡ listening v → (hears tid w p).taken ≡ length p) → (goes_on s (λ w. hears tid w p)).state ≡ listening v → (goes_on s (λ w. hears tid w p)).taken ≡ length p + 1
reads_on tid p v (listening w) rest is = let e = rest w is in omega arith
reads_on tid p v (holding f) rest is = let no_way : ◌≡◌ {A = ℕ} 0 1 = cc in absurd (omega arith)

pub all_read : (tid : ℕ) → AllRead tid
unfolding hears
all_read tid u [] v is = refl
all_read tid u (b ∷ p) v is = reads_on tid p v (after_byte tid u b) (λ w. all_read tid w p v) is ∙ omega arith
