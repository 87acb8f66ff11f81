-- A piece that is heard byte by byte.
use Rattle.std.proofs.Common.{◌≡◌, ℕ, ◌+◌, ◌<◌, ◌≤◌, List, [], ◌∷◌, length, get_or, drop, refl, ap, ◌∙◌, arith}
use Rattle.std.proofs.lemmas.List.{at_drop_more, at_drop_all}
use Rattle.line.specs.Rule.{Heard, State, listening, holding, hears, after_byte, goes_on}

pub same_heard : {m n : ℕ} {s t : State} → m ≡ n → s ≡ t → ◌≡◌ {A = Heard} (record { taken = m; state = s }) (record { taken = n; state = t })
same_heard p q = λ i. record { taken = p i; state = q i }

pub hears_none : (tid : ℕ) (u : List ℕ) → hears tid u [] ≡ record { taken = 0; state = listening u }
unfolding hears
hears_none tid u = refl

pub hears_more : (tid : ℕ) (u : List ℕ) (b : ℕ) (bs : List ℕ) → hears tid u (b ∷ bs) ≡ goes_on (after_byte tid u b) (λ v. hears tid v bs)
unfolding hears
hears_more tid u b bs = refl

-- the same, n bytes later
abbrev later : ℕ → Heard → Heard
later n h = record { taken = n + h.taken; state = h.state }

-- what a piece comes to, once i bytes of it have led to u
abbrev pub heard_from : ℕ → List ℕ → List ℕ → ℕ → Heard
heard_from tid u piece i = later i (hears tid u (drop i piece))

-- byte i leads to s
next_heard : (tid : ℕ) (u piece : List ℕ) (i : ℕ) (s : State) → i < length piece → after_byte tid u (get_or piece i 0) ≡ s → hears tid u (drop i piece) ≡ goes_on s (λ v. hears tid v (drop (i + 1) piece))
next_heard tid u piece i s within is =
    at_drop_more (hears tid u) piece i 0 within ∙ hears_more tid u (get_or piece i 0) (drop (i + 1) piece) ∙ ap (λ t. goes_on t (λ v. hears tid v (drop (i + 1) piece))) is

pub still_listening : (tid : ℕ) (u v piece : List ℕ) (i : ℕ) → i < length piece → after_byte tid u (get_or piece i 0) ≡ listening v → heard_from tid u piece i ≡ heard_from tid v piece (i + 1)
still_listening tid u v piece i within is = ap (later i) (next_heard tid u piece i (listening v) within is) ∙ same_heard (omega arith) refl

pub order_ready : (tid : ℕ) (u f piece : List ℕ) (i : ℕ) → i < length piece → after_byte tid u (get_or piece i 0) ≡ holding f → heard_from tid u piece i ≡ record { taken = i + 1; state = holding f }
order_ready tid u f piece i within is = ap (later i) (next_heard tid u piece i (holding f) within is)

pub all_heard : (tid : ℕ) (u piece : List ℕ) (i : ℕ) → length piece ≤ i → i ≤ length piece → heard_from tid u piece i ≡ record { taken = length piece; state = listening u }
all_heard tid u piece i past within = ap (later i) (at_drop_all (hears tid u) piece i past ∙ hears_none tid u) ∙ same_heard (omega arith) refl
