-- What comes of reading a text, where memory may run out.
use Rattle.std.specs.Prelude.{◌≡◌, ◌⊎◌, Ok, Err, Result, MatchResult}

-- the answer is the one that was told, with a value as `view` shows it; or there was no memory for it
abbrev pub AnswersAs : {A B E : Type 0} → (A → B) → E → Result B E → Result A E → Type 0
AnswersAs view memory told answer = MatchResult answer (λ x. told ≡ Ok (view x)) (λ e. (e ≡ memory) ⊎ (told ≡ Err e))
