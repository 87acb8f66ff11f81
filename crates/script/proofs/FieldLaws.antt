-- What the loops of `fields` keep, and what a word at the front of a text is.
use Rattle.std.proofs.Common.{◌≡◌, ℕ, suc, ◌+◌, ◌-◌, ◌<◌, Bool, true, false, cond, ◌&&◌, eqb, List, [], ◌∷◌, ◌++◌, length, take, drop, set, Some, None, Option, refl, sym, ap, arith}
use Rattle.std.specs.Str.{bytes_eq}
use Rattle.std.proofs.lemmas.List.{take_more_set, append_assoc}
use Rattle.script.specs.Fields.{then, skip, ends, after_word, hex_byte, hex_run}

-- bytes read before the others
abbrev pub before : List ℕ → Option (List ℕ × List ℕ) → Option (List ℕ × List ℕ)
before xs None = None
before xs (Some p) = Some (xs ++ p.0, p.1)

before_more : (xs : List ℕ) (b : ℕ) (r : Option (List ℕ × List ℕ)) → before xs (then r (λ q. Some (b ∷ q.0, q.1))) ≡ before (xs ++ b ∷ []) r
before_more xs b None = refl
before_more xs b (Some p) = ap (λ l. Some (l, p.1)) (sym (append_assoc xs (b ∷ []) p.0))

-- one more byte of a word
pub run_more : (n i b : ℕ) (bytes rest after : List ℕ) → i < n → length bytes ≡ n → hex_byte (skip rest) ≡ Some (b, after) → before (take (i + 1) (set bytes i b)) (hex_run (n - (i + 1)) after) ≡ before (take i bytes) (hex_run (n - i) rest)
run_more n i b bytes rest after h l e =
    let fewer : n - i ≡ suc (n - (i + 1)) = omega arith in
    rw (fewer, e, take_more_set bytes i b (omega arith)) (sym (before_more (take i bytes) b (hex_run (n - (i + 1)) after)))

one_letter : (same front over : Bool) (ws cs rest : List ℕ) → after_word ws cs ≡ cond (front && over) (Some rest) None → then (cond same (Some cs) None) (λ t. after_word ws t) ≡ cond (same && front && over) (Some rest) None
one_letter true front over ws cs rest e = e
one_letter false front over ws cs rest e = refl

-- a word stands at the front of a text where as many bytes are equal to it and the word ends behind them
pub word_front : (word text : List ℕ) → after_word word text ≡ cond (bytes_eq (take (length word) text) word && ends (drop (length word) text)) (Some (drop (length word) text)) None
word_front [] text = refl
word_front (w ∷ ws) [] = refl
word_front (w ∷ ws) (c ∷ cs) = one_letter (eqb c w) _ _ ws cs _ (word_front ws cs)
