-- Rows and the three bytes of each.
use Rattle.std.proofs.Common.{◌≡◌, ℕ, zero, suc, ◌*◌, ◌/◌, ◌<◌, List, [], ◌∷◌, ◌++◌, length, get_or, map, Bor, take, drop, sym, refl, ap, ◌∙◌, arith}
use denote.Param.Members.{Mut, Called}
use Rattle.std.proofs.lemmas.List.{length-drop, take-append-drop}
use Rattle.std.specs.Array.{IsMapOf}
use Rattle.std.specs.List.{flat_map}
use Rattle.std.specs.Simd.{first_chunks}
use Rattle.records.specs.declared.row.Row.{Row}
use Rattle.records.specs.Zones.{sets_of}

-- bytes cut into threes, and joined again
cut : (k : ℕ) (bs : List ℕ) → length bs ≡ 3 * k → flat_map (λ x. x) (first_chunks 3 k bs) ≡ bs
cut zero [] long = refl
cut zero (b ∷ bs) long = absurd (omega arith)
cut (suc k) bs long = ap (λ l. take 3 bs ++ l) (cut k (drop 3 bs) (omega (arith, length-drop 3 bs))) ∙ take-append-drop 3 bs

pub joined : (k : ℕ) (bs : List ℕ) → length bs ≡ 3 * k → flat_map (λ x. x) (first_chunks 3 (length bs / 3) bs) ≡ bs
joined k bs long = let count : length bs / 3 ≡ k = omega arith in ap (λ n. flat_map (λ x. x) (first_chunks 3 n bs)) count ∙ cut k bs long

-- rows and threes that are the same place by place
same_sets : (rows : List Row) (sets : List (List ℕ)) → length rows ≡ length sets → ((i : ℕ) (r : Row) (s : List ℕ) → i < length rows → (get_or rows i r).sets ≡ get_or sets i s) → flat_map sets_of rows ≡ flat_map (λ x. x) sets
same_sets [] [] many each = refl
same_sets [] (s ∷ sets) many each = absurd (omega arith)
same_sets (r ∷ rows) [] many each = absurd (omega arith)
same_sets (r ∷ rows) (s ∷ sets) many each =
    λ i. each 0 r s (omega arith) i ++ same_sets rows sets (omega arith) (λ k x y within. each (suc k) x y (omega arith)) i

-- rows that were made of threes that are lent
same_lent : (rows : List Row) (lent : List (Bor (List ℕ))) → length rows ≡ length lent → ((i : ℕ) (r : Row) (s : Bor (List ℕ)) → i < length rows → (get_or rows i r).sets ≡ (get_or lent i s).now) → flat_map sets_of rows ≡ flat_map (λ x. x) (map (λ s. s.now) lent)
same_lent [] [] many each = refl
same_lent [] (s ∷ lent) many each = absurd (omega arith)
same_lent (r ∷ rows) [] many each = absurd (omega arith)
same_lent (r ∷ rows) (s ∷ lent) many each =
    λ i. each 0 r s (omega arith) i ++ same_lent rows lent (omega arith) (λ k x y within. each (suc k) x y (omega arith)) i

pub of_lent : {F : Type 0} (g : Mut F (Bor (List ℕ) × Unit {0}) Row) (f : F) (lent : List (Bor (List ℕ))) (rows : List Row) (sets : List (List ℕ)) → map (λ s. s.now) lent ≡ sets → length lent ≡ 8 → IsMapOf g f lent rows 8 → ((p : F) (s : Bor (List ℕ)) (r : Row) (q : F) → Called g p (s, tt) r q → r.sets ≡ s.now) → flat_map sets_of rows ≡ flat_map (λ x. x) sets
of_lent g f lent rows sets read many made call =
    same_lent rows lent (made.long ∙ sym many) (λ i r s within. let (p, q, called) = made.at i s r (omega (arith, made.long)) in call p _ _ q called) ∙ ap (flat_map (λ x. x)) read

-- threes that were made of rows
pub of_rows : {F : Type 0} (g : Mut F (Row × Unit {0}) (List ℕ)) (f : F) (rows : List Row) (sets : List (List ℕ)) → length rows ≡ 8 → IsMapOf g f rows sets 8 → ((p : F) (r : Row) (s : List ℕ) (q : F) → Called g p (r, tt) s q → s ≡ r.sets) → flat_map (λ x. x) sets ≡ flat_map sets_of rows
of_rows g f rows sets many made call =
    sym (same_sets rows sets (many ∙ sym made.long) (λ i r s within. let (p, q, called) = made.at i r s (omega (arith, many)) in sym (call p _ _ q called)))
