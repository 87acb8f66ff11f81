-- A list of known length, byte by byte.
use Rattle.std.specs.Prelude.{◌≡◌, ℕ, ◌<◌, ◌≤◌, Bool, true, ◌&&◌, List, [], ◌∷◌, length, Result, nat_le, slice_index, refl}
use Rattle.std.proofs.Common.{sym, subst, arith}
use mathlib.Core.HLevel.{is_prop→PathP}
use mathlib.Core.Path.{PathP}
use Rattle.std.specs.Coded.{coded_ℕ}
use denote.Struct.Props.{≡_prop}
use Rattle.std.proofs.lemmas.Bool.{and_from, and_parts, leb-true, le-leb, lt-ltb}
use Rattle.records.specs.declared.record.Misfit.{Misfit}
use Rattle.records.specs.Codec.{Writes, one_byte}

pub three_bytes : (bs : List ℕ) → length bs ≡ 3 → slice_index bs 0 ∷ slice_index bs 1 ∷ slice_index bs 2 ∷ [] ≡ bs
three_bytes [] few = absurd (omega arith)
three_bytes (a ∷ []) few = absurd (omega arith)
three_bytes (a ∷ b ∷ []) few = absurd (omega arith)
three_bytes (a ∷ b ∷ c ∷ []) few = refl
three_bytes (a ∷ b ∷ c ∷ d ∷ bs) many = absurd (omega arith)

pub four_bytes : (bs : List ℕ) → length bs ≡ 4 → slice_index bs 0 ∷ slice_index bs 1 ∷ slice_index bs 2 ∷ slice_index bs 3 ∷ [] ≡ bs
four_bytes [] few = absurd (omega arith)
four_bytes (a ∷ []) few = absurd (omega arith)
four_bytes (a ∷ b ∷ []) few = absurd (omega arith)
four_bytes (a ∷ b ∷ c ∷ []) few = absurd (omega arith)
four_bytes (a ∷ b ∷ c ∷ d ∷ []) few = refl
four_bytes (a ∷ b ∷ c ∷ d ∷ e ∷ bs) many = absurd (omega arith)

pub five_bytes : (bs : List ℕ) → length bs ≡ 5 → slice_index bs 0 ∷ slice_index bs 1 ∷ slice_index bs 2 ∷ slice_index bs 3 ∷ slice_index bs 4 ∷ [] ≡ bs
five_bytes [] few = absurd (omega arith)
five_bytes (a ∷ []) few = absurd (omega arith)
five_bytes (a ∷ b ∷ []) few = absurd (omega arith)
five_bytes (a ∷ b ∷ c ∷ []) few = absurd (omega arith)
five_bytes (a ∷ b ∷ c ∷ d ∷ []) few = absurd (omega arith)
five_bytes (a ∷ b ∷ c ∷ d ∷ e ∷ []) few = refl
five_bytes (a ∷ b ∷ c ∷ d ∷ e ∷ f ∷ bs) many = absurd (omega arith)

pub within : (low high n : ℕ) → low ≤ n → n ≤ high → (nat_le low n && nat_le n high) ≡ true
within low high n from to = and_from _ _ (le-leb low n from) (le-leb n high to)

-- a byte holds numbers up to a limit below 256
pub below_holds : (high n : ℕ) → high < 256 → nat_le n high ≡ true → one_byte n ≡ true
below_holds high n small right = let below = leb-true n high right in lt-ltb n 256 (omega arith)

pub byte_holds : (low high n : ℕ) → high < 256 → (nat_le low n && nat_le n high) ≡ true → one_byte n ≡ true
byte_holds low high n small right = below_holds high n small (and_parts _ _ right).1

-- bytes that were placed are those of the record
pub placed_as : (n size : ℕ) (holds : Bool) (bytes encoded before after : List ℕ) (r : Result ℕ Misfit) → Writes n true bytes before after r → bytes ≡ encoded → n ≡ size → holds ≡ true → Writes size holds encoded before after r
placed_as n size holds bytes encoded before after r told same long right =
    subst (λ h. Writes size h encoded before after r) (sym right) (subst (λ k. Writes k true encoded before after r) long (subst (λ l. Writes n true l before after r) same told))

-- lists of one length that are the same: so are the proofs of it
pub long_over : {A : Type 0} {xs ys : List A} (n : ℕ) (is : xs ≡ ys) (p : length xs ≡ n) (q : length ys ≡ n) → PathP (λ i. length (is i) ≡ n) p q
long_over n is p q = is_prop→PathP (λ j. length (is j) ≡ n) (λ j. ≡_prop coded_ℕ (length (is j)) n) p q
