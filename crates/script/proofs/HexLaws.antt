-- What the loops of `hex` keep, and the laws of reading and printing.
use Rattle.std.proofs.Common.{◌≡◌, ℕ, zero, suc, ◌+◌, ◌*◌, ◌/◌, ◌%◌, ◌<◌, ◌≤◌, Bool, true, false, eqb, List, [], ◌∷◌, ◌++◌, length, get_or, take, drop, set, IsAscii, Some, None, Ok, Err, Option, Result, sym, refl, ap, subst, ◌∙◌, arith}
use Rattle.std.specs.Char.{to_ascii_uppercase}
use Rattle.std.specs.List.{AllByRecursion, flat_map}
use Rattle.std.proofs.Math.Seq.{take-length}
use Rattle.std.proofs.lemmas.List.{take_more, take_more_set, take_at, take-append-drop, length-set}
use Rattle.std.proofs.lemmas.Grind.{flat_map-append}
use Rattle.std.proofs.lemmas.Bool.Decides.{nat_tests}
use Rattle.script.specs.declared.hex.HexFault.{HexFault}
use Rattle.script.specs.Hex.{digit_of, figure_of, onto, turn, hex_from, hex_text, normal, ReadsPrinted, PrintsNormal, ReadsBytes}

-- a digit's value is below 16
abbrev pub Low : Option ℕ → Type 0
Low None = Unit {0}
Low (Some d) = d < 16

-- a figure is not a space, and is the digit of its value
pub figure_reads : (n : ℕ) → n < 16 → digit_of (figure_of n) ≡ Some n
figure_reads n h = grind (arith, nat_tests)

pub figure_ascii : (n : ℕ) → n < 16 → figure_of n < 128
figure_ascii n h = grind (arith, nat_tests)

-- bytes read before the others
abbrev pub after : List ℕ → Result (List ℕ) HexFault → Result (List ℕ) HexFault
after xs (Ok ys) = Ok (xs ++ ys)
after xs (Err e) = Err e

pub whole : (b : ℕ) → 16 * (b / 16) + b % 16 ≡ b
whole b = omega arith

pub reads_printed : ReadsPrinted
reads_printed [] h = refl
reads_printed (b ∷ bs) h =
    rw (figure_reads (b / 16) (omega arith), figure_reads (b % 16) (omega arith), whole b, reads_printed bs h.1)

-- a digit and its figure, and the text's normal form
pub figure_normal : (c d : ℕ) → digit_of c ≡ Some d → (figure_of d ≡ to_ascii_uppercase c) × (d < 16) × (eqb c 32 ≡ false)
figure_normal c d h = grind (arith, nat_tests)

-- after a first digit the text that is left begins with that digit's figure
abbrev pub shown : Option ℕ → List ℕ → List ℕ
shown None t = t
shown (Some high) t = figure_of high ∷ t

pub ok_onto : (b : ℕ) (r : Result (List ℕ) HexFault) (bs : List ℕ) → onto b r ≡ Ok bs → (rest : List ℕ) × (r ≡ Ok rest) × (bs ≡ b ∷ rest)
ok_onto b (Ok ys) bs e = (ys, refl, cc)
ok_onto b (Err x) bs e = cc

-- what is read of a text, after a first digit or none
record Read (first : Option ℕ) (t bs : List ℕ) : Type 0 where
  text : hex_text bs ≡ shown first (normal t)
  small : AllByRecursion (λ b. b < 256) bs

-- the byte of two digits, and its figures
two_figures : (high d : ℕ) → high < 16 → d < 16 → (figure_of ((16 * high + d) / 16) ≡ figure_of high) × (figure_of ((16 * high + d) % 16) ≡ figure_of d)
two_figures high d p q =
    let quotient : (16 * high + d) / 16 ≡ high = omega arith in
    let left : (16 * high + d) % 16 ≡ d = omega arith in
    (ap figure_of quotient, ap figure_of left)

-- a digit at the front of a text in its normal form
normal_digit : (c d : ℕ) (cs : List ℕ) → digit_of c ≡ Some d → normal (c ∷ cs) ≡ figure_of d ∷ normal cs
normal_digit c d cs h = let f = figure_normal c d h in rw (f.2, f.0)

normal_space : (c : ℕ) (cs : List ℕ) → eqb c 32 ≡ true → normal (c ∷ cs) ≡ normal cs
normal_space c cs h = rw h

module _ (c : ℕ) (cs : List ℕ) (rest : (first : Option ℕ) (bs : List ℕ) → Low first → hex_from first cs ≡ Ok bs → Read first cs bs) where
  turned : (first seen : Option ℕ) (space : Bool) (bs : List ℕ) → Low first → digit_of c ≡ seen → eqb c 32 ≡ space → turn first seen space (λ next. hex_from next cs) ≡ Ok bs → Read first (c ∷ cs) bs
  turned None (Some d) space bs low is blank e =
      let f = figure_normal c d is in
      let r = rest (Some d) bs f.1 e in
      record { text = r.text ∙ sym (normal_digit c d cs is); small = r.small }
  turned None None true bs low is blank e =
      let r = rest None bs tt e in
      record { text = r.text ∙ sym (normal_space c cs blank); small = r.small }
  turned None None false bs low is blank e = cc
  turned (Some high) (Some d) space bs low is blank e =
      let f = figure_normal c d is in
      let o = ok_onto (16 * high + d) (hex_from None cs) bs e in
      let r = rest None o.0 tt o.1 in
      let two = two_figures high d low f.1 in
      rw o.2 (record {
        text = rw (two.0, two.1, r.text, normal_digit c d cs is);
        small = (omega arith, r.small);
      })
  turned (Some high) None space bs low is blank e = cc

reads : (t : List ℕ) (first : Option ℕ) (bs : List ℕ) → Low first → hex_from first t ≡ Ok bs → Read first t bs
reads [] None bs low e = let none : bs ≡ [] = cc in rw none (record { text = refl; small = tt })
reads [] (Some high) bs low e = cc
reads (c ∷ cs) first bs low e = turned c cs (reads cs) first (digit_of c) (eqb c 32) bs low refl refl e

pub prints_normal : PrintsNormal
prints_normal t bs e = (reads t None bs tt e).text

pub reads_bytes : ReadsBytes
reads_bytes t bs e = (reads t None bs tt e).small

hex_text-append : (xs ys : List ℕ) → hex_text (xs ++ ys) ≡ hex_text xs ++ hex_text ys
hex_text-append [] ys = refl
hex_text-append (x ∷ xs) ys = ap (λ l. figure_of (x / 16) ∷ figure_of (x % 16) ∷ l) (hex_text-append xs ys)

-- one more byte printed
pub hex_more : (bs : List ℕ) (i : ℕ) → i < length bs → hex_text (take i bs) ++ hex_text (get_or bs i 0 ∷ []) ≡ hex_text (take (i + 1) bs)
hex_more bs i h = sym (ap hex_text (take_more bs i 0 h) ∙ hex_text-append (take i bs) (get_or bs i 0 ∷ []))

-- the digits of the first bytes of a piece, each pair in its place
pub record Laid (piece : List ℕ) (i : ℕ) (pairs : List (List ℕ)) : Type 0 where
  pub room : length pairs ≡ 16
  pub digits : flat_map (λ x. x) (take i pairs) ≡ hex_text (take i piece)
  pub ascii : IsAscii (hex_text (take i piece))

ascii_append : (xs ys : List ℕ) → IsAscii xs → IsAscii ys → IsAscii (xs ++ ys)
ascii_append [] ys left right i = right i
ascii_append (x ∷ xs) ys left right zero = left 0
ascii_append (x ∷ xs) ys left right (suc i) = ascii_append xs ys (λ k. left (suc k)) right i

byte_ascii : (b : ℕ) → b < 256 → IsAscii (hex_text (b ∷ []))
byte_ascii b small zero = figure_ascii (b / 16) (omega arith)
byte_ascii b small (suc zero) = figure_ascii (b % 16) (omega arith)
byte_ascii b small (suc (suc i)) = omega arith

pub laid_more : (piece : List ℕ) (i : ℕ) (pairs : List (List ℕ)) (pair : List ℕ) → Laid piece i pairs → i < length piece → length piece ≤ 16 → get_or piece i 0 < 256 → pair ≡ hex_text (get_or piece i 0 ∷ []) → Laid piece (i + 1) (set pairs i pair)
laid_more piece i pairs pair laid less short small is = record {
  room = length-set pairs i pair ∙ laid.room;
  digits =
      ap (flat_map (λ x. x)) (take_more_set pairs i pair (omega (arith, laid.room))) ∙ (flat_map-append (λ x. x) (take i pairs) (pair ∷ []) ∙ (ap (λ l. l ++ (pair ++ [])) laid.digits ∙ (ap (λ l. hex_text (take i piece) ++ (l ++ [])) is ∙ hex_more piece i less)));
  ascii = subst IsAscii (hex_more piece i less) (ascii_append (hex_text (take i piece)) (hex_text (get_or piece i 0 ∷ [])) laid.ascii (byte_ascii (get_or piece i 0) small));
}

hex_text-length : (bs : List ℕ) → length (hex_text bs) ≡ 2 * length bs
hex_text-length [] = refl
hex_text-length (b ∷ bs) = let more = hex_text-length bs in omega arith

-- a whole piece: its digits are the first of the room
pub laid_whole : (piece : List ℕ) (pairs : List (List ℕ)) → Laid piece (length piece) pairs → (take (2 * length piece) (flat_map (λ x. x) pairs) ≡ hex_text piece) × IsAscii (hex_text piece)
laid_whole piece pairs laid =
    let n = length piece in
    let whole : take n piece ≡ piece = take-length piece in
    let front : flat_map (λ x. x) (take n pairs) ≡ hex_text piece = laid.digits ∙ ap hex_text whole in
    let cut : flat_map (λ x. x) pairs ≡ flat_map (λ x. x) (take n pairs) ++ flat_map (λ x. x) (drop n pairs) = ap (flat_map (λ x. x)) (sym (take-append-drop n pairs)) ∙ flat_map-append (λ x. x) (take n pairs) (drop n pairs) in (
      ap (take (2 * n)) cut ∙ (take_at (flat_map (λ x. x) (take n pairs)) (flat_map (λ x. x) (drop n pairs)) (2 * n) (ap length front ∙ hex_text-length piece) ∙ front),
      subst IsAscii (ap hex_text whole) laid.ascii,
    )

-- one piece more printed
pub pieces_more : (done piece : List ℕ) → hex_text done ++ hex_text piece ≡ hex_text (done ++ piece)
pieces_more done piece = sym (hex_text-append done piece)
