-- The bytes of a zone.
use Rattle.std.specs.Prelude.{◌≡◌, ℕ, ◌+◌, ◌*◌, ◌<◌, ◌≤◌, List, [], ◌∷◌, ◌++◌, length, take, drop, slice_index, slice_index_or, refl}
use Rattle.std.proofs.Common.{sym, ap, ◌∙◌, arith}
use borrow.Rule.Slice.PartMut.{put_mid}
use Rattle.std.specs.List.{flat_map}
use Rattle.std.proofs.lemmas.List.{length-append, take_at, drop_at, drop_more, drop-drop, drop_all, take-append-drop, take_more, flat_map_more}
use Rattle.std.proofs.lemmas.Slice.{take-put_mid}
use Rattle.tables.specs.declared.entry.Entry.{Entry}
use Rattle.records.specs.Bytes.{long_over}
use Rattle.records.specs.declared.row.Row.{Row}
use Rattle.records.specs.declared.zone.Zone.{Zone}
use Rattle.records.specs.Zones.{sets_of, zone_bytes}

-- ---- three bytes at a place

pub three_at : (bs : List ℕ) (i : ℕ) → i + 2 < length bs → slice_index bs i ∷ slice_index bs (i + 1) ∷ slice_index bs (i + 2) ∷ [] ≡ take 3 (drop i bs)
three_at bs i within =
    let third : i + 1 + 1 ≡ i + 2 = omega arith in
    let one = drop_more bs i 0 (omega arith) in
    let two = drop_more bs (i + 1) 0 (omega arith) ∙ ap (λ k. slice_index bs (i + 1) ∷ drop k bs) third in
    let three = drop_more bs (i + 2) 0 within in
    sym (ap (take 3) (one ∙ ap (λ l. slice_index bs i ∷ l) (two ∙ ap (λ l. slice_index bs (i + 1) ∷ l) three)))

-- ---- rows are joined to bytes

pub joined_length : (rows : List Row) → length (flat_map sets_of rows) ≡ 3 * length rows
joined_length [] = refl
joined_length (r ∷ rows) = omega (arith, length-append r.sets (flat_map sets_of rows), r.three, joined_length rows)

pub sized : (e : Entry Zone) → length (zone_bytes e) ≡ 25
sized e = omega (arith, joined_length e.body.rows, e.body.eight)

-- ---- bytes are cut to rows

-- each row has the three bytes at its place, from `at` on
abbrev pub Cut : ℕ → List Row → List ℕ → Type 0
Cut at [] bs = Unit {0}
Cut at (r ∷ rows) bs = (r.sets ≡ take 3 (drop at bs)) × Cut (at + 3) rows bs

pub cut_rows : (at : ℕ) (rows : List Row) (bs : List ℕ) → Cut at rows bs → length bs ≡ at + 3 * length rows → flat_map sets_of rows ≡ drop at bs
cut_rows at [] bs cut long = sym (drop_all at bs (omega arith))
cut_rows at (r ∷ rows) bs cut long =
    (λ i. cut.0 i ++ cut_rows (at + 3) rows bs cut.1 (omega arith) i) ∙ ap (λ l. take 3 (drop at bs) ++ l) (sym (drop-drop 3 at bs)) ∙ take-append-drop 3 (drop at bs)

pub whole_rows : (rows : List Row) (bs : List ℕ) → Cut 1 rows bs → length bs ≡ 1 + 3 * length rows → slice_index bs 0 ∷ flat_map sets_of rows ≡ bs
whole_rows rows bs cut long = ap (λ l. slice_index bs 0 ∷ l) (cut_rows 1 rows bs cut long) ∙ sym (drop_more bs 0 0 (omega arith))

-- ---- no two zones have the same bytes

same_row : (r s : Row) → r.sets ≡ s.sets → r ≡ s
same_row r s p = λ i. record { sets = p i; three = long_over 3 p r.three s.three i }

same_rows : (rs ss : List Row) → length rs ≡ length ss → flat_map sets_of rs ≡ flat_map sets_of ss → rs ≡ ss
same_rows [] [] many is = refl
same_rows [] (s ∷ ss) many is = absurd (omega arith)
same_rows (r ∷ rs) [] many is = absurd (omega arith)
same_rows (r ∷ rs) (s ∷ ss) many is =
    let first = sym (take_at r.sets (flat_map sets_of rs) 3 r.three) ∙ ap (take 3) is ∙ take_at s.sets (flat_map sets_of ss) 3 s.three in
    let rest = sym (drop_at r.sets (flat_map sets_of rs) 3 r.three) ∙ ap (drop 3) is ∙ drop_at s.sets (flat_map sets_of ss) 3 s.three in
    λ i. same_row r s first i ∷ same_rows rs ss (omega arith) rest i

pub apart : (e f : Entry Zone) → zone_bytes e ≡ zone_bytes f → e ≡ f
apart e f is =
    let rows = same_rows e.body.rows f.body.rows (e.body.eight ∙ sym f.body.eight) (ap (drop 1) is) in
    λ i. record {
      number = slice_index (is i) 0;
      body = record { rows = rows i; eight = long_over 8 rows e.body.eight f.body.eight i };
    }

-- ---- one row more is copied

pub copied_more : (rows : List Row) (out : List ℕ) (i at k : ℕ) (r : Row) (ys : List ℕ) → ys ≡ r.sets → i < length rows → r ≡ slice_index_or rows i r → take at out ≡ flat_map sets_of (take i rows) → at ≤ length out → take (at + 3) (put_mid at k out ys) ≡ flat_map sets_of (take (i + 1) rows)
copied_more rows out i at k r ys same within is so_far room =
    let three = ap length same ∙ r.three in
    take-put_mid at k out ys (at + 3) (ap (λ n. at + n) (sym three)) room ∙ (λ j. so_far j ++ same j) ∙ flat_map_more sets_of [] (take i rows) r ∙ ap (flat_map sets_of) (ap (λ x. take i rows ++ x ∷ []) is ∙ sym (take_more rows i r within))
