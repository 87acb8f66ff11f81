-- The bytes of a group.
use Rattle.std.specs.Prelude.{◌≡◌, ℕ, ◌+◌, ◌<◌, ◌≤◌, true, false, ◌&&◌, List, [], ◌∷◌, ◌++◌, length, drop, slice_index}
use Rattle.std.proofs.Common.{sym, ap, ◌∙◌, arith}
use Rattle.std.proofs.Math.Bool.{Bool-set}
use mathlib.Core.HLevel.{is_prop→PathP}
use Rattle.std.specs.List.{between}
use Rattle.std.proofs.lemmas.List.{length-append, take_at, get_or_at, drop_more, drop-drop, drop_all, take-append-drop}
use Rattle.std.proofs.lemmas.Bool.{and_from, le-leb, lt-leb}
use Rattle.tables.specs.declared.entry.Entry.{Entry}
use Rattle.records.specs.Bytes.{long_over}
use Rattle.records.specs.declared.group.Group.{Group}
use Rattle.records.specs.Named.{zones_named}
use Rattle.records.specs.Groups.{group_number, group_bytes, group_ranges}

pub sized : (e : Entry Group) → length (group_bytes e) ≡ 10
sized e = omega (arith, length-append e.body.zones (e.body.doors ∷ []), e.body.eight)

-- the zones stand between
pub zones_of : (e : Entry Group) → between 1 9 (group_bytes e) ≡ e.body.zones
zones_of e = take_at e.body.zones (e.body.doors ∷ []) 8 e.body.eight

pub ranges_right : (e : Entry Group) → group_number e.number ≡ true → group_ranges (group_bytes e) ≡ true
ranges_right e right = and_from _ _ right (ap zones_named (zones_of e) ∙ e.body.named)

pub doors_of : (e : Entry Group) → slice_index (group_bytes e) 9 ≡ e.body.doors
doors_of e = get_or_at e.body.zones e.body.doors [] 0 8 e.body.eight

pub apart : (e f : Entry Group) → group_bytes e ≡ group_bytes f → e ≡ f
apart e f is =
    let zones : e.body.zones ≡ f.body.zones = sym (zones_of e) ∙ ap (between 1 9) is ∙ zones_of f in
    let doors : e.body.doors ≡ f.body.doors = sym (doors_of e) ∙ ap (λ l. slice_index l 9) is ∙ doors_of f in
    λ i. record {
      number = slice_index (is i) 0;
      body = record {
        zones = zones i;
        doors = doors i;
        eight = long_over 8 zones e.body.eight f.body.eight i;
        named = is_prop→PathP (λ j. zones_named (zones j) ≡ true) (λ j. Bool-set (zones_named (zones j)) true) e.body.named f.body.named i;
      };
    }

-- ---- zone numbers, one after the other

pub zones_more : (zs : List ℕ) (i : ℕ) → i < length zs → slice_index zs i ≤ 120 → zones_named (drop i zs) ≡ zones_named (drop (i + 1) zs)
zones_more zs i within right =
    ap zones_named (drop_more zs i 0 within) ∙ ap (λ t. t && zones_named (drop (i + 1) zs)) (le-leb (slice_index zs i) 120 right)

pub zones_fail : (zs : List ℕ) (i : ℕ) → i < length zs → 120 < slice_index zs i → zones_named (drop i zs) ≡ false
zones_fail zs i within wrong =
    ap zones_named (drop_more zs i 0 within) ∙ ap (λ t. t && zones_named (drop (i + 1) zs)) (lt-leb (slice_index zs i) 120 wrong)

-- ---- ten bytes, as a group has them

pub ten_bytes : (bs : List ℕ) → length bs ≡ 10 → slice_index bs 0 ∷ (between 1 9 bs ++ (slice_index bs 9 ∷ [])) ≡ bs
ten_bytes bs ten =
    let first = drop_more bs 0 0 (omega arith) in
    let last : drop 8 (drop 1 bs) ≡ slice_index bs 9 ∷ [] = drop-drop 8 1 bs ∙ drop_more bs 9 0 (omega arith) ∙ ap (λ l. slice_index bs 9 ∷ l) (drop_all 10 bs (omega arith)) in
    ap (λ l. slice_index bs 0 ∷ (between 1 9 bs ++ l)) (sym last) ∙ ap (λ l. slice_index bs 0 ∷ l) (take-append-drop 8 (drop 1 bs)) ∙ sym first
