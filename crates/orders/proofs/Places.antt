-- The records that lie at a place, one by one.
use Rattle.std.proofs.Common.{◌≡◌, ℕ, zero, suc, ◌+◌, ◌*◌, ◌<◌, ◌≤◌, Bool, true, List, [], ◌∷◌, ◌++◌, length, take, drop, Some, None, Option, sym, refl, ap, ◌∙◌, ⊎_elim, mul-le-mul_left, mul-zero, mul-suc, arith}
use Rattle.std.specs.List.{flat_map, AllByRecursion, slice_get}
use Rattle.std.proofs.lemmas.List.{append_assoc, length-drop, length-take, take_at, drop_at, drop-drop, take-append-drop}
use Rattle.std.proofs.lemmas.Option.{slice_get_past}
use Rattle.std.proofs.lemmas.Bool.{true≢false, cases_lt}
use Rattle.tables.specs.declared.entry.Entry.{Entry}
use Rattle.orders.proofs.Contents.{joined_sized}
use Rattle.orders.specs.declared.order.Place.{Place}
use Rattle.orders.specs.Orders.{Lies, record_bytes, Finds, FindsAll}

module _ {B : Type 0} (encoded : Entry B → List ℕ) (size : ℕ) (ranges : List ℕ → Bool) (numbers : ℕ → Bool) where
  module _ (sized : (e : Entry B) → length (encoded e) ≡ size) where
    -- the record of a turn among records that lie one behind the other
    turn_of : (P : Entry B → Type 0) (es : List (Entry B)) (rest : List ℕ) (k : ℕ) → k < length es → AllByRecursion P es → (e : Entry B) × (slice_get es k ≡ Some e) × (take size (drop (size * k) (flat_map encoded es ++ rest)) ≡ encoded e) × P e
    turn_of P [] rest k within all = absurd (omega arith)
    turn_of P (e ∷ es) rest zero within all =
        (e, refl, ap (λ n. take size (drop n ((encoded e ++ flat_map encoded es) ++ rest))) (mul-zero size) ∙ ap (take size) (append_assoc (encoded e) (flat_map encoded es) rest) ∙ take_at (encoded e) (flat_map encoded es ++ rest) size (sized e), all.0)
    turn_of P (e ∷ es) rest (suc k) within all =
        let on = turn_of P es rest k (omega arith) all.1 in
        let step : size * suc k ≡ size + size * k = omega (arith, mul-suc size k) in
        (on.0, on.1, ap (λ n. take size (drop n ((encoded e ++ flat_map encoded es) ++ rest))) step ∙ ap (take size) (sym (drop-drop (size * k) size ((encoded e ++ flat_map encoded es) ++ rest)) ∙ ap (λ l. drop (size * k) (drop size l)) (append_assoc (encoded e) (flat_map encoded es) rest) ∙ ap (drop (size * k)) (drop_at (encoded e) (flat_map encoded es ++ rest) size (sized e))) ∙ on.2, on.3)

    lies_at : (P : Entry B → Type 0) (p : Place) (bs : List ℕ) (k : ℕ) (es : List (Entry B)) → Lies encoded size p bs es → k < length es → AllByRecursion P es → (e : Entry B) × (slice_get es k ≡ Some e) × (record_bytes size p bs k ≡ encoded e) × P e
    lies_at P p bs k es lies within all =
        let behind = drop p.start bs in
        let n = size * p.count in
        let whole : flat_map encoded es ++ drop n behind ≡ behind = ap (λ l. l ++ drop n behind) lies.1 ∙ take-append-drop n behind in
        let at = turn_of P es (drop n behind) k within all in
        (at.0, at.1, ap (take size) (sym (drop-drop (size * k) p.start bs) ∙ ap (drop (size * k)) (sym whole)) ∙ at.2, at.3)

    -- and its bytes are all there
    room_at : (p : Place) (bs : List ℕ) (k : ℕ) (es : List (Entry B)) → 0 < size → Lies encoded size p bs es → k < length es → p.start + size * k + size ≤ length bs
    room_at p bs k es some lies within =
        let long = sym (joined_sized encoded size sized es) ∙ ap length lies.1 ∙ length-take (size * p.count) (drop p.start bs) in
        let left = length-drop p.start bs in
        let turns : size * suc k ≤ size * length es = mul-le-mul_left size (omega arith) in
        omega (arith, mul-suc size k)

    pub finds_all : (p : Place) (bs : List ℕ) (k : ℕ) (r : Option (Entry B)) → 0 < size → ((e : Entry B) → numbers e.number ≡ true → ranges (encoded e) ≡ true) → ((e f : Entry B) → numbers e.number ≡ true → numbers f.number ≡ true → encoded e ≡ encoded f → e ≡ f) → Finds encoded size ranges numbers p bs k r → FindsAll encoded size numbers p bs k r
    finds_all p bs k (Some e) some right apart found = λ es lies all.
        let at = lies_at (λ x. numbers x.number ≡ true) p bs k es lies (omega (arith, lies.0)) all in
        ap (λ x. Some x) (apart e at.0 found.3 at.3 (found.1 ∙ at.2)) ∙ sym at.1
    finds_all p bs k None some right apart found = λ es lies all.
        ⊎_elim (λ within.
        let at = lies_at (λ x. numbers x.number ≡ true) p bs k es lies within all in
        let wrong = found (omega (arith, lies.0)) (room_at p bs k es some lies within) in
        absurd (true≢false (sym (ap ranges at.2 ∙ right at.0 at.3) ∙ wrong)))
        (λ past. sym (slice_get_past es k past)) (cases_lt k (length es))
