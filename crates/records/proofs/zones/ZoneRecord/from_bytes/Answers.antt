use Rattle.std.proofs.Common.{rules, ◌≡◌, ◌∷◌, length, get_or, take, drop, sym, ap, ◌∙◌, arith}
use Rattle.std.specs.List.{flat_map}
use Rattle.std.proofs.lemmas.List.{take_all, drop_more}
use Rattle.records.specs.Zones.{sets_of}
use Rattle.records.proofs.Rows.{joined, of_lent}
use Rattle.records.proofs.zones.ZoneRecord.from_bytes.Goals as goal

pub returns-clause-read : goal.returns-clause-read
returns-clause-read c =
    let bs = c.in_ok-bytes.bytes.now in
    let long : length bs ≡ 25 = search rules in
    let rest = take 24 (drop 1 bs) in
    let whole = rw c.unwrap.ensures at c.as_array-2.ensures.cases in
    let made = of_lent _ _ c.each_ref.result c.map-rows.result c.unwrap.result.now c.each_ref.ensures.items (omega arith) c.map-rows.ensures.items (λ p s r q called. called.met) in
    let cut : flat_map sets_of c.map-rows.result ≡ rest = made ∙ ap (flat_map (λ x. x)) (whole.same ∙ c.as_chunks.ensures.front) ∙ joined 8 rest (grind arith) in
    let all : get_or bs 0 0 ∷ rest ≡ bs = ap (λ l. get_or bs 0 0 ∷ l) (take_all 24 (drop 1 bs) (grind arith)) ∙ sym (drop_more bs 0 0 (omega arith)) in
    search rules
