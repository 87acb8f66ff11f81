-- A search by halves among records that climb.
use Rattle.std.specs.Prelude.{◌≡◌, ℕ, zero, suc, ◌+◌, ◌-◌, ◌<◌, ◌≤◌, List, length, slice_index_or}
use Rattle.std.proofs.Common.{ap, ⊎_elim, arith}
use Rattle.std.proofs.lemmas.List.{get_or_read}
use Rattle.std.proofs.lemmas.Bool.{cases_eq}
use Rattle.tables.specs.Order.{Climbs}

module _ {R : Type 0} (rank : R → ℕ) where
  -- n steps on
  steps_on : (xs : List R) → Climbs rank xs → (i n : ℕ) (d : R) → i + suc n < length xs → rank (slice_index_or xs i d) < rank (slice_index_or xs (i + suc n) d)
  steps_on xs climbs i zero d less = let e : i + 1 ≡ i + suc zero = omega arith in rw (← e) (climbs i d (omega arith))
  steps_on xs climbs i (suc n) d less =
      let before = steps_on xs climbs i n d (omega arith) in
      let step = climbs (i + suc n) d (omega arith) in
      let at : rank (slice_index_or xs (i + suc n + 1) d) ≡ rank (slice_index_or xs (i + suc (suc n)) d) = ap (λ (j : ℕ). rank (slice_index_or xs j d)) (omega arith) in
      omega arith

  -- what climbs step by step climbs from any place to any higher one
  pub climbs_far : (xs : List R) → Climbs rank xs → (i j : ℕ) (d : R) → i < j → j < length xs → rank (slice_index_or xs i d) < rank (slice_index_or xs j d)
  climbs_far xs climbs i j d h less =
      let e : i + suc (j - i - 1) ≡ j = omega arith in
      rw e at (steps_on xs climbs i (j - i - 1) d (omega arith))

module _ {R : Type 0} (rank : R → ℕ) (k : ℕ) (xs : List R) where
  -- all below `low` stand before k, and all from `high` on behind it
  abbrev pub Narrowed : ℕ → ℕ → Type 0
  Narrowed low high = ((j : ℕ) (d : R) → j < low → rank (slice_index_or xs j d) < k) × ((j : ℕ) (d : R) → high ≤ j → j < length xs → k < rank (slice_index_or xs j d))

  pub rank_read : (i : ℕ) (x d : R) → i < length xs → x ≡ slice_index_or xs i x → rank x ≡ rank (slice_index_or xs i d)
  rank_read i x d less is = ap rank (get_or_read xs i x less is d)

  pub narrow_up : (low high mid : ℕ) (x : R) → Climbs rank xs → Narrowed low high → mid < length xs → x ≡ slice_index_or xs mid x → rank x < k → Narrowed (mid + 1) high
  narrow_up low high mid x climbs narrow less is before = (
    λ j d h.
        let here = rank_read mid x d less is in
        ⊎_elim
        (λ (q : j ≡ mid). let at = ap (λ (i : ℕ). rank (slice_index_or xs i d)) q in omega arith)
        (λ (q : j ≡ mid → ⊥). let up = climbs_far rank xs climbs j mid d (omega arith) less in omega arith)
        (cases_eq j mid),
    narrow.1,
  )

  pub narrow_down : (low high mid : ℕ) (x : R) → Climbs rank xs → Narrowed low high → mid < length xs → x ≡ slice_index_or xs mid x → k < rank x → Narrowed low mid
  narrow_down low high mid x climbs narrow less is behind = (
    narrow.0,
    λ j d h within.
        let here = rank_read mid x d less is in
        ⊎_elim
        (λ (q : j ≡ mid). let at = ap (λ (i : ℕ). rank (slice_index_or xs i d)) q in omega arith)
        (λ (q : j ≡ mid → ⊥). let up = climbs_far rank xs climbs mid j d (omega arith) within in omega arith)
        (cases_eq j mid),
  )
