-- A frame that comes byte by byte.
use Rattle.std.proofs.Common.{◌≡◌, ℕ, ◌+◌, ◌-◌, ◌<◌, ◌≤◌, cond, eqb, List, [], ◌∷◌, ◌++◌, length, get_or, take, drop, sym, refl, ap, ◌∙◌, ⊎_elim, arith}
use Rattle.std.specs.Int.Digits.{number_from_digits}
use Rattle.std.specs.List.{AllByRecursion}
use Rattle.std.proofs.lemmas.List.{append-nil, append_assoc, length-append, length-drop, take-append-le, drop-append-le}
use Rattle.std.proofs.lemmas.Bool.{eq-eqb, ne_eqb, cases_lt}
use Rattle.std.proofs.lemmas.Bool.Decides.{nat_tests}
use Rattle.line.specs.Frame.{Whole, shortest, longest, frame_length, frame_tid}
use Rattle.line.specs.Rule.{Heard, State, listening, holding, kept, judged, hears, after_byte, goes_on, one_more}
use Rattle.line.specs.Laws.{ReadyAtLastByte, PassedOver, hears_all, all_bytes}
use Rattle.line.proofs.Hearing.{same_heard, hears_none, hears_more}

-- ---- judging

judged_few : (tid : ℕ) (v : List ℕ) → length v < 6 → judged tid v ≡ listening v
judged_few tid v few = grind (arith, nat_tests)

judged_short : (tid : ℕ) (v : List ℕ) → 6 ≤ length v → shortest ≤ frame_length v → frame_length v ≤ longest → length v < frame_length v → judged tid v ≡ listening v
judged_short tid v enough low high short = grind (arith, nat_tests)

judged_whole : (tid : ℕ) (v : List ℕ) → 6 ≤ length v → shortest ≤ frame_length v → frame_length v ≤ longest → frame_length v ≤ length v → judged tid v ≡ cond (eqb (frame_tid v) tid) (holding v) (listening [])
judged_whole tid v enough low high long = grind (arith, nat_tests)

-- ---- LENGTH is settled with the sixth byte

pub length_settled : (v r : List ℕ) → 6 ≤ length v → frame_length (v ++ r) ≡ frame_length v
length_settled v r enough =
    ap (λ l. number_from_digits 256 (take 4 l)) (drop-append-le 2 v r (omega arith)) ∙ ap (number_from_digits 256) (take-append-le 4 (drop 2 v) r (omega (arith, length-drop 2 v)))

-- ---- one byte more of a frame

module _ (tid other : ℕ) (f : List ℕ) (w : Whole other f) where
  keeps : (u : List ℕ) (b : ℕ) (r : List ℕ) → u ++ b ∷ r ≡ f → kept u b ≡ u ++ b ∷ []
  keeps [] b r is = let first : b ≡ 7 = ap (λ l. get_or l 0 0) is ∙ w.first in grind (arith, nat_tests)
  keeps (a ∷ []) b r is = let second : b ≡ 3 = ap (λ l. get_or l 1 0) is ∙ w.second in grind (arith, nat_tests)
  keeps (a ∷ c ∷ u) b r is = refl

  -- another byte is still to come
  grows : (u : List ℕ) (b : ℕ) (r : List ℕ) → u ++ b ∷ r ≡ f → 0 < length r → after_byte tid u b ≡ listening (u ++ b ∷ [])
  grows u b r is more =
      let v = u ++ b ∷ [] in
      let split : v ++ r ≡ f = append_assoc u (b ∷ []) r ∙ is in
      let long : length v + length r ≡ length f = sym (length-append v r) ∙ ap length split in
      ap (judged tid) (keeps u b r is) ∙ ⊎_elim (judged_few tid v) (λ enough.
      let told : frame_length v ≡ length f = sym (length_settled v r enough) ∙ ap frame_length split ∙ w.right_length in
      judged_short tid v enough (omega (arith, w.long_enough)) (omega (arith, w.short_enough)) (omega arith)) (cases_lt (length v) 6)

  -- this is the last byte
  ends : (u : List ℕ) (b : ℕ) → u ++ b ∷ [] ≡ f → after_byte tid u b ≡ cond (eqb (frame_tid f) tid) (holding f) (listening [])
  ends u b is =
      ap (judged tid) (keeps u b [] is ∙ is) ∙ judged_whole tid f (omega (arith, w.long_enough)) (omega (arith, w.right_length, w.long_enough)) (omega (arith, w.right_length, w.short_enough)) (omega (arith, w.right_length))

  -- a part of the frame, with more to come
  part_heard : (u p r : List ℕ) → u ++ (p ++ r) ≡ f → 0 < length r → hears tid u p ≡ record { taken = length p; state = listening (u ++ p) }
  part_heard u [] r is more = hears_none tid u ∙ same_heard refl (ap listening (sym (append-nil u)))
  part_heard u (b ∷ p) r is more =
      let rest : u ++ b ∷ [] ++ (p ++ r) ≡ f = append_assoc u (b ∷ []) (p ++ r) ∙ is in
      let longer = length-append p r in
      hears_more tid u b p ∙ ap (λ s. goes_on s (λ v. hears tid v p)) (grows u b (p ++ r) is (omega arith)) ∙ ap one_more (part_heard (u ++ b ∷ []) p r rest more) ∙ same_heard (omega arith) (ap listening (append_assoc u (b ∷ []) p))

  -- the part that ends the frame, whatever comes behind it
  end_heard : (u q behind : List ℕ) (s : State) → u ++ q ≡ f → 0 < length q → cond (eqb (frame_tid f) tid) (holding f) (listening []) ≡ s → hears tid u (q ++ behind) ≡ record { taken = length q + (goes_on s (λ v. hears tid v behind)).taken - 1; state = (goes_on s (λ v. hears tid v behind)).state }
  end_heard u [] behind s is some came = absurd (omega arith)
  end_heard u (b ∷ []) behind s is some came =
      hears_more tid u b behind ∙ ap (λ t. goes_on t (λ v. hears tid v behind)) (ends u b is ∙ came) ∙ same_heard (omega arith) refl
  end_heard u (b ∷ c ∷ q) behind s is some came =
      let rest : u ++ b ∷ [] ++ (c ∷ q) ≡ f = append_assoc u (b ∷ []) (c ∷ q) ∙ is in
      hears_more tid u b (c ∷ q ++ behind) ∙ ap (λ t. goes_on t (λ v. hears tid v (c ∷ q ++ behind))) (grows u b (c ∷ q) is (omega arith)) ∙ ap one_more (end_heard (u ++ b ∷ []) (c ∷ q) behind s rest (omega arith) came) ∙ same_heard (omega arith) refl

  -- the parts of the frame, with more to come
  parts_heard : (u : List ℕ) (pieces : List (List ℕ)) (q : List ℕ) → u ++ (all_bytes pieces ++ q) ≡ f → 0 < length q → hears_all tid (listening u) pieces ≡ listening (u ++ all_bytes pieces)
  parts_heard u [] q is more = ap listening (sym (append-nil u))
  parts_heard u (p ∷ pieces) q is more =
      let rest = all_bytes pieces in
      let after_p : u ++ (p ++ (rest ++ q)) ≡ f = ap (λ l. u ++ l) (sym (append_assoc p rest q)) ∙ is in
      let longer = length-append rest q in
      ap (λ (h : Heard). hears_all tid h.state pieces) (part_heard u p (rest ++ q) after_p (omega arith)) ∙ parts_heard (u ++ p) pieces q (append_assoc u p (rest ++ q) ∙ after_p) more ∙ ap listening (append_assoc u p rest)

pub ready_at_last_byte : (tid : ℕ) (f : List ℕ) → Whole tid f → ReadyAtLastByte tid f
ready_at_last_byte tid f w = record {
  not_before = λ pieces q is more. parts_heard tid tid f w [] pieces q is more;
  at_last = λ p q behind is some. end_heard tid tid f w p q behind (holding f) is some (ap (λ t. cond t (holding f) (listening [])) (eq-eqb (frame_tid f) tid w.right_tid)) ∙ same_heard (omega arith) refl;
}

pub other_passed_over : (tid other : ℕ) (f : List ℕ) → (other ≡ tid → ⊥) → Whole other f → PassedOver tid f
other_passed_over tid other f differs w =
    let no_tid : frame_tid f ≡ tid → ⊥ = λ same. differs (sym w.right_tid ∙ same) in
    let came : cond (eqb (frame_tid f) tid) (holding f) (listening []) ≡ listening [] = ap (λ t. cond t (holding f) (listening [])) (ne_eqb (frame_tid f) tid no_tid) in
    let none = hears_none tid [] in
    ap (hears tid []) (sym (append-nil f)) ∙ end_heard tid other f w [] f [] (listening []) refl (omega (arith, w.long_enough)) came ∙ same_heard (omega (arith, ap (λ (h : Heard). h.taken) none)) (ap (λ (h : Heard). h.state) none)

pub noise_passed_over : (tid : ℕ) (p : List ℕ) → AllByRecursion (λ b. b ≡ 7 → ⊥) p → PassedOver tid p
noise_passed_over tid [] none = hears_none tid []
noise_passed_over tid (b ∷ p) none =
    hears_more tid [] b p ∙ ap (λ s. goes_on s (λ v. hears tid v p)) (ap (judged tid) (ap (λ t. cond t (b ∷ []) []) (ne_eqb b 7 none.0))) ∙ ap one_more (noise_passed_over tid p none.1) ∙ same_heard (omega arith) refl
