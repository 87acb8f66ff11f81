-- A line that has the beginning of a frame goes on to have one, or a whole frame, of the last bytes that came.
use Rattle.std.proofs.Common.{◌≡◌, ℕ, ◌+◌, ◌<◌, ◌≤◌, ◌⊎◌, inl, inr, true, eqb, ltb, List, [], ◌∷◌, ◌++◌, length, get_or, take, sym, refl, ap, ◌∙◌, subst, add-one, arith}
use Rattle.std.proofs.lemmas.List.{append-nil, append_assoc, length-append}
use Rattle.std.proofs.lemmas.Bool.{ltb-true, ltb-false, leb-true, eqb-true, and_parts, cond_both}
use Rattle.line.specs.Frame.{Whole, shortest, longest, frame_length, frame_tid}
use Rattle.line.specs.Rule.{State, listening, holding, kept, judged, length_in_range, hears, after_byte, goes_on}
use Rattle.line.specs.Laws.{Begun, FrameHeard}
use Rattle.line.proofs.Frames.{length_settled}

-- the bytes kept are the last of those that came, and begin as a frame does
record Kept (u : List ℕ) (b : ℕ) (v : List ℕ) : Type 0 where
  before : List ℕ
  last_bytes : before ++ v ≡ u ++ b ∷ []
  first : 0 < length v → get_or v 0 0 ≡ 7
  second : 1 < length v → get_or v 1 0 ≡ 3
  -- LENGTH's bytes are those of the longer u
  whole_before : 6 < length v → v ≡ u ++ b ∷ []

none_kept : (u : List ℕ) (b : ℕ) → Kept u b []
none_kept u b = record { before = u ++ b ∷ []; last_bytes = append-nil (u ++ b ∷ []); first = grind arith; second = grind arith; whole_before = grind arith }

anew_kept : (u : List ℕ) (b : ℕ) → eqb b 7 ≡ true → Kept u b (b ∷ [])
anew_kept u b is = record { before = u; last_bytes = refl; first = λ _. eqb-true b 7 is; second = grind arith; whole_before = grind arith }

keeps : (u : List ℕ) (b : ℕ) → Begun u → Kept u b (kept u b)
keeps [] b begun = cond_both _ _ _ (Kept [] b) (anew_kept [] b) (λ _. none_kept [] b)
keeps (a ∷ []) b begun =
    cond_both _ _ _ (Kept (a ∷ []) b) (anew_kept (a ∷ []) b) (λ _. cond_both _ _ _ (Kept (a ∷ []) b) (λ is. record { before = []; last_bytes = refl; first = λ _. begun.first (omega arith); second = λ _. eqb-true b 3 is; whole_before = grind arith }) (λ _. none_kept (a ∷ []) b))
keeps (a ∷ c ∷ u) b begun =
    record { before = []; last_bytes = refl; first = λ _. begun.first (omega arith); second = λ _. begun.second (omega arith); whole_before = λ _. refl }

-- what a line has is the end of what it had and the bytes that came
record LastOf (u bytes v : List ℕ) : Type 0 where
  before : List ℕ
  last_bytes : before ++ v ≡ u ++ bytes

abbrev Stands : ℕ → List ℕ → List ℕ → State → Type 0
Stands tid u bytes (listening v) = Begun v × LastOf u bytes v
Stands tid u bytes (holding f) = Whole tid f × LastOf u bytes f

not_begun : Begun []
not_begun = grind arith

-- bytes that begin as a frame does, too few to know LENGTH or fewer than it
begun_still : (v : List ℕ) → (0 < length v → get_or v 0 0 ≡ 7) → (1 < length v → get_or v 1 0 ≡ 3) → (length v < 6) ⊎ ((shortest ≤ frame_length v) × (frame_length v ≤ longest) × (length v < frame_length v)) → Begun v
begun_still v first second (inl few) = record { first = first; second = second; long_enough = grind arith; short_enough = grind arith; unfinished = grind arith }
begun_still v first second (inr less) = record { first = first; second = second; long_enough = λ _. less.0; short_enough = λ _. less.1; unfinished = λ _. less.2 }

-- a frame that is whole has just become so
whole_now : (tid : ℕ) (u v : List ℕ) (b : ℕ) → Begun u → Kept u b v → 6 ≤ length v → shortest ≤ frame_length v → frame_length v ≤ longest → frame_length v ≤ length v → frame_tid v ≡ tid → Whole tid v
whole_now tid u v b begun k enough low high long ours =
    let is = k.whole_before (omega arith) in
    let longer : length v ≡ length u + 1 = ap length is ∙ length-append u (b ∷ []) in
    let same : frame_length v ≡ frame_length u = ap frame_length is ∙ length_settled u (b ∷ []) (omega arith) in
    let right : frame_length v ≡ length v = omega (arith, begun.unfinished (omega arith)) in
    record { first = k.first (omega arith); second = k.second (omega arith); long_enough = omega arith; short_enough = omega arith; right_length = right; right_tid = ours }

-- what is made of the bytes kept
judged_stands : (tid : ℕ) (u v : List ℕ) (b : ℕ) → Begun u → Kept u b v → Stands tid u (b ∷ []) (judged tid v)
judged_stands tid u v b begun k =
    let last : LastOf u (b ∷ []) v = record { before = k.before; last_bytes = k.last_bytes } in
    let dropped : Stands tid u (b ∷ []) (listening []) = (not_begun, record { before = u ++ b ∷ []; last_bytes = append-nil (u ++ b ∷ []) }) in
    cond_both (ltb (length v) 6) _ _ (Stands tid u (b ∷ []))
    (λ few. (begun_still v k.first k.second (inl (ltb-true _ _ few)), last))
    (λ enough. cond_both (length_in_range v) _ _ (Stands tid u (b ∷ []))
    (λ in_range. let range = and_parts _ _ in_range in cond_both (ltb (length v) (frame_length v)) _ _ (Stands tid u (b ∷ []))
    (λ less. (begun_still v k.first k.second (inr (leb-true _ _ range.0, leb-true _ _ range.1, ltb-true _ _ less)), last))
    (λ long. cond_both (eqb (frame_tid v) tid) _ _ (Stands tid u (b ∷ []))
    (λ ours. (whole_now tid u v b begun k (ltb-false _ _ enough) (leb-true _ _ range.0) (leb-true _ _ range.1) (ltb-false _ _ long) (eqb-true _ _ ours), last))
    (λ _. dropped)))
    (λ _. dropped))

stands : (tid : ℕ) (u : List ℕ) (b : ℕ) → Begun u → Stands tid u (b ∷ []) (after_byte tid u b)
stands tid u b begun = judged_stands tid u (kept u b) b begun (keeps u b begun)

last_of_last : (u v w : List ℕ) (b : ℕ) (bytes : List ℕ) → LastOf u (b ∷ []) v → LastOf v bytes w → LastOf u (b ∷ bytes) w
last_of_last u v w b bytes l m = record {
  before = l.before ++ m.before;
  last_bytes = append_assoc l.before m.before w ∙ ap (λ x. l.before ++ x) m.last_bytes ∙ sym (append_assoc l.before v bytes) ∙ ap (λ x. x ++ bytes) l.last_bytes ∙ append_assoc u (b ∷ []) bytes;
}

carried : (tid : ℕ) (u v : List ℕ) (b : ℕ) (bytes : List ℕ) (s : State) → LastOf u (b ∷ []) v → Stands tid v bytes s → Stands tid u (b ∷ bytes) s
carried tid u v b bytes (listening w) l told = (told.0, last_of_last u v w b bytes l told.1)
carried tid u v b bytes (holding f) l told = (told.0, last_of_last u v f b bytes l told.1)

-- one byte, and then what is left of the piece
stands_on : (tid : ℕ) (u : List ℕ) (b : ℕ) (p : List ℕ) (s : State) → Stands tid u (b ∷ []) s → ((v : List ℕ) → Begun v → Stands tid v (take (hears tid v p).taken p) (hears tid v p).state) → Stands tid u (take (goes_on s (λ v. hears tid v p)).taken (b ∷ p)) (goes_on s (λ v. hears tid v p)).state
stands_on tid u b p (listening v) now_stands rest =
    let n = (hears tid v p).taken in
    subst (λ bytes. Stands tid u bytes (hears tid v p).state) (sym (ap (λ k. take k (b ∷ p)) (add-one n))) (carried tid u v b (take n p) (hears tid v p).state now_stands.1 (rest v now_stands.0))
stands_on tid u b p (holding f) now_stands rest = now_stands

all_stands : (tid : ℕ) (u p : List ℕ) → Begun u → Stands tid u (take (hears tid u p).taken p) (hears tid u p).state
unfolding hears
all_stands tid u [] begun = (begun, record { before = []; last_bytes = sym (append-nil u) })
all_stands tid u (b ∷ p) begun = stands_on tid u b p (after_byte tid u b) (stands tid u b begun) (λ v. all_stands tid v p)

pub still_begun : (tid : ℕ) (u p v : List ℕ) → Begun u → (hears tid u p).state ≡ listening v → Begun v
still_begun tid u p v begun is = (subst (Stands tid u (take (hears tid u p).taken p)) is (all_stands tid u p begun)).0

pub only_frames : (tid : ℕ) (u p f : List ℕ) → Begun u → (hears tid u p).state ≡ holding f → FrameHeard tid u p f
only_frames tid u p f begun is =
    let told = subst (Stands tid u (take (hears tid u p).taken p)) is (all_stands tid u p begun) in
    record { whole = told.0; before = told.1.before; last_bytes = told.1.last_bytes }
