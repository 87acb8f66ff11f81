-- A user in a body that has the byte OVERWRITE behind the number.
use Rattle.std.proofs.Common.{◌≡◌, ℕ, ◌-◌, ◌<◌, ◌≤◌, true, false, eqb, List, ◌∷◌, ◌++◌, length, get_or, take, drop, IfOk, Some, None, Ok, Err, Option, Result, sym, ap, ◌∙◌, arith}
use Rattle.std.specs.Result.{result_ok}
use Rattle.std.proofs.lemmas.List.{take_rest, length-drop, length-take, take_all, take-append-drop, drop-drop, drop_more}
use Rattle.std.proofs.lemmas.Bool.{true≢false, and_parts}
use Rattle.tables.specs.declared.entry.Entry.{Entry}
use Rattle.records.specs.declared.record.Misfit.{Misfit}
use Rattle.records.specs.declared.record.Misfit.TheVariants.{Size, Range}
use Rattle.records.specs.declared.user.User.{User}
use Rattle.records.specs.Codec.{Reads}
use Rattle.records.specs.Users.{four, user_bytes, user_ranges, user_may_have}
use Rattle.records.specs.UserBytes as user
use Rattle.orders.specs.declared.order.NewUser.{NewUser}
use Rattle.orders.specs.Fields.{user_of}
use Rattle.orders.specs.Frames.{overwrite_byte}
use Rattle.orders.specs.Orders.{LiesBehind, FindsUser}
use Rattle.orders.specs.Readings.{UserRead}
use Rattle.orders.specs.declared.refusal.Refusal.TheVariants as refusal
use Rattle.orders.specs.Refusals.{refused_as}
use Rattle.orders.proofs.Counting.{misfit_told}

overwrite_back : (b : ℕ) → b ≤ 1 → overwrite_byte (eqb b 1) ≡ b
overwrite_back b small = grind arith

-- the bytes of the number, and those behind it: OVERWRITE and the rest
module _ (last : ℕ) (body front behind : List ℕ) (n : ℕ) (front_is : front ≡ take 4 body) (behind_is : behind ≡ drop 4 body) (name : four n ≡ front) where
  abbrev rest : List ℕ
  rest = take (length behind - 1) (drop 1 behind)

  rest_is : rest ≡ drop 5 body
  rest_is = take_rest behind 1 ∙ ap (drop 1) behind_is ∙ drop-drop 1 4 body

  pub user_found : (e : Entry User) → 0 < length behind → get_or behind 0 0 ≤ 1 → user_bytes e ≡ four n ++ rest → e.number ≡ n → user_may_have last e.number ≡ true → UserRead last body (record { number = n; overwrite = eqb (get_or behind 0 0) 1; rest = 5 })
  user_found e some small read number named =
      let tail = ap (drop 4) read in
      let over = overwrite_back (get_or behind 0 0) small in
      let few : length (drop 5 body) ≤ 80 = omega (arith, user.sized e, ap length read, ap length rest_is) in
      let whole : get_or behind 0 0 ∷ drop 1 behind ≡ behind = sym (drop_more behind 0 0 some) in
      record {
        entry = e;
        lies = (number, tail ∙ rest_is ∙ sym (take_all 80 (drop 5 body) few));
        bytes = (λ i. (ap four number ∙ name ∙ front_is) i ++ (over i ∷ (tail ∙ take_rest behind 1) i)) ∙ ap (λ l. take 4 body ++ l) (whole ∙ behind_is) ∙ take-append-drop 4 body;
        right = named;
      }

  pub user_not_found : (m : Misfit) → Reads 84 user_bytes (user_ranges last) (four n ++ rest) (Err m) → length body ≡ 85 → (refused_as m ≡ refusal.Range) × (user_ranges last (user_of body) ≡ false)
  user_not_found m read long =
      let size = length-drop 5 body in
      let told = misfit_told 84 user_bytes (user_ranges last) (four n ++ rest) m read (omega (arith, size, ap length rest_is)) in
      (told.0, ap (user_ranges last) (λ i. (sym front_is ∙ sym name) i ++ sym rest_is i) ∙ told.1)

-- ---- the user of an order, of the bytes beside it

pub user_at : (last : ℕ) (u : NewUser) (bs rest : List ℕ) (r : Result (Entry User) Misfit) → rest ≡ take 80 (drop u.rest bs) → length rest ≡ 80 → Reads 84 user_bytes (user_ranges last) (four u.number ++ rest) r → IfOk r (λ e. e.number ≡ u.number) → IfOk r (λ e. user_may_have last e.number ≡ true) → FindsUser last u bs (result_ok r)
user_at last u bs rest (Ok e) is long read number named = ((number, ap (drop 4) read.0 ∙ is), named)
user_at last u bs rest (Err Size) is long read number named = absurd (read (omega arith))
user_at last u bs rest (Err Range) is long read number named = λ _. ap (λ l. user_ranges last (four u.number ++ l)) (sym is) ∙ read.1

behind_is : (u : NewUser) (bs : List ℕ) (e : Entry User) → LiesBehind u bs e → user_bytes e ≡ four u.number ++ take 80 (drop u.rest bs)
behind_is u bs e lies = λ i. four (lies.0 i) ++ lies.1 i

pub user_all : (last : ℕ) (u : NewUser) (bs : List ℕ) (r : Option (Entry User)) → FindsUser last u bs r → (e : Entry User) → LiesBehind u bs e → user_may_have last e.number ≡ true → r ≡ Some e
user_all last u bs (Some f) found e lies right =
    ap (λ x. Some x) (user.apart f e (and_parts _ _ found.1).1 (and_parts _ _ right).1 (behind_is u bs f found.0 ∙ sym (behind_is u bs e lies)))
user_all last u bs None found e lies right =
    let long = ap length lies.1 ∙ length-take 80 (drop u.rest bs) in
    let whole = user.sized e in
    let left = length-drop u.rest bs in
    absurd (true≢false (sym (ap (user_ranges last) (sym (behind_is u bs e lies)) ∙ user.ranges_right last e right) ∙ found (omega (arith, long, whole, left))))
