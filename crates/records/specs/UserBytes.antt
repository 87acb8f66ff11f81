-- The bytes of a user.
use Rattle.std.specs.Prelude.{◌≡◌, ℕ, ◌+◌, ◌*◌, ◌/◌, ◌%◌, ◌^◌, ◌<◌, ◌≤◌, true, false, ◌&&◌, List, [], ◌∷◌, ◌++◌, length, take, drop, nat_le, slice_index, slice_index_or, refl}
use Rattle.std.proofs.Common.{sym, ap, subst, ◌∙◌, arith, ⊎_elim}
use mathlib.Core.HLevel.{is_prop→PathP}
use Rattle.std.proofs.Math.Bridge.{le_prop}
use Rattle.std.proofs.Math.Nat.{div-div-eq-div-mul}
use Rattle.std.specs.Int.{w32, w64, from_be_bytes, to_be_bytes}
use Rattle.std.specs.Int.Digits.{number_from_digits as number}
use Rattle.std.specs.List.{between}
use Rattle.std.proofs.lemmas.Nat.{be_bytes_4, from_be_bytes-to_be_bytes_4, from_be_bytes-to_be_bytes_8}
use Rattle.std.proofs.lemmas.List.{length-append, length-drop, take-append-drop, drop-drop, drop_more, take_all, take_at, drop_at, get_or-take, get_or-drop, get_or_past, length-take}
use Rattle.std.proofs.lemmas.Bool.{cases_lt, ltb-true, le-leb, lt-leb, and_from, and_parts, and_left, and_right}
use Rattle.records.specs.Bytes.{four_bytes, long_over}
use Rattle.tables.specs.declared.entry.Entry.{Entry}
use Rattle.records.specs.declared.user.Status.{Status}
use Rattle.records.specs.declared.user.Status.TheVariants.{Off, Active}
use Rattle.records.specs.declared.user.User.{User}
use Rattle.records.specs.Users.{four, card_bytes, status_byte, user_bytes, rest_ranges, user_ranges, user_number, four_bytes_hold}
use Rattle.records.specs.Windows.{window_bytes, window_ranges}
use Rattle.records.specs.WindowBytes.{window_sized, window_apart, window_right}

-- each byte of a part is a byte
pub part_byte : (bs : List ℕ) (at n : ℕ) → ((i : ℕ) → slice_index bs i < 256) → (i : ℕ) → slice_index (take n (drop at bs)) i < 256
part_byte bs at n bytes i =
    ⊎_elim (λ within. subst (λ b. b < 256) (sym (get_or-take n (drop at bs) i 0 within ∙ get_or-drop at bs i 0)) (bytes (at + i)))
    (λ past. subst (λ b. b < 256) (sym (get_or_past (take n (drop at bs)) i 0 (omega (arith, length-take n (drop at bs))))) (omega arith)) (cases_lt i n)

-- ---- numbers of four bytes and of eight

four_digits : (a b c d : ℕ) → number 256 (a ∷ b ∷ c ∷ d ∷ []) ≡ from_be_bytes w32 (a ∷ b ∷ c ∷ d ∷ [])
four_digits a b c d = omega arith

eight_digits : (a b c d e f g h : ℕ) → number 256 (a ∷ b ∷ c ∷ d ∷ e ∷ f ∷ g ∷ h ∷ []) ≡ from_be_bytes w64 (a ∷ b ∷ c ∷ d ∷ e ∷ f ∷ g ∷ h ∷ [])
eight_digits a b c d e f g h = omega arith

pub four_back : (bs : List ℕ) → length bs ≡ 4 → ((i : ℕ) → slice_index bs i < 256) → four (number 256 bs) ≡ bs
four_back bs long bytes = be_bytes_4 bs (number 256 bs) long bytes (ap (number 256) (sym (four_bytes bs long)) ∙ four_digits _ _ _ _)

pub number_back : (n : ℕ) → n < 4294967296 → number 256 (four n) ≡ n
number_back n small = four_digits _ _ _ _ ∙ from_be_bytes-to_be_bytes_4 n small

pub card_back : (bs : List ℕ) (high low : ℕ) → length bs ≡ 8 → four high ≡ take 4 bs → four low ≡ take 4 (drop 4 bs) → low < 4294967296 → card_bytes (high * 4294967296 + low) ≡ bs
card_back bs high low long h l small =
    let upper : (high * 4294967296 + low) / 4294967296 ≡ high = omega arith in
    let lower : (high * 4294967296 + low) % 4294967296 ≡ low = omega arith in
    (λ i. four (upper i) ++ four (lower i)) ∙ (λ i. h i ++ l i) ∙ ap (λ r. take 4 bs ++ r) (take_all 4 (drop 4 bs) (omega (arith, length-drop 4 bs))) ∙ take-append-drop 4 bs

-- a card byte by byte, and by its two halves
pub card_is : (c : ℕ) → to_be_bytes w64 c ≡ card_bytes c
card_is c =
    let high = c / 4294967296 in
    let a : c / 72057594037927936 ≡ high / 16777216 = sym (div-div-eq-div-mul c 4294967296 16777216) in
    let b : c / 281474976710656 ≡ high / 65536 = sym (div-div-eq-div-mul c 4294967296 65536) in
    let d : c / 1099511627776 ≡ high / 256 = sym (div-div-eq-div-mul c 4294967296 256) in
    let e : c / 16777216 % 256 ≡ c % 4294967296 / 16777216 % 256 = omega arith in
    let f : c / 65536 % 256 ≡ c % 4294967296 / 65536 % 256 = omega arith in
    let g : c / 256 % 256 ≡ c % 4294967296 / 256 % 256 = omega arith in
    let h : c % 256 ≡ c % 4294967296 % 256 = omega arith in
    λ i. a i % 256 ∷ b i % 256 ∷ d i % 256 ∷ high % 256 ∷ e i ∷ f i ∷ g i ∷ h i ∷ []

pub card_number : (c : ℕ) → c < 2 ^ 64 → number 256 (card_bytes c) ≡ c
card_number c small = ap (number 256) (sym (card_is c)) ∙ eight_digits _ _ _ _ _ _ _ _ ∙ from_be_bytes-to_be_bytes_8 c small

pub same_card : (c d : ℕ) → c < 2 ^ 64 → d < 2 ^ 64 → card_bytes c ≡ card_bytes d → c ≡ d
same_card c d small small' is = sym (card_number c small) ∙ ap (number 256) is ∙ card_number d small'

-- ---- the parts of a user's bytes, and of those behind its number

cut_on : (bs : List ℕ) (n at next : ℕ) → at + n ≡ next → take n (drop at bs) ++ drop next bs ≡ drop at bs
cut_on bs n at next is = ap (λ l. take n (drop at bs) ++ l) (ap (λ k. drop k bs) (sym is) ∙ sym (drop-drop n at bs)) ∙ take-append-drop n (drop at bs)

one_on : (bs : List ℕ) (at next : ℕ) → at < length bs → at + 1 ≡ next → slice_index bs at ∷ drop next bs ≡ drop at bs
one_on bs at next within is = ap (λ k. slice_index bs at ∷ drop k bs) (sym is) ∙ sym (drop_more bs at 0 within)

pub user_cut : (bs : List ℕ) → length bs ≡ 84 → take 4 bs ++ (between 4 12 bs ++ (between 12 43 bs ++ (between 43 54 bs ++ (slice_index bs 54 ∷ slice_index bs 55 ∷ (between 56 60 bs ++ (slice_index bs 60 ∷ (between 61 69 bs ++ between 69 84 bs))))))) ≡ bs
user_cut bs long =
    let rest = length-drop 69 bs in
    let reserved : between 69 84 bs ≡ drop 69 bs = take_all 15 (drop 69 bs) (omega arith) in
    let password = ap (λ l. between 61 69 bs ++ l) reserved ∙ cut_on bs 8 61 69 refl in
    let bypass = ap (λ l. slice_index bs 60 ∷ l) password ∙ one_on bs 60 61 (omega arith) refl in
    let groups = ap (λ l. between 56 60 bs ++ l) bypass ∙ cut_on bs 4 56 60 refl in
    let kind = ap (λ l. slice_index bs 55 ∷ l) groups ∙ one_on bs 55 56 (omega arith) refl in
    let status = ap (λ l. slice_index bs 54 ∷ l) kind ∙ one_on bs 54 55 (omega arith) refl in
    let window = ap (λ l. between 43 54 bs ++ l) status ∙ cut_on bs 11 43 54 refl in
    let name = ap (λ l. between 12 43 bs ++ l) window ∙ cut_on bs 31 12 43 refl in
    let card = ap (λ l. between 4 12 bs ++ l) name ∙ cut_on bs 8 4 12 refl in
    ap (λ l. take 4 bs ++ l) card ∙ take-append-drop 4 bs

pub rest_cut : (bs : List ℕ) → length bs ≡ 80 → between 0 8 bs ++ (between 8 39 bs ++ (between 39 50 bs ++ (slice_index bs 50 ∷ slice_index bs 51 ∷ (between 52 56 bs ++ (slice_index bs 56 ∷ (between 57 65 bs ++ between 65 80 bs)))))) ≡ bs
rest_cut bs long =
    let rest = length-drop 65 bs in
    let reserved : between 65 80 bs ≡ drop 65 bs = take_all 15 (drop 65 bs) (omega arith) in
    let password = ap (λ l. between 57 65 bs ++ l) reserved ∙ cut_on bs 8 57 65 refl in
    let bypass = ap (λ l. slice_index bs 56 ∷ l) password ∙ one_on bs 56 57 (omega arith) refl in
    let groups = ap (λ l. between 52 56 bs ++ l) bypass ∙ cut_on bs 4 52 56 refl in
    let kind = ap (λ l. slice_index bs 51 ∷ l) groups ∙ one_on bs 51 52 (omega arith) refl in
    let status = ap (λ l. slice_index bs 50 ∷ l) kind ∙ one_on bs 50 51 (omega arith) refl in
    let window = ap (λ l. between 39 50 bs ++ l) status ∙ cut_on bs 11 39 50 refl in
    let name = ap (λ l. between 8 39 bs ++ l) window ∙ cut_on bs 31 8 39 refl in
    ap (λ l. between 0 8 bs ++ l) name ∙ take-append-drop 8 bs

-- ---- how many bytes a user has

pub sized : (e : Entry User) → length (user_bytes e) ≡ 84
sized e = let u = e.body in simp length-append (omega (arith, window_sized u.window, u.named, u.four, u.secret, u.rest))

-- ---- no two users have the same bytes

pub split_at : (p q p' q' : List ℕ) (n : ℕ) → length p ≡ n → length p' ≡ n → p ++ q ≡ p' ++ q' → (p ≡ p') × (q ≡ q')
split_at p q p' q' n long long' is = (sym (take_at p q n long) ∙ ap (take n) is ∙ take_at p' q' n long', sym (drop_at p q n long) ∙ ap (drop n) is ∙ drop_at p' q' n long')

same_status : (s t : Status) → status_byte s ≡ status_byte t → s ≡ t
same_status Off Off is = refl
same_status Off Active is = absurd (omega arith)
same_status Active Off is = absurd (omega arith)
same_status Active Active is = refl

-- the parts of two users with the same bytes
record Same (e f : Entry User) : Type 0 where
  number : e.number ≡ f.number
  card : e.body.card ≡ f.body.card
  name : e.body.name ≡ f.body.name
  window : e.body.window ≡ f.body.window
  status : e.body.status ≡ f.body.status
  kind : e.body.kind ≡ f.body.kind
  groups : e.body.groups ≡ f.body.groups
  bypass : e.body.bypass ≡ f.body.bypass
  password : e.body.password ≡ f.body.password
  reserved : e.body.reserved ≡ f.body.reserved

same_parts : (e f : Entry User) → e.number < 4294967296 → f.number < 4294967296 → user_bytes e ≡ user_bytes f → Same e f
same_parts e f small small' is =
    let u = e.body in
    let v = f.body in
    let name = split_at u.name _ v.name _ 31 u.named v.named (ap (drop 12) is) in
    let window = split_at (window_bytes u.window) _ (window_bytes v.window) _ 11 (window_sized u.window) (window_sized v.window) name.1 in
    let groups = split_at u.groups _ v.groups _ 4 u.four v.four (ap (drop 2) window.1) in
    let password = split_at u.password u.reserved v.password v.reserved 8 u.secret v.secret (ap (drop 1) groups.1) in
    record {
      number = sym (number_back e.number small) ∙ ap (λ l. number 256 (take 4 l)) is ∙ number_back f.number small';
      card = same_card u.card v.card u.eight v.eight (ap (λ l. take 8 (drop 4 l)) is);
      name = name.0;
      window = window_apart u.window v.window window.0;
      status = same_status u.status v.status (ap (λ l. slice_index l 0) window.1);
      kind = ap (λ l. slice_index l 1) window.1;
      groups = groups.0;
      bypass = ap (λ l. slice_index l 0) groups.1;
      password = password.0;
      reserved = password.1;
    }

pub apart : (e f : Entry User) → four_bytes_hold e.number ≡ true → four_bytes_hold f.number ≡ true → user_bytes e ≡ user_bytes f → e ≡ f
apart e f holds holds' is =
    let u = e.body in
    let v = f.body in
    let s = same_parts e f (ltb-true _ _ holds) (ltb-true _ _ holds') is in
    λ i. record {
      number = s.number i;
      body = record {
        card = s.card i;
        name = s.name i;
        window = s.window i;
        status = s.status i;
        kind = s.kind i;
        groups = s.groups i;
        bypass = s.bypass i;
        password = s.password i;
        reserved = s.reserved i;
        eight = is_prop→PathP (λ j. s.card j < 2 ^ 64) (λ j. le_prop) u.eight v.eight i;
        named = long_over 31 s.name u.named v.named i;
        kinds = is_prop→PathP (λ j. s.kind j ≤ 5) (λ j. le_prop) u.kinds v.kinds i;
        four = long_over 4 s.groups u.four v.four i;
        secret = long_over 8 s.password u.secret v.secret i;
        rest = long_over 15 s.reserved u.rest v.rest i;
      };
    }

-- ---- the fields of a user, each at its place in the bytes

behind_name : (e : Entry User) → drop 43 (user_bytes e) ≡ window_bytes e.body.window ++ (status_byte e.body.status ∷ e.body.kind ∷ (e.body.groups ++ (e.body.bypass ∷ (e.body.password ++ e.body.reserved))))
behind_name e = sym (drop-drop 31 12 (user_bytes e)) ∙ drop_at e.body.name _ 31 e.body.named

behind_window : (e : Entry User) → drop 54 (user_bytes e) ≡ status_byte e.body.status ∷ e.body.kind ∷ (e.body.groups ++ (e.body.bypass ∷ (e.body.password ++ e.body.reserved)))
behind_window e = sym (drop-drop 11 43 (user_bytes e)) ∙ ap (drop 11) (behind_name e) ∙ drop_at (window_bytes e.body.window) _ 11 (window_sized e.body.window)

behind_groups : (e : Entry User) → drop 60 (user_bytes e) ≡ e.body.bypass ∷ (e.body.password ++ e.body.reserved)
behind_groups e = sym (drop-drop 6 54 (user_bytes e)) ∙ ap (drop 6) (behind_window e) ∙ drop_at e.body.groups _ 4 e.body.four

behind_password : (e : Entry User) → drop 69 (user_bytes e) ≡ e.body.reserved
behind_password e = sym (drop-drop 9 60 (user_bytes e)) ∙ ap (drop 9) (behind_groups e) ∙ drop_at e.body.password _ 8 e.body.secret

pub record Fields (e : Entry User) (bs : List ℕ) : Type 0 where
  pub card : number 256 (between 4 12 bs) ≡ e.body.card
  pub name : between 12 43 bs ≡ e.body.name
  pub window : between 43 54 bs ≡ window_bytes e.body.window
  pub status : slice_index_or bs 54 0 ≡ status_byte e.body.status
  pub kind : slice_index_or bs 55 0 ≡ e.body.kind
  pub groups : between 56 60 bs ≡ e.body.groups
  pub bypass : slice_index_or bs 60 0 ≡ e.body.bypass
  pub password : between 61 69 bs ≡ e.body.password
  pub reserved : between 69 84 bs ≡ e.body.reserved
  pub number : number 256 (between 0 4 bs) ≡ e.number

pub fields : (e : Entry User) → four_bytes_hold e.number ≡ true → Fields e (user_bytes e)
fields e holds =
    let u = e.body in
    let bs = user_bytes e in
    record {
      card = card_number u.card u.eight;
      name = take_at u.name _ 31 u.named;
      window = ap (take 11) (behind_name e) ∙ take_at (window_bytes u.window) _ 11 (window_sized u.window);
      status = sym (get_or-drop 54 bs 0 0) ∙ ap (λ l. slice_index l 0) (behind_window e);
      kind = sym (get_or-drop 54 bs 1 0) ∙ ap (λ l. slice_index l 1) (behind_window e);
      groups = ap (take 4) (sym (drop-drop 2 54 bs) ∙ ap (drop 2) (behind_window e)) ∙ take_at u.groups _ 4 u.four;
      bypass = sym (get_or-drop 60 bs 0 0) ∙ ap (λ l. slice_index l 0) (behind_groups e);
      password = ap (take 8) (sym (drop-drop 1 60 bs) ∙ ap (drop 1) (behind_groups e)) ∙ take_at u.password _ 8 u.secret;
      reserved = ap (take 15) (behind_password e) ∙ take_all 15 u.reserved (omega (arith, u.rest));
      number = number_back e.number (ltb-true _ _ holds);
    }

-- ---- the fields of a user are in range

status_right : (s : Status) → nat_le (status_byte s) 1 ≡ true
status_right Off = refl
status_right Active = refl

-- what is asked of the bytes behind the number, each at its place in the whole
rest_at : (bs : List ℕ) → rest_ranges (drop 4 bs) ≡ (window_ranges (between 43 54 bs) && (nat_le (slice_index bs 54) 1 && nat_le (slice_index bs 55) 5))
rest_at bs = λ i. window_ranges (take 11 (drop-drop 39 4 bs i)) && (nat_le (get_or-drop 4 bs 50 0 i) 1 && nat_le (get_or-drop 4 bs 51 0 i) 5)

pub ranges_from : (last : ℕ) (bs : List ℕ) (n status kind : ℕ) (window : List ℕ) → number 256 (between 0 4 bs) ≡ n → between 43 54 bs ≡ window → slice_index bs 54 ≡ status → slice_index bs 55 ≡ kind → user_number last n ≡ true → window_ranges window ≡ true → nat_le status 1 ≡ true → nat_le kind 5 ≡ true → user_ranges last bs ≡ true
ranges_from last bs n status kind window n_is w_is s_is k_is right right_w right_s right_k =
    and_from _ _ (ap (user_number last) n_is ∙ right)
    (rest_at bs ∙ and_from _ _ (ap window_ranges w_is ∙ right_w) (and_from _ _ (ap (λ b. nat_le b 1) s_is ∙ right_s) (ap (λ b. nat_le b 5) k_is ∙ right_k)))

pub ranges_right : (last : ℕ) (e : Entry User) → (user_number last e.number && four_bytes_hold e.number) ≡ true → user_ranges last (user_bytes e) ≡ true
ranges_right last e right =
    let u = e.body in
    let parts = and_parts _ _ right in
    let f = fields e parts.1 in
    ranges_from last (user_bytes e) e.number (status_byte u.status) u.kind (window_bytes u.window) f.number f.window f.status f.kind parts.0 (window_right u.window) (status_right u.status) (le-leb u.kind 5 u.kinds)

pub kind_wrong : (last : ℕ) (bs : List ℕ) → 5 < slice_index bs 55 → user_ranges last bs ≡ false
kind_wrong last bs wrong =
    and_right (user_number last (number 256 (between 0 4 bs))) _ (rest_at bs ∙ and_right (window_ranges (between 43 54 bs)) _ (and_right (nat_le (slice_index bs 54) 1) _ (lt-leb (slice_index bs 55) 5 wrong)))

pub window_wrong : (last : ℕ) (bs : List ℕ) → window_ranges (between 43 54 bs) ≡ false → user_ranges last bs ≡ false
window_wrong last bs wrong = and_right (user_number last (number 256 (between 0 4 bs))) _ (rest_at bs ∙ and_left (window_ranges (between 43 54 bs)) _ wrong)

pub status_wrong : (last : ℕ) (bs : List ℕ) → nat_le (slice_index bs 54) 1 ≡ false → user_ranges last bs ≡ false
status_wrong last bs wrong =
    and_right (user_number last (number 256 (between 0 4 bs))) _ (rest_at bs ∙ and_right (window_ranges (between 43 54 bs)) _ (and_left (nat_le (slice_index bs 54) 1) _ wrong))
