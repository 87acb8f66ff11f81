-- What a command takes comes back from its bytes.
use Rattle.std.proofs.Common.{◌≡◌, ℕ, Bool, eqb, List, [], ◌∷◌, length, take, drop, Some, Ok, Err, Option, Result, refl, ap, ◌∙◌, arith}
use Rattle.std.specs.Option.{option_map}
use Rattle.std.specs.List.{flat_map}
use Rattle.std.proofs.lemmas.List.{take_at, drop_at}
use Rattle.std.proofs.lemmas.Bool.{and_parts}
use Rattle.tables.specs.declared.entry.Entry.{Entry}
use Rattle.records.specs.Decoding as records
use Rattle.records.specs.Decoding.{and_then}
use Rattle.records.specs.Groups.{group_bytes}
use Rattle.records.specs.Holidays.{holiday_bytes}
use Rattle.records.specs.TimeSets.{time_set_bytes}
use Rattle.records.specs.Zones.{zone_bytes}
use Rattle.records.specs.DecodingLemmas as back
use Rattle.records.specs.GroupBytes as group
use Rattle.records.specs.UserBytes as user
use Rattle.records.specs.ZoneBytes as zone
use Rattle.orders.specs.Decoding.{records_of, content_of, with_content, meaning_of_asked, meaning_of}
use Rattle.orders.specs.Frames.{overwrite_byte, content_bytes, ContentRight}
use Rattle.orders.specs.Meanings.{Takes, nothing, a_user_number, a_card, a_user, a_time_set_number, a_zone_number, a_group_number, a_holiday_number, time_sets, zones, groups, holidays, takes, Content, Meaning}
use Rattle.orders.specs.Readings.{Asks}
use Rattle.orders.specs.declared.refusal.Refusal.{Refusal}

all_back : {B : Type 0} (encoded : Entry B → List ℕ) (decoded : List ℕ → Option (Entry B)) (size : ℕ) → ((e : Entry B) → length (encoded e) ≡ size) → ((e : Entry B) → decoded (encoded e) ≡ Some e) → (es : List (Entry B)) → records_of decoded size (length es) (flat_map encoded es) ≡ Some es
all_back encoded decoded size sized one [] = refl
all_back encoded decoded size sized one (e ∷ es) =
    let first : decoded (take size (flat_map encoded (e ∷ es))) ≡ Some e = ap decoded (take_at (encoded e) (flat_map encoded es) size (sized e)) ∙ one e in
    let rest : records_of decoded size (length es) (drop size (flat_map encoded (e ∷ es))) ≡ Some es = ap (records_of decoded size (length es)) (drop_at (encoded e) (flat_map encoded es) size (sized e)) ∙ all_back encoded decoded size sized one es in
    ap (λ o. and_then o (λ x. and_then (records_of decoded size (length es) (drop size (flat_map encoded (e ∷ es)))) (λ xs. Some (x ∷ xs)))) first ∙ ap (λ o. and_then o (λ xs. Some (e ∷ xs))) rest

overwrite_again : (o : Bool) → eqb (overwrite_byte o) 1 ≡ o
overwrite_again o = grind arith

content_back : (last : ℕ) (t : Takes) (x : Content t) → ContentRight last t x → content_of t (content_bytes t x) ≡ Some x
content_back last nothing x right = refl
content_back last a_user_number n right = ap (λ k. Some k) (user.number_back n (omega arith))
content_back last a_card c right = ap (λ k. Some k) (user.card_number c right)
content_back last a_user x right =
    ap (option_map (λ e. (eqb (overwrite_byte x.0) 1, e))) (back.user_yes x.1 (and_parts _ _ right).1) ∙ ap (λ o. Some (o, x.1)) (overwrite_again x.0)
content_back last a_time_set_number n right = refl
content_back last a_zone_number n right = refl
content_back last a_group_number n right = refl
content_back last a_holiday_number n right = refl
content_back last time_sets es right = all_back time_set_bytes records.time_set_of 5 (λ e. refl) back.time_set_yes es
content_back last zones es right = all_back zone_bytes records.zone_of 25 zone.sized back.zone_yes es
content_back last groups es right = all_back group_bytes records.group_of 10 group.sized back.group_yes es
content_back last holidays es right = all_back holiday_bytes records.holiday_of 3 (λ e. refl) back.holiday_yes es

pub computed : (last : ℕ) (f : List ℕ) (r : Result Meaning Refusal) → Asks last f r → meaning_of last f ≡ r
computed last f (Ok m) asks = ap meaning_of_asked asks.0 ∙ ap (with_content m.0) (content_back last (takes m.0) m.1 asks.1)
computed last f (Err e) asks = ap meaning_of_asked asks
