-- The bytes of what a command takes: as many as its body has, in range, and no two alike.
use Rattle.std.proofs.Common.{◌≡◌, ℕ, ◌*◌, Bool, true, eqb, leb, List, [], ◌∷◌, ◌++◌, length, get_or, take, drop, sym, refl, ap, ◌∙◌, mul-suc, arith}
use Rattle.std.specs.Int.Digits.{number_from_digits}
use Rattle.std.specs.List.{flat_map, AllByRecursion}
use Rattle.std.proofs.ByRecursion.{All-weaker}
use Rattle.std.proofs.lemmas.List.{take_at, drop_at}
use Rattle.std.proofs.lemmas.Grind.{common_steps}
use Rattle.std.proofs.lemmas.Bool.{eq-eqb, le-leb, and_from, and_parts}
use Rattle.tables.specs.declared.entry.Entry.{Entry}
use Rattle.records.specs.declared.user.User.{User}
use Rattle.records.specs.Groups.{group_bytes, group_ranges}
use Rattle.records.specs.Holidays.{holiday_bytes, holiday_ranges}
use Rattle.records.specs.TimeSets.{time_set_bytes, time_set_ranges}
use Rattle.records.specs.Zones.{zone_bytes, zone_ranges}
use Rattle.records.specs.GroupBytes as group
use Rattle.records.specs.HolidayBytes as holiday
use Rattle.records.specs.TimeSetBytes as time-set
use Rattle.records.specs.UserBytes as user
use Rattle.records.specs.ZoneBytes as zone
use Rattle.orders.specs.Bodies.{size_taken, long_right}
use Rattle.orders.specs.Fields.{every_record, counted, taken_right}
use Rattle.orders.specs.Frames.{overwrite_byte, content_bytes, ContentRight, CountedRight}
use Rattle.orders.specs.Meanings.{Takes, nothing, a_user_number, a_card, a_user, a_time_set_number, a_zone_number, a_group_number, a_holiday_number, time_sets, zones, groups, holidays, Content}

-- ---- records one behind the other

pub joined_sized : {B : Type 0} (encoded : Entry B → List ℕ) (size : ℕ) → ((e : Entry B) → length (encoded e) ≡ size) → (es : List (Entry B)) → length (flat_map encoded es) ≡ size * length es
joined_sized encoded size sized [] = grind (arith, common_steps)
joined_sized encoded size sized (e ∷ es) = grind (arith, common_steps, joined_sized encoded size sized es, sized e, mul-suc)

all_in_range : {B : Type 0} (encoded : Entry B → List ℕ) (size : ℕ) (ranges : List ℕ → Bool) → ((e : Entry B) → length (encoded e) ≡ size) → (es : List (Entry B)) → AllByRecursion (λ e. ranges (encoded e) ≡ true) es → every_record ranges size (length es) (flat_map encoded es) ≡ true
all_in_range encoded size ranges sized [] right = refl
all_in_range encoded size ranges sized (e ∷ es) right =
    and_from _ _ (ap ranges (take_at (encoded e) (flat_map encoded es) size (sized e)) ∙ right.0)
    (ap (every_record ranges size (length es)) (drop_at (encoded e) (flat_map encoded es) size (sized e)) ∙ all_in_range encoded size ranges sized es right.1)

joined_apart : {B : Type 0} (encoded : Entry B → List ℕ) (size : ℕ) → ((e : Entry B) → length (encoded e) ≡ size) → ((e f : Entry B) → encoded e ≡ encoded f → e ≡ f) → (es fs : List (Entry B)) → length es ≡ length fs → flat_map encoded es ≡ flat_map encoded fs → es ≡ fs
joined_apart encoded size sized apart [] [] long is = refl
joined_apart encoded size sized apart [] (f ∷ fs) long is = absurd (omega arith)
joined_apart encoded size sized apart (e ∷ es) [] long is = absurd (omega arith)
joined_apart encoded size sized apart (e ∷ es) (f ∷ fs) long is =
    let parts = user.split_at (encoded e) (flat_map encoded es) (encoded f) (flat_map encoded fs) size (sized e) (sized f) is in
    λ i. apart e f parts.0 i ∷ joined_apart encoded size sized apart es fs (omega arith) parts.1 i

counted_long : {B : Type 0} (encoded : Entry B → List ℕ) (size : ℕ) → ((e : Entry B) → length (encoded e) ≡ size) → (es : List (Entry B)) → eqb (length (flat_map encoded es)) (size * length es) ≡ true
counted_long encoded size sized es = ap (λ n. eqb n (size * length es)) (joined_sized encoded size sized es) ∙ eq-eqb (size * length es) (size * length es) refl

counted_in_range : {B : Type 0} (encoded : Entry B → List ℕ) (size : ℕ) (ranges : List ℕ → Bool) (number_right : ℕ → Bool) → ((e : Entry B) → length (encoded e) ≡ size) → ((e : Entry B) → number_right e.number ≡ true → ranges (encoded e) ≡ true) → (es : List (Entry B)) → CountedRight number_right es → counted ranges size (length es ∷ flat_map encoded es) ≡ true
counted_in_range encoded size ranges number_right sized right es told =
    and_from _ _ (le-leb 1 (length es) told.0) (all_in_range encoded size ranges sized es (All-weaker _ _ right es told.2))

counted_apart : {B : Type 0} (encoded : Entry B → List ℕ) (size : ℕ) → ((e : Entry B) → length (encoded e) ≡ size) → ((e f : Entry B) → encoded e ≡ encoded f → e ≡ f) → (es fs : List (Entry B)) → length es ∷ flat_map encoded es ≡ length fs ∷ flat_map encoded fs → es ≡ fs
counted_apart encoded size sized apart es fs is =
    joined_apart encoded size sized apart es fs (ap (λ l. get_or l 0 0) is) (ap (drop 1) is)

-- ---- what a command takes

time_set_sized : (e : Entry _) → length (time_set_bytes e) ≡ 5
time_set_sized e = refl

holiday_sized : (e : Entry _) → length (holiday_bytes e) ≡ 3
holiday_sized e = refl

user_long : (o : Bool) (e : Entry User) → length (content_bytes a_user (o, e)) ≡ 85
user_long o e = omega (arith, user.sized e)

pub content_long : (last : ℕ) (t : Takes) (x : Content t) → ContentRight last t x → long_right (size_taken t) (content_bytes t x) ≡ true
content_long last nothing x right = refl
content_long last a_user_number n right = refl
content_long last a_card c right = refl
content_long last a_user x right = eq-eqb _ 85 (user_long x.0 x.1)
content_long last a_time_set_number n right = refl
content_long last a_zone_number n right = refl
content_long last a_group_number n right = refl
content_long last a_holiday_number n right = refl
content_long last time_sets es right = counted_long time_set_bytes 5 time_set_sized es
content_long last zones es right = counted_long zone_bytes 25 zone.sized es
content_long last groups es right = counted_long group_bytes 10 group.sized es
content_long last holidays es right = counted_long holiday_bytes 3 holiday_sized es

overwrite_right : (o : Bool) → leb (overwrite_byte o) 1 ≡ true
overwrite_right o = grind arith

pub content_in_range : (last : ℕ) (t : Takes) (x : Content t) → ContentRight last t x → taken_right last t (content_bytes t x) ≡ true
content_in_range last nothing x right = refl
content_in_range last a_user_number n right = refl
content_in_range last a_card c right = refl
content_in_range last a_user x right = and_from _ _ (overwrite_right x.0) (user.ranges_right last x.1 right)
content_in_range last a_time_set_number n right = right
content_in_range last a_zone_number n right = right
content_in_range last a_group_number n right = right
content_in_range last a_holiday_number n right = right
content_in_range last time_sets es right = counted_in_range time_set_bytes 5 time_set_ranges _ time_set_sized time-set.ranges_right es right
content_in_range last zones es right = counted_in_range zone_bytes 25 zone_ranges _ zone.sized (λ e is. is) es right
content_in_range last groups es right = counted_in_range group_bytes 10 group_ranges _ group.sized group.ranges_right es right
content_in_range last holidays es right = counted_in_range holiday_bytes 3 holiday_ranges _ holiday_sized holiday.ranges_right es right

overwrite_apart : (o p : Bool) → overwrite_byte o ≡ overwrite_byte p → o ≡ p
overwrite_apart o p is = grind arith

pub content_apart : (last : ℕ) (t : Takes) (x y : Content t) → ContentRight last t x → ContentRight last t y → content_bytes t x ≡ content_bytes t y → x ≡ y
content_apart last nothing x y right right' is = refl
content_apart last a_user_number n k right right' is = sym (user.number_back n (omega arith)) ∙ ap (number_from_digits 256) is ∙ user.number_back k (omega arith)
content_apart last a_card c d right right' is = user.same_card c d right right' is
content_apart last a_user x y right right' is =
    let over = overwrite_apart x.0 y.0 (ap (λ l. get_or l 4 0) is) in
    let same = user.apart x.1 y.1 (and_parts _ _ right).1 (and_parts _ _ right').1 (ap (λ l. take 4 l ++ drop 5 l) is) in
    λ i. (over i, same i)
content_apart last a_time_set_number n k right right' is = ap (λ l. get_or l 0 0) is
content_apart last a_zone_number n k right right' is = ap (λ l. get_or l 0 0) is
content_apart last a_group_number n k right right' is = ap (λ l. get_or l 0 0) is
content_apart last a_holiday_number n k right right' is = ap (λ l. get_or l 0 0) is
content_apart last time_sets es fs right right' is = counted_apart time_set_bytes 5 time_set_sized time-set.apart es fs is
content_apart last zones es fs right right' is = counted_apart zone_bytes 25 zone.sized zone.apart es fs is
content_apart last groups es fs right right' is = counted_apart group_bytes 10 group.sized group.apart es fs is
content_apart last holidays es fs right right' is = counted_apart holiday_bytes 3 holiday_sized holiday.apart es fs is
