-- The list of a shard's buckets: which slots it shows, and what of them.
use Rattle.std.proofs.Common.{◌≡◌, ℕ, zero, suc, Bool, Option, Some, None, option_map, true, false, List, [], ◌∷◌, ◌++◌, length, take, drop, refl, ap, ap₂, sym, ◌∙◌, ◌≤◌, arith, append-nil, if◌then◌else◌}
use Rattle.std.specs.Prelude.{not, ◌&&◌, ◌||◌, slice_index_or}
use mathlib.Core.Bool.{true≢false}
use Rattle.std.specs.List.{AllByRecursion, AllWithin, filter, flat_map}
use Rattle.std.specs.List.Sorted.{IsPartitionedBy, IsPartitionPoint}
use Rattle.std.specs.Ordering.{is_lt, nat_cmp}
use Rattle.std.specs.Cmp.Lexicographic.{slice_cmp}
use Rattle.std.specs.declared.cmp.Ordering.TheVariants.{Less}
use Rattle.std.proofs.lemmas.Cmp.{nat_list_cmp_total}
use Rattle.std.proofs.lemmas.List.Concat.{flat_map-cons}
use Rattle.gcs_listing.proofs.OrderLemmas.{apart, lt_le, lt_not_back, lt_trans}
use Rattle.gcs_listing.proofs.TextLemmas.{begins_above, begins_below_past, begins_between}
use Rattle.gcs_listing.specs.Seeking.{past}
use Rattle.gcs_meaning.specs.declared.command.Command.{Command}
use Rattle.gcs_meaning.specs.declared.command.Command.TheVariants.{BucketInsert, BucketList, BucketGet, BucketChange, BucketDelete, BucketLock, BucketRestore, List as Listing, Get, Change, Delete, Put, Compose, Restore, Start, Append, Finish, Cancel}
use Rattle.gcs_meaning.specs.declared.version.BucketRow.{BucketRow}
use Rattle.gcs_meaning.specs.History.{Slots, is_listed, listed_buckets, shown_bucket, bucket_of}
use Rattle.gcs_meaning.specs.Order.{is_below}
use Rattle.gcs_meaning.specs.Slot.{State, Slot, bucket_row}
use Rattle.gcs_meaning.specs.Step.{IsInRange, IsOnSlot}
use Rattle.gcs_meaning.specs.Texts.{begins}
use Rattle.gcs_store.specs.Shard.{all_shown, is_passed, NamesRise}
use Rattle.gcs_store.proofs.Slotted.{at_of}

-- ---- which names a list shows
-- one that comes before all that it shows is none of them
unlisted_by : (begun later below : Bool) → (begun ≡ true → below ≡ false) → (not later || below) ≡ true → (begun && later) ≡ false
unlisted_by false later below above passed = refl
unlisted_by true false below above passed = refl
unlisted_by true true below above passed = absurd (apart passed (above refl))

passed_unlisted : (prefix after name : List ℕ) → is_passed prefix after name ≡ true → is_listed prefix after name ≡ false
passed_unlisted prefix after name passed =
    unlisted_by (begins prefix name) (is_below after name) (is_below name prefix) (begins_above prefix name) passed

-- of the others it shows those that begin with the prefix, and none of them is below it
listed_by : (begun later below : Bool) → (not later || below) ≡ false → (begun && later) ≡ begun
listed_by false later below left = refl
listed_by true true below left = refl
listed_by true false below left = absurd (true≢false left)

above_by : (later below : Bool) → (not later || below) ≡ false → below ≡ false
above_by true below left = left
above_by false below left = absurd (true≢false left)

-- what comes before a name that is passed is passed
earlier_by : (later sooner below lower : Bool) → (later ≡ false → sooner ≡ false) → (below ≡ true → lower ≡ true) → (not later || below) ≡ true → (not sooner || lower) ≡ true
earlier_by later false below lower first second passed = refl
earlier_by false true below lower first second passed = absurd (true≢false (first refl))
earlier_by true true below lower first second passed = second passed

passed_earlier : (prefix after x y : List ℕ) → is_below x y ≡ true → is_passed prefix after y ≡ true → is_passed prefix after x ≡ true
passed_earlier prefix after x y less passed =
    earlier_by (is_below after y) (is_below after x) (is_below y prefix) (is_below x prefix)
    (λ upto. lt_not_back nat_list_cmp_total x after (lt_le nat_list_cmp_total x y after less upto))
    (λ below. lt_trans nat_list_cmp_total x y prefix less below) passed

-- what comes before one that begins with the prefix, and isn't below it, begins with it
begins_earlier : (p x y : List ℕ) → is_below x p ≡ false → is_below x y ≡ true → begins p y ≡ true → begins p x ≡ true
begins_earlier [] x y low less begun = refl
begins_earlier (a ∷ p) x y low less begun =
    begins_between a p x low (lt_trans nat_list_cmp_total x y (past (a ∷ p)) less (begins_below_past a p y begun))

-- ---- the slots that a list shows stand side by side
pub passed_parted : (prefix after : List ℕ) (slots : Slots) → NamesRise slots → IsPartitionedBy (λ p. is_passed prefix after p.0) slots
passed_parted prefix after [] rise i j d upto within is = absurd (omega arith)
passed_parted prefix after (p ∷ ps) rise zero zero d upto within is = is
passed_parted prefix after (p ∷ ps) rise zero (suc j) d upto within is =
    passed_earlier prefix after p.0 (slice_index_or ps j d).0 (ap is_lt (at_of (λ (q : List ℕ × Slot). slice_cmp nat_cmp p.0 q.0 ≡ Less) ps j d (omega arith) rise.0)) is
passed_parted prefix after (p ∷ ps) rise (suc i) zero d upto within is = absurd (omega arith)
passed_parted prefix after (p ∷ ps) rise (suc i) (suc j) d upto within is = passed_parted prefix after ps rise.1 i j d (omega arith) (omega arith) is

-- none of these slots is passed
abbrev pub AreLeft : List ℕ → List ℕ → Slots → Type 0
AreLeft prefix after slots = AllByRecursion (λ p. is_passed prefix after p.0 ≡ false) slots

begins_parted : (prefix after : List ℕ) (slots : Slots) → NamesRise slots → AreLeft prefix after slots → IsPartitionedBy (λ p. begins prefix p.0) slots
begins_parted prefix after [] rise left i j d upto within is = absurd (omega arith)
begins_parted prefix after (p ∷ ps) rise left zero zero d upto within is = is
begins_parted prefix after (p ∷ ps) rise left zero (suc j) d upto within is =
    begins_earlier prefix p.0 (slice_index_or ps j d).0 (above_by (is_below after p.0) (is_below p.0 prefix) left.0)
    (ap is_lt (at_of (λ (q : List ℕ × Slot). slice_cmp nat_cmp p.0 q.0 ≡ Less) ps j d (omega arith) rise.0)) is
begins_parted prefix after (p ∷ ps) rise left (suc i) zero d upto within is = absurd (omega arith)
begins_parted prefix after (p ∷ ps) rise left (suc i) (suc j) d upto within is = begins_parted prefix after ps rise.1 left.1 i j d (omega arith) (omega arith) is

rising_rest : (slots : Slots) (i : ℕ) → NamesRise slots → NamesRise (drop i slots)
rising_rest [] zero rise = rise
rising_rest [] (suc i) rise = rise
rising_rest (p ∷ ps) zero rise = rise
rising_rest (p ∷ ps) (suc i) rise = rising_rest ps i rise.1

-- the slots from a partition point on are left, and those before it are none of the list
left_from : (prefix after : List ℕ) (slots : Slots) (i : ℕ) → AllWithin (λ p. is_passed prefix after p.0 ≡ false) slots i (length slots) → AreLeft prefix after (drop i slots)
left_from prefix after [] zero left = tt
left_from prefix after [] (suc i) left = tt
left_from prefix after (p ∷ ps) zero left = (left 0 p (omega arith) (omega arith), left_from prefix after ps zero (λ k d low high. left (suc k) d (omega arith) (omega arith)))
left_from prefix after (p ∷ ps) (suc i) left = left_from prefix after ps i (λ k d low high. left (suc k) d (omega arith) (omega arith))

listed_from : (prefix after : List ℕ) (slots : Slots) (i : ℕ) → i ≤ length slots → AllWithin (λ p. is_passed prefix after p.0 ≡ true) slots 0 i
    → filter (λ p. is_listed prefix after p.0) slots ≡ filter (λ p. is_listed prefix after p.0) (drop i slots)
listed_from prefix after [] zero within passed = refl
listed_from prefix after [] (suc i) within passed = absurd (omega arith)
listed_from prefix after (p ∷ ps) zero within passed = refl
listed_from prefix after (p ∷ ps) (suc i) within passed =
    rw (passed_unlisted prefix after p.0 (passed 0 p (omega arith) (omega arith)))
    (listed_from prefix after ps i (omega arith) (λ k d low high. passed (suc k) d (omega arith) (omega arith)))

-- the front of a part, as far as it passes a test, is what passes it
filter_front : {X : Type 0} (t : X → Bool) (xs : List X) (i : ℕ) → IsPartitionPoint (λ x. t x ≡ true) (λ x. t x ≡ false) xs i → filter t xs ≡ take i xs
filter_front t [] zero point = refl
filter_front t [] (suc i) point = refl
filter_front t (x ∷ xs) zero point =
    let fails : t x ≡ false = point.1 0 x (omega arith) (omega arith) in
    rw fails
    (filter_front t xs zero (λ k d low high. absurd (omega arith), λ k d low high. point.1 (suc k) d (omega arith) (omega arith)))
filter_front t (x ∷ xs) (suc i) point =
    let passes : t x ≡ true = point.0 0 x (omega arith) (omega arith) in
    rw passes
    (ap (λ r. x ∷ r) (filter_front t xs i (λ k d low high. point.0 (suc k) d (omega arith) (omega arith), λ k d low high. point.1 (suc k) d (omega arith) (omega arith))))

listed_begun : (prefix after : List ℕ) (slots : Slots) → AreLeft prefix after slots → filter (λ p. is_listed prefix after p.0) slots ≡ filter (λ p. begins prefix p.0) slots
listed_begun prefix after [] left = refl
listed_begun prefix after (p ∷ ps) left =
    ap₂ (λ (t : Bool) (r : Slots). if t then p ∷ r else r) (listed_by (begins prefix p.0) (is_below after p.0) (is_below p.0 prefix) left.0) (listed_begun prefix after ps left.1)

pub rest_begun : (prefix after : List ℕ) (slots : Slots) (i : ℕ) → NamesRise slots
    → IsPartitionPoint (λ p. is_passed prefix after p.0 ≡ true) (λ p. is_passed prefix after p.0 ≡ false) slots i → IsPartitionedBy (λ p. begins prefix p.0) (drop i slots)
rest_begun prefix after slots i rise point =
    begins_parted prefix after (drop i slots) (rising_rest slots i rise) (left_from prefix after slots i point.1)

pub listed_part : (prefix after : List ℕ) (slots : Slots) (i n : ℕ) → i ≤ length slots
    → IsPartitionPoint (λ p. is_passed prefix after p.0 ≡ true) (λ p. is_passed prefix after p.0 ≡ false) slots i
    → IsPartitionPoint (λ p. begins prefix p.0 ≡ true) (λ p. begins prefix p.0 ≡ false) (drop i slots) n
    → filter (λ p. is_listed prefix after p.0) slots ≡ take n (drop i slots)
listed_part prefix after slots i n within first second =
    listed_from prefix after slots i within first.0 ∙ listed_begun prefix after (drop i slots) (left_from prefix after slots i first.1)
    ∙ filter_front (λ p. begins prefix p.0) (drop i slots) n second

-- ---- what is shown of them
all_is : (slots : Slots) → all_shown slots ≡ flat_map (λ (q : List ℕ × Slot). shown_bucket q.0 q.1.alive) slots
all_is [] = refl
all_is (p ∷ ps) = ap (λ (rows : List BucketRow). shown_bucket p.0 p.1.alive ++ rows) (all_is ps) ∙ sym (flat_map-cons (λ (q : List ℕ × Slot). shown_bucket q.0 q.1.alive) p ps)

-- the front of a list, and no more
take_front : {X : Type 0} (xs ys : List X) → take (length xs) (xs ++ ys) ≡ xs
take_front [] ys = refl
take_front (x ∷ xs) ys = ap (λ r. x ∷ r) (take_front xs ys)

-- once there are so many, they are the answer
pub enough : (prefix after : List ℕ) (most : ℕ) (slots listed : Slots) (rows rest : List BucketRow) → listed ≡ filter (λ p. is_listed prefix after p.0) slots
    → rows ++ rest ≡ all_shown listed → length rows ≡ most → rows ≡ listed_buckets prefix after most slots
enough prefix after most slots listed rows rest is all count =
    sym (take_front rows rest) ∙ ap (λ n. take n (rows ++ rest)) count
    ∙ ap (take most) (all ∙ all_is listed ∙ ap (λ l. flat_map (λ (q : List ℕ × Slot). shown_bucket q.0 q.1.alive) l) is)

-- a list of at most so many is its own front
take_few : {X : Type 0} (n : ℕ) (xs : List X) → length xs ≤ n → take n xs ≡ xs
take_few zero [] few = refl
take_few zero (x ∷ xs) few = absurd (omega arith)
take_few (suc n) [] few = refl
take_few (suc n) (x ∷ xs) few = ap (λ r. x ∷ r) (take_few n xs (omega (arith, few)))

-- where no more are left, all of them are
pub whole : (prefix after : List ℕ) (most : ℕ) (slots listed : Slots) (rows : List BucketRow) → listed ≡ filter (λ p. is_listed prefix after p.0) slots
    → rows ++ [] ≡ all_shown listed → length rows ≤ most → rows ≡ listed_buckets prefix after most slots
whole prefix after most slots listed rows is all few =
    sym (take_few most rows few)
    ∙ ap (take most) (sym (append-nil rows) ∙ all ∙ all_is listed ∙ ap (λ l. flat_map (λ (q : List ℕ × Slot). shown_bucket q.0 q.1.alive) l) is)

-- one that isn't alive adds nothing, and one that is its row
pub shown_none : (name : List ℕ) (alive : Option State) (rows : List BucketRow) → None ≡ option_map (bucket_row name) alive → rows ≡ rows ++ shown_bucket name alive
shown_none name None rows e = sym (append-nil rows)
shown_none name (Some s) rows e = absurd (cc)

pub shown_some : (name : List ℕ) (alive : Option State) (rows : List BucketRow) (row : BucketRow) → Some row ≡ option_map (bucket_row name) alive → rows ++ row ∷ [] ≡ rows ++ shown_bucket name alive
shown_some name None rows row e = absurd (cc)
shown_some name (Some s) rows row e = let same : bucket_row name s ≡ row = cc in sym (ap (λ r. rows ++ r ∷ []) same)

-- a command that names a bucket is one that a slot can be asked
pub on_slot : (command : Command) (name : List ℕ) → IsInRange command → Some name ≡ bucket_of command → IsOnSlot command
on_slot (BucketInsert bucket settings) name is e = is
on_slot (BucketList shard prefix after most) name is e = absurd (cc)
on_slot (BucketGet bucket pre) name is e = is
on_slot (BucketChange bucket pre change whole) name is e = is
on_slot (BucketDelete bucket pre) name is e = is
on_slot (BucketLock bucket pre) name is e = is
on_slot (BucketRestore bucket generation) name is e = is
on_slot (Listing bucket query) name is e = is
on_slot (Get bucket name generation soft pre) n is e = is
on_slot (Change bucket name generation pre change whole) n is e = is
on_slot (Delete bucket name generation pre) n is e = is
on_slot (Put bucket name pre meta hashed components expect) n is e = is
on_slot (Compose bucket name pre meta parts) n is e = is
on_slot (Restore bucket name generation pre) n is e = is
on_slot (Start bucket name pre meta expect total) n is e = is
on_slot (Append bucket upload offset total content) name is e = is
on_slot (Finish bucket upload hashed) name is e = is
on_slot (Cancel bucket upload) name is e = is
