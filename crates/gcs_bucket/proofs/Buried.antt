-- The deleted bucket of a generation: where it is found, before ageing and after it, and what its restore comes to.
use Rattle.std.proofs.Common.{◌≡◌, ℕ, suc, ◌+◌, ◌<◌, ◌≤◌, ◌^◌, Bool, true, false, List, [], ◌∷◌, length, get_or, drop, drop-cons, Option, Some, None, Ok, refl, ap, sym, subst, ◌∙◌, arith}
use Rattle.std.proofs.lemmas.List.{drop_all}
use Rattle.std.proofs.lemmas.List.Folds.{find_at}
use Rattle.std.proofs.lemmas.Option.{slice_get-get_or}
use Rattle.std.specs.Prelude.{is_some, ◌&&◌, nat_lt, filter, map, if◌then◌else◌, remove, slice_get}
use Rattle.std.specs.List.{find, position_or_len}
use Rattle.std.specs.Option.{option_map}
use Rattle.gcs_meaning.specs.declared.version.BucketRow.{BucketRow}
use Rattle.gcs_meaning.specs.declared.reason.Reason.TheVariants.{Exists, NoGrave}
use Rattle.gcs_meaning.specs.declared.command.Answer.TheVariants.{Bucket, Refused}
use Rattle.gcs_meaning.specs.Slot.{State, Slot, Grave, bucket_row}
use Rattle.gcs_meaning.specs.Aging.{aged, aged_grave, aged_graves, aged_state}
use Rattle.gcs_meaning.specs.BucketRestore.{bucket_restore_step, grave_found, is_grave_of, restored_state, without_grave}
use Rattle.gcs_meaning.specs.Retiring.{change_first}
use Rattle.gcs_bucket.specs.declared.alive.State.{State as Fields}
use Rattle.gcs_bucket.specs.Alive.{alive_of, state_of}
use Rattle.gcs_bucket.specs.BucketRestore.{decided_restore}
use Rattle.gcs_bucket.specs.Slot.{IsReady}
use Rattle.gcs_bucket.proofs.Sound.{grave_changed_of}
use Rattle.gcs_versions.proofs.Choices.{unchanged}

aged_generation : (t generation : ℕ) (g : Grave) → is_grave_of generation (aged_grave t g) ≡ is_grave_of generation g
unfolding aged_state
aged_generation t generation g = refl

-- the grave that is found once all are aged
found_aged : (t generation : ℕ) (g : Grave) (rest : List Grave) (b : Bool) → nat_lt t g.hard ≡ b
    → grave_found generation (aged_graves t rest) ≡ option_map (aged_grave t) (find (λ g. nat_lt t g.hard && is_grave_of generation g) rest)
    → grave_found generation (map (aged_grave t) (if b then g ∷ filter (λ g. nat_lt t g.hard) rest else filter (λ g. nat_lt t g.hard) rest))
    ≡ option_map (aged_grave t) (if b && is_grave_of generation g then Some g else find (λ g. nat_lt t g.hard && is_grave_of generation g) rest)
unfolding aged_graves
found_aged t generation g rest true stays deeper = by (is_grave_of generation g) (aged_generation t generation g)
  where
    by : (b : Bool) → is_grave_of generation (aged_grave t g) ≡ b
        → (if is_grave_of generation (aged_grave t g) then Some (aged_grave t g) else grave_found generation (map (aged_grave t) (filter (λ g. nat_lt t g.hard) rest)))
        ≡ option_map (aged_grave t) (if b then Some g else find (λ g. nat_lt t g.hard && is_grave_of generation g) rest)
    by true is = ap (λ b. if b then Some (aged_grave t g) else grave_found generation (map (aged_grave t) (filter (λ g. nat_lt t g.hard) rest))) is
    by false is = ap (λ b. if b then Some (aged_grave t g) else grave_found generation (map (aged_grave t) (filter (λ g. nat_lt t g.hard) rest))) is ∙ deeper
found_aged t generation g rest false goes deeper = deeper

pub grave_aged : (t generation : ℕ) (graves : List Grave) → grave_found generation (aged_graves t graves) ≡ option_map (aged_grave t) (find (λ g. nat_lt t g.hard && is_grave_of generation g) graves)
unfolding aged_graves
grave_aged t generation [] = refl
grave_aged t generation (g ∷ gs) = found_aged t generation g gs (nat_lt t g.hard) refl (grave_aged t generation gs)

pub restore_none : (slot : Slot) (t : ℕ) (name : List ℕ) (generation : ℕ) → None ≡ find (λ g. nat_lt t g.hard && is_grave_of generation g) slot.graves
    → bucket_restore_step (aged slot t) t name generation ≡ (Refused NoGrave, aged slot t)
unfolding bucket_restore_step
restore_none slot t name generation none = rw (grave_aged t generation slot.graves, ← none) refl

pub restore_taken : (slot : Slot) (t : ℕ) (name : List ℕ) (generation : ℕ) (g : Grave) (s : State) → Some g ≡ find (λ g. nat_lt t g.hard && is_grave_of generation g) slot.graves → slot.alive ≡ Some s
    → bucket_restore_step (aged slot t) t name generation ≡ (Refused Exists, aged slot t)
unfolding bucket_restore_step
restore_taken slot t name generation g s found lives = rw (grave_aged t generation slot.graves, ← found, lives) refl

pub restore_made : (slot : Slot) (t : ℕ) (name : List ℕ) (generation : ℕ) (g : Grave) (shown : BucketRow) → Some g ≡ find (λ g. nat_lt t g.hard && is_grave_of generation g) slot.graves → slot.alive ≡ None
    → shown ≡ bucket_row name (restored_state t g.state)
    → bucket_restore_step (aged slot t) t name generation ≡ decided_restore (Ok shown) t generation (aged slot t)
unfolding bucket_restore_step aged_state
restore_made slot t name generation g shown found dead shown-is = rw (grave_aged t generation slot.graves, ← found, dead, shown-is) refl

-- ---- where it stands among the deleted ones
first_at : {X : Type 0} (p : X → Bool) (x : X) (xs : List X) → p x ≡ true → position_or_len p (x ∷ xs) ≡ 0
first_at p x xs is = rw is refl

later_at : {X : Type 0} (p : X → Bool) (x : X) (xs : List X) → p x ≡ false → position_or_len p (x ∷ xs) ≡ suc (position_or_len p xs)
later_at p x xs is = rw is (omega arith)

-- a search that has come so far
pub place_here : {X : Type 0} (p : X → Bool) (xs : List X) (i : ℕ) (x : X) → i < length xs → x ≡ get_or xs i x → p x ≡ true → position_or_len p xs ≡ i + position_or_len p (drop i xs) → i ≡ position_or_len p xs
place_here p xs i x within is passes so_far =
    let rest : drop i xs ≡ x ∷ drop (suc i) xs = drop-cons xs i x within ∙ ap (λ y. y ∷ drop (suc i) xs) (sym is) in
    let here : position_or_len p (drop i xs) ≡ 0 = ap (position_or_len p) rest ∙ first_at p x (drop (suc i) xs) passes in
    omega (arith, so_far, here)

pub place_later : {X : Type 0} (p : X → Bool) (xs : List X) (i : ℕ) (x : X) → i < length xs → x ≡ get_or xs i x → p x ≡ false → position_or_len p xs ≡ i + position_or_len p (drop i xs)
    → position_or_len p xs ≡ (i + 1) + position_or_len p (drop (i + 1) xs)
place_later p xs i x within is fails so_far =
    let next : suc i ≡ i + 1 = omega arith in
    let rest : drop i xs ≡ x ∷ drop (suc i) xs = drop-cons xs i x within ∙ ap (λ y. y ∷ drop (suc i) xs) (sym is) in
    let here : position_or_len p (drop i xs) ≡ suc (position_or_len p (drop (suc i) xs)) = ap (position_or_len p) rest ∙ later_at p x (drop (suc i) xs) fails in
    subst (λ n. position_or_len p xs ≡ n + position_or_len p (drop n xs)) next (omega (arith, so_far, here))

pub place_end : {X : Type 0} (p : X → Bool) (xs : List X) (i : ℕ) → length xs ≤ i → position_or_len p xs ≡ i + position_or_len p (drop i xs) → i ≡ position_or_len p xs
place_end p xs i past so_far =
    let none : position_or_len p (drop i xs) ≡ 0 = ap (position_or_len p) (drop_all i xs past) in
    omega (arith, so_far, none)

pub within_end : {X : Type 0} (i : ℕ) (xs : List X) → i ≤ length xs → length xs ≤ i → length xs ≡ i
within_end i xs within past = omega arith

-- the first that passes is taken out at its place
out_at : {X : Type 0} (p : X → Bool) (x : X) (xs : List X) (b : Bool) → p x ≡ b → position_or_len p (x ∷ xs) < length (x ∷ xs)
    → (position_or_len p xs < length xs → change_first p (λ y. []) xs ≡ remove xs (position_or_len p xs))
    → (if b then xs else x ∷ change_first p (λ y. []) xs) ≡ remove (x ∷ xs) (position_or_len p (x ∷ xs))
out_at p x xs true is within deeper = subst (λ i. xs ≡ remove (x ∷ xs) i) (sym (first_at p x xs is)) refl
out_at p x xs false is within deeper =
    let later = later_at p x xs is in
    let inside : position_or_len p xs < length xs = omega (arith, within, later) in
    subst (λ i. (x ∷ change_first p (λ y. []) xs) ≡ remove (x ∷ xs) i) (sym later) (ap (λ rest. x ∷ rest) (deeper inside))

pub taken_out : {X : Type 0} (p : X → Bool) (xs : List X) → position_or_len p xs < length xs → change_first p (λ y. []) xs ≡ remove xs (position_or_len p xs)
taken_out p [] within = absurd (omega arith)
taken_out p (x ∷ xs) within = out_at p x xs (p x) refl within (taken_out p xs)

none_at : {X : Type 0} (p : X → Bool) (x : X) (xs : List X) (b : Bool) → p x ≡ b → length (x ∷ xs) ≤ position_or_len p (x ∷ xs)
    → (length xs ≤ position_or_len p xs → find p xs ≡ None) → (if b then Some x else find p xs) ≡ None
none_at p x xs true is past deeper = absurd (omega (arith, past, first_at p x xs is))
none_at p x xs false is past deeper = deeper (omega (arith, past, later_at p x xs is))

pub none_there : {X : Type 0} (p : X → Bool) (xs : List X) → length xs ≤ position_or_len p xs → find p xs ≡ None
none_there p [] past = refl
none_there p (x ∷ xs) past = none_at p x xs (p x) refl past (none_there p xs)

-- the bucket in the grave that was found
pub state_found : (found : Option Grave) (s : State) → Some s ≡ option_map (λ g. g.state) found → (g : Grave) × (found ≡ Some g) × (s ≡ g.state)
state_found None s is = absurd (cc)
state_found (Some g) s is = (g, refl, cc)

pub none_revived : (found : Option Grave) → None ≡ option_map (λ g. g.state) found → found ≡ None
none_revived None is = refl
none_revived (Some g) is = absurd (cc)

-- what is taken is the one that was found
pub nothing_taken : (xs ys : List Grave) (generation i : ℕ) → ys ≡ xs → i ≡ position_or_len (is_grave_of generation) ys → length ys ≤ i → grave_found generation xs ≡ None
nothing_taken xs ys generation i same is past =
    subst (λ zs. grave_found generation zs ≡ None) same (none_there (is_grave_of generation) ys (omega (arith, is, past)))

pub grave_taken : (xs ys : List Grave) (g : Grave) (generation i : ℕ) → ys ≡ xs → i ≡ position_or_len (is_grave_of generation) ys → i < length ys → g ≡ get_or xs i g → grave_found generation xs ≡ Some g
grave_taken xs ys g generation i same is within here =
    let place : i ≡ position_or_len (is_grave_of generation) xs = is ∙ ap (position_or_len (is_grave_of generation)) same in
    let inside : i < length xs = subst (λ (zs : List Grave). i < length zs) same within in
    find_at (is_grave_of generation) xs ∙ ap (slice_get xs) (sym place) ∙ slice_get-get_or xs i g inside ∙ ap (λ (x : Grave). Some x) (sym here)

pub rest_taken : (xs ys new : List Grave) (generation i : ℕ) → ys ≡ xs → i ≡ position_or_len (is_grave_of generation) ys → i < length ys → new ≡ remove xs i → new ≡ without_grave generation xs
rest_taken xs ys new generation i same is within left =
    let place : i ≡ position_or_len (is_grave_of generation) xs = is ∙ ap (position_or_len (is_grave_of generation)) same in
    let inside : i < length xs = subst (λ (zs : List Grave). i < length zs) same within in
    left ∙ ap (remove xs) place ∙ sym (taken_out (is_grave_of generation) xs (subst (λ j. j < length xs) place inside))

pub none_left : (xs : List Grave) (generation : ℕ) → grave_found generation xs ≡ None → without_grave generation xs ≡ xs
none_left xs generation none = unchanged (is_grave_of generation) (λ g. []) xs none

-- the bucket is alive again
pub taken_changed : (slot : Slot) (generation : ℕ) (s : State) → Some s ≡ option_map (λ g. g.state) (grave_found generation slot.graves) → IsReady slot → s.metageneration ≤ 2 ^ 62
taken_changed slot generation s is h =
    let at = state_found (grave_found generation slot.graves) s is in
    subst (λ (s : State). s.metageneration ≤ 2 ^ 62) (sym at.2) (grave_changed_of slot (is_grave_of generation) at.0 at.1 h)

revived_at : (slot : Slot) (t generation : ℕ) (shown : BucketRow) (g : Grave) (after : State) (graves : List Grave) → grave_found generation slot.graves ≡ Some g
    → after ≡ restored_state t g.state → graves ≡ without_grave generation slot.graves → (Bucket shown, record slot { alive = Some after; graves = graves }) ≡ decided_restore (Ok shown) t generation slot
revived_at slot t generation shown g after graves found after-is graves-is = rw (found, after-is, graves-is) refl

pub revived_done : (slot : Slot) (t generation : ℕ) (shown : BucketRow) (s after : State) (graves : List Grave) → Some s ≡ option_map (λ g. g.state) (grave_found generation slot.graves)
    → after ≡ restored_state t s → graves ≡ without_grave generation slot.graves → (Bucket shown, record slot { alive = Some after; graves = graves }) ≡ decided_restore (Ok shown) t generation slot
revived_done slot t generation shown s after graves is after-is graves-is =
    let at = state_found (grave_found generation slot.graves) s is in
    revived_at slot t generation shown at.0 after graves at.1 (after-is ∙ ap (restored_state t) at.2) graves-is

pub nothing_revived : (slot : Slot) (t generation : ℕ) (shown : BucketRow) (graves : List Grave) → None ≡ option_map (λ g. g.state) (grave_found generation slot.graves)
    → graves ≡ without_grave generation slot.graves → (Bucket shown, record slot { graves = graves }) ≡ decided_restore (Ok shown) t generation slot
nothing_revived slot t generation shown graves is graves-is =
    let none = none_revived (grave_found generation slot.graves) is in
    rw (none, graves-is, none_left slot.graves generation none) refl

-- ---- whether a bucket is alive
pub some_alive : (alive : Option Fields) → is_some alive ≡ true → (s : State) × (alive_of alive ≡ Some s)
some_alive None is = absurd (cc)
some_alive (Some b) is = (state_of b, refl)

pub not_alive : (alive : Option Fields) → is_some alive ≡ false → alive_of alive ≡ None
not_alive None is = refl
not_alive (Some b) is = absurd (cc)
