-- A version stays over one command that finds it covered: as it is, with other metadata, or noncurrent.
use Rattle.std.proofs.Common.{◌≡◌, ◌≢◌, inl, inr, ◌≤◌, ℕ, Bool, true, false, List, [], ◌∷◌, ◌++◌, Option, Some, None, refl, ap, sym, subst, arith}
use Rattle.std.specs.Str.{bytes_eq}
use Rattle.std.specs.Prelude.{◌⊎◌, map, max, nat_lt, is_some, not, ◌&&◌, ◌+◌, ◌==◌, if◌then◌else◌}
use Rattle.std.specs.List.{list_any}
use Rattle.std.proofs.lemmas.Bool.Decides.{nat_tests}
use Rattle.gcs_meaning.specs.declared.changes.MetaChange.{MetaChange}
use Rattle.gcs_meaning.specs.declared.uploading.Upload.{Upload}
use Rattle.gcs_meaning.specs.declared.settings.Meta.{Meta}
use Rattle.gcs_meaning.specs.declared.settings.Pre.{Pre}
use Rattle.gcs_meaning.specs.declared.settings.Settings.{Settings}
use Rattle.gcs_meaning.specs.declared.version.Expect.{Expect}
use Rattle.gcs_meaning.specs.declared.version.Kind.{Kind}
use Rattle.gcs_meaning.specs.declared.version.Kind.TheVariants.{Live, Noncurrent, Soft}
use Rattle.gcs_meaning.specs.declared.version.Row.{Row}
use Rattle.gcs_meaning.specs.declared.policy.Cover.{Cover}
use Rattle.gcs_meaning.specs.declared.policy.Cover.TheVariants.{Free, Temporary, EventBased, Retained, SoftDeleted}
use Rattle.gcs_meaning.specs.declared.policy.Retired.{Retired}
use Rattle.gcs_meaning.specs.declared.policy.Retired.TheVariants.{Noncurrent as ToNoncurrent, Soft as ToSoft, Out}
use Rattle.gcs_meaning.specs.declared.command.Command.{Command}
use Rattle.gcs_meaning.specs.declared.command.Command.TheVariants.{BucketInsert, BucketList, BucketGet, BucketChange, BucketDelete, BucketLock, BucketRestore, List as Listing, Get, Change, Delete, Put, Compose, Restore, Start, Append, Finish, Cancel}
use Rattle.gcs_meaning.specs.Content.{Digested}
use Rattle.gcs_meaning.specs.Moment.{next_generation}
use Rattle.gcs_meaning.specs.Policy.{bucket_pre_refusal, pre_refusal, micros, cover_of, cover_of_kind, retired_to}
use Rattle.gcs_meaning.specs.Slot.{State, Grave, Slot}
use Rattle.gcs_meaning.specs.Aging.{kind_stays}
use Rattle.gcs_meaning.specs.Choosing.{is_live, is_readable, is_chosen, chosen_row, live_row}
use Rattle.gcs_meaning.specs.Retiring.{facts_of, cover_refusal, taken_refusal, retired_row}
use Rattle.gcs_meaning.specs.BucketDeletion.{latest_hard, empty_refusal, bucket_delete_refusal, grave_of, with_grave}
use Rattle.gcs_meaning.specs.ObjectChange.{changed_meta, changed_row, change_state}
use Rattle.gcs_meaning.specs.ObjectDeletion.{delete_refusal, delete_state}
use Rattle.gcs_meaning.specs.Put.{generation_of, metageneration_of, replaced_refusal, put_refusal, put_state, new_row}
use Rattle.gcs_meaning.specs.BucketRestore.{grave_found, is_grave_of, restored_state, unburied, without_grave}
use Rattle.gcs_meaning.specs.Finish.{digested_of, done_state, finish_row}
use Rattle.gcs_meaning.specs.Step.{command_step}
use Rattle.gcs_meaning.specs.Fit.{IsSoftUntil}
use Rattle.gcs_meaning.specs.Keeping.{HoldsOfOne, IsOneOf, living, buckets_of, IsCovered}
use Rattle.gcs_meaning.proofs.Members.{one-member, all-member, member-map, map-member, one-change_first, one-with_row, one-taken}
use Rattle.gcs_meaning.proofs.Chosen.{found_passes}
use Rattle.gcs_meaning.proofs.Passing.{first_passed, second_passed}
use Rattle.gcs_meaning.proofs.FitBuckets.{is_empty, soft_until}
use Rattle.gcs_meaning.proofs.Cases.{IfRefused, IfMade, IfFinished, insert_cases, bucket_get_cases, bucket_change_cases, bucket_delete_cases, bucket_lock_cases, bucket_restore_cases, list_cases, get_cases, change_cases, delete_cases, put_cases, compose_cases, restore_cases, start_cases, append_cases, finish_cases, cancel_cases}

-- what holds of a version, and of what a command at t that its cover lets pass makes of it
pub record Outlives (P : Row → Type 0) (t : ℕ) (row : Row) : Type 0 where
  pub itself : P row
  pub changed : (meta : Meta) → is_readable row.kind ≡ true → P (changed_row t meta row)
  pub noncurrent : is_readable row.kind ≡ true → P (record row { kind = Noncurrent t })

-- it holds of a version in one of the slot's buckets
abbrev pub Stays : (Row → Type 0) → Slot → Type 0
Stays P slot = HoldsOfOne (λ s. HoldsOfOne P s.rows) (buckets_of slot)

-- a soft-deleted version that is covered has its hard time before it
hard_later : (b : Bool) (t hard : ℕ) → nat_lt t hard ≡ b → (if b then SoftDeleted hard else Free) ≢ Free → nat_lt t hard ≡ true
hard_later true t hard is h = is
hard_later false t hard is h = absurd (h refl)

pub covered_stays : (s : State) (t : ℕ) (row : Row) (kind : Kind) → row.kind ≡ kind → IsCovered s t row → kind_stays t kind ≡ true
unfolding cover_of
covered_stays s t row Live is h = refl
covered_stays s t row (Noncurrent at) is h = refl
covered_stays s t row (Soft at hard) is h = hard_later (nat_lt t hard) t hard refl (subst (λ kind. cover_of_kind kind s.settings (facts_of row) t ≢ Free) is h)

pub soft_later : (t last : ℕ) (kind : Kind) → IsSoftUntil last kind → kind_stays t kind ≡ true → nat_lt t last ≡ true
soft_later t last Live soft stays = absurd soft
soft_later t last (Noncurrent at) soft stays = absurd soft
soft_later t last (Soft at hard) soft stays = grind (arith, nat_tests)

-- a version that is chosen is readable
live_kind : (kind : Kind) (named : Bool) → (is_live kind && named) ≡ true → is_readable kind ≡ true
live_kind Live named h = refl
live_kind (Noncurrent at) named h = refl
live_kind (Soft at hard) named h = cc

readable_kind : (kind : Kind) (same named : Bool) → (is_readable kind && same && named) ≡ true → is_readable kind ≡ true
readable_kind Live same named h = refl
readable_kind (Noncurrent at) same named h = refl
readable_kind (Soft at hard) same named h = cc

chosen_readable : (name : List ℕ) (generation : Option ℕ) (row : Row) → is_chosen name generation row ≡ true → is_readable row.kind ≡ true
chosen_readable name None row h = live_kind row.kind (bytes_eq name row.name) h
chosen_readable name (Some generation) row h = readable_kind row.kind (row.generation == generation) (bytes_eq name row.name) h

found_readable : (name : List ℕ) (generation : Option ℕ) (row : Row) (rows : List Row) → chosen_row name generation rows ≡ Some row → is_readable row.kind ≡ true
found_readable name generation row rows found = chosen_readable name generation row (found_passes (is_chosen name generation) row rows found)

-- one that is retired though it is covered becomes noncurrent
free_of : (t : ℕ) (cover : Cover) → cover_refusal t cover ≡ None → cover ≡ Free
free_of t Free h = refl
free_of t Temporary h = cc
free_of t EventBased h = cc
free_of t (Retained until) h = cc
free_of t (SoftDeleted until) h = cc

some_same : (o : Option Row) (a b : Row) → o ≡ Some a → o ≡ Some b → a ≡ b
some_same o a b first second = cc

taken_passed : (s : State) (t : ℕ) (named : Bool) (pre : Pre) (row : Row) → delete_refusal s.settings t named pre row ≡ None → taken_refusal s.settings t named row ≡ None
unfolding delete_refusal
taken_passed s t named pre row passed = second_passed (pre_refusal pre row.generation row.metageneration) (taken_refusal s.settings t named row) passed

replaced_passed : (settings : Settings) (t : ℕ) (pre : Pre) (expect : Expect) (hashed : Digested) (live : Option Row) → put_refusal settings t pre expect hashed live ≡ None → replaced_refusal settings t live ≡ None
unfolding put_refusal
replaced_passed settings t pre expect hashed live passed =
    first_passed (replaced_refusal settings t live) _ (second_passed (pre_refusal pre (generation_of live) (metageneration_of live)) _ passed)

-- what the deletion of a bucket leaves: its versions are all soft-deleted, and it stays as long as each of them
pub empty_passed : (pre : Pre) (s : State) → bucket_delete_refusal pre s ≡ None → list_any (λ row. is_readable row.kind) s.rows ≡ false
unfolding bucket_delete_refusal
empty_passed pre s passed =
    is_empty (list_any (λ row. is_readable row.kind) s.rows) (second_passed (bucket_pre_refusal pre s.metageneration) (empty_refusal s.rows) passed)

grave_later : (s : State) (t : ℕ) (pre : Pre) (row : Row) → bucket_delete_refusal pre s ≡ None → IsOneOf s.rows row → IsCovered s t row → nat_lt t (grave_of t s).hard ≡ true
unfolding grave_of
grave_later s t pre row passed is h =
    let last : ℕ = max (t + micros s.settings.soft_seconds) (latest_hard s.rows) in
    let within : latest_hard s.rows ≤ last = omega arith in
    let soft : IsSoftUntil last row.kind = all-member (λ other. IsSoftUntil last other.kind) row s.rows is (soft_until last s.rows within (empty_passed pre s passed)) in
    soft_later t last row.kind soft (covered_stays s t row row.kind refl h)

buried_is : (b : Bool) (P : State → Type 0) (g : Grave) (graves : List Grave) → b ≡ true → P g.state → HoldsOfOne P (map (λ x. x.state) (if b then g ∷ graves else graves))
buried_is true P g graves above h = inl h
buried_is false P g graves above h = cc

buried_still : (b : Bool) (P : State → Type 0) (g : Grave) (graves : List Grave) → HoldsOfOne P (map (λ x. x.state) graves) → HoldsOfOne P (map (λ x. x.state) (if b then g ∷ graves else graves))
buried_still true P g graves h = inr h
buried_still false P g graves h = h

grave_rows : (t : ℕ) (s : State) → s.rows ≡ (grave_of t s).state.rows
unfolding grave_of
grave_rows t s = refl

-- the buckets of a slot
buckets_are : (slot : Slot) (alive : Option State) → slot.alive ≡ alive → buckets_of slot ≡ living alive ++ map (λ g. g.state) slot.graves
buckets_are slot alive is = ap (λ a. living a ++ map (λ g. g.state) slot.graves) is

module _ (P : Row → Type 0) (t : ℕ) (row : Row) (outlives : Outlives P t row) where
  -- ---- the rows of one bucket
  retired_by : (b : Bool) (cover : Cover) (to : Retired) → is_readable row.kind ≡ true → (if b then None else cover_refusal t cover) ≡ None → cover ≢ Free
      → HoldsOfOne P (retired_row (if b then ToNoncurrent else to) t row)
  retired_by true cover to readable passed h = inl (outlives.noncurrent readable)
  retired_by false cover to readable passed h = absurd (h (free_of t cover passed))

  retired_stays : (s : State) (named : Bool) → is_readable row.kind ≡ true → taken_refusal s.settings t named row ≡ None → IsCovered s t row
      → HoldsOfOne P (retired_row (retired_to s.settings t named) t row)
  unfolding taken_refusal retired_to
  retired_stays s named readable passed h =
      retired_by (s.settings.versioned && not named) (cover_of s.settings (facts_of row) t)
      (if s.settings.soft_seconds == 0 then Out else ToSoft (t + micros s.settings.soft_seconds)) readable passed h

  pub delete_stays : (s : State) (name : List ℕ) (generation : Option ℕ) (pre : Pre) (chosen : Row) → chosen_row name generation s.rows ≡ Some chosen → delete_refusal s.settings t (is_some generation) pre chosen ≡ None
      → IsOneOf s.rows row → IsCovered s t row → HoldsOfOne P (delete_state s t name generation).rows
  unfolding delete_state
  delete_stays s name generation pre chosen found passed is h =
      one-change_first P (is_chosen name generation) (retired_row (retired_to s.settings t (is_some generation)) t) row s.rows is outlives.itself
      (λ first.
      let same : chosen ≡ row = some_same (chosen_row name generation s.rows) chosen row found first in
      retired_stays s (is_some generation) (found_readable name generation row s.rows first)
      (subst (λ r. taken_refusal s.settings t (is_some generation) r ≡ None) same (taken_passed s t (is_some generation) pre chosen passed)) h)

  pub change_stays : (s : State) (name : List ℕ) (generation : Option ℕ) (change : MetaChange) (whole : Bool) (chosen : Row) → chosen_row name generation s.rows ≡ Some chosen
      → IsOneOf s.rows row → HoldsOfOne P (change_state s name generation (changed_row t (changed_meta whole change chosen.meta) chosen)).rows
  unfolding change_state
  change_stays s name generation change whole chosen found is =
      one-change_first P (is_chosen name generation) (λ had. changed_row t (changed_meta whole change chosen.meta) chosen ∷ []) row s.rows is outlives.itself
      (λ first.
      let same : chosen ≡ row = some_same (chosen_row name generation s.rows) chosen row found first in
      inl (subst (λ r. P (changed_row t (changed_meta whole change r.meta) r)) (sym same) (outlives.changed (changed_meta whole change row.meta) (found_readable name generation row s.rows first))))

  pub put_stays : (s : State) (new : Row) → replaced_refusal s.settings t (live_row new.name s.rows) ≡ None → IsOneOf s.rows row → IsCovered s t row
      → HoldsOfOne P (put_state s t new).rows
  unfolding put_state
  put_stays s new passed is h =
      one-with_row P new _
      (one-change_first P (is_chosen new.name None) (retired_row (retired_to s.settings t false) t) row s.rows is outlives.itself
      (λ first. retired_stays s false (found_readable new.name None row s.rows first) (subst (λ live. replaced_refusal s.settings t live ≡ None) first passed) h))

  pub made_stays : (s : State) (name : List ℕ) (pre : Pre) (meta : Meta) (hashed : Digested) (components : Option ℕ) (expect : Expect) (generation : ℕ)
      → put_refusal s.settings t pre expect hashed (live_row name s.rows) ≡ None → IsOneOf s.rows row → IsCovered s t row
      → HoldsOfOne P (put_state s t (new_row s.settings t generation name meta hashed components)).rows
  made_stays s name pre meta hashed components expect generation passed is h =
      put_stays s (new_row s.settings t generation name meta hashed components) (replaced_passed s.settings t pre expect hashed (live_row name s.rows) passed) is h

  pub finish_stays : (slot : Slot) (s : State) (number : ℕ) (upload : Upload) → put_refusal s.settings t upload.pre upload.expect (digested_of upload) (live_row upload.name s.rows) ≡ None
      → IsOneOf s.rows row → IsCovered s t row → HoldsOfOne P (put_state (done_state s number (finish_row slot s t upload)) t (finish_row slot s t upload)).rows
  finish_stays slot s number upload passed is h =
      put_stays (done_state s number (finish_row slot s t upload)) (finish_row slot s t upload)
      (replaced_passed s.settings t upload.pre upload.expect (digested_of upload) (live_row upload.name s.rows) passed) is h

  -- ---- the buckets of a slot
  module _ (slot : Slot) (s : State) (is : IsOneOf (buckets_of slot) s) (here : IsOneOf s.rows row) (h : IsCovered s t row) where
    stays_as_is : Stays P slot
    stays_as_is = one-member (λ state. HoldsOfOne P state.rows) s (buckets_of slot) is (one-member P row s.rows here outlives.itself)

    refused_stays : IfRefused (λ done. Stays P done.1) slot
    refused_stays reason = stays_as_is

    buried_stays : IsOneOf (map (λ g. g.state) slot.graves) s → HoldsOfOne (λ state. HoldsOfOne P state.rows) (map (λ g. g.state) slot.graves)
    buried_stays later = one-member (λ state. HoldsOfOne P state.rows) s (map (λ g. g.state) slot.graves) later (one-member P row s.rows here outlives.itself)

    -- the bucket becomes one with these versions, and a version of it stays if these keep it
    alive_by : (before : State) (rows : List Row) → IsOneOf (before ∷ map (λ g. g.state) slot.graves) s → (IsOneOf before.rows row → IsCovered before t row → HoldsOfOne P rows)
        → HoldsOfOne P rows ⊎ HoldsOfOne (λ state. HoldsOfOne P state.rows) (map (λ g. g.state) slot.graves)
    alive_by before rows (inl same) keeps =
        inl (keeps (subst (λ state. IsOneOf state.rows row) (sym same) here) (subst (λ state. IsCovered state t row) (sym same) h))
    alive_by before rows (inr later) keeps = inr (buried_stays later)

    alive_stays : (before : State) (rows : List Row) → slot.alive ≡ Some before → (IsOneOf before.rows row → IsCovered before t row → HoldsOfOne P rows)
        → HoldsOfOne P rows ⊎ HoldsOfOne (λ state. HoldsOfOne P state.rows) (map (λ g. g.state) slot.graves)
    alive_stays before rows alive keeps = alive_by before rows (subst (λ states. IsOneOf states s) (buckets_are slot (Some before) alive) is) keeps

    same_rows : (before : State) → slot.alive ≡ Some before → HoldsOfOne P before.rows ⊎ HoldsOfOne (λ state. HoldsOfOne P state.rows) (map (λ g. g.state) slot.graves)
    same_rows before alive = alive_stays before before.rows alive (λ had covered. one-member P row before.rows had outlives.itself)

    bury_by : (pre : Pre) (before : State) → bucket_delete_refusal pre before ≡ None → IsOneOf (before ∷ map (λ g. g.state) slot.graves) s
        → HoldsOfOne (λ state. HoldsOfOne P state.rows) (map (λ g. g.state) (with_grave t (grave_of t before) slot.graves))
    bury_by pre before passed (inl same) =
        let had : IsOneOf before.rows row = subst (λ state. IsOneOf state.rows row) (sym same) here in
        let covered : IsCovered before t row = subst (λ state. IsCovered state t row) (sym same) h in
        buried_is (nat_lt t (grave_of t before).hard) (λ state. HoldsOfOne P state.rows) (grave_of t before) slot.graves (grave_later before t pre row passed had covered)
        (subst (HoldsOfOne P) (grave_rows t before) (one-member P row before.rows had outlives.itself))
    bury_by pre before passed (inr later) =
        buried_still (nat_lt t (grave_of t before).hard) (λ state. HoldsOfOne P state.rows) (grave_of t before) slot.graves (buried_stays later)

    -- one of the deleted buckets is alive again
    unbury_by : (g : Grave) (generation : ℕ) → (HoldsOfOne P g.state.rows ⊎ HoldsOfOne (λ x. HoldsOfOne P x.state.rows) (without_grave generation slot.graves))
        → HoldsOfOne (λ state. HoldsOfOne P state.rows) (restored_state t g.state ∷ map (λ x. x.state) (without_grave generation slot.graves))
    unbury_by g generation (inl it) = inl it
    unbury_by g generation (inr other) = inr (map-member (λ x. x.state) (λ state. HoldsOfOne P state.rows) (without_grave generation slot.graves) other)

    restored_stays : (g : Grave) (generation : ℕ) → grave_found generation slot.graves ≡ Some g → slot.alive ≡ None → Stays P (unburied slot generation (restored_state t g.state))
    restored_stays g generation found free =
        unbury_by g generation (one-taken (λ x. HoldsOfOne P x.state.rows) (is_grave_of generation) g slot.graves found
        (member-map (λ x. x.state) (λ state. HoldsOfOne P state.rows) slot.graves
        (buried_stays (subst (λ states. IsOneOf states s) (buckets_are slot None free) is))))

    made_keeps : IfMade (λ done. Stays P done.1) slot t
    made_keeps before name pre meta hashed components expect alive passed =
        alive_stays before _ alive
        (made_stays before name pre meta hashed components expect (next_generation t slot.last_object) passed)

    finished_keeps : (number : ℕ) → IfFinished (λ done. Stays P done.1) slot t number
    finished_keeps number = record {
      keeps = λ n. stays_as_is;
      was_done = λ before upload made alive found ended. stays_as_is;
      makes = λ before upload alive found runs passed.
          alive_stays before _ alive (finish_stays slot before number upload passed);
    }

    pub command_stays : (command : Command) → Stays P (command_step slot t command).1
    command_stays (BucketInsert bucket settings) =
        insert_cases (λ done. Stays P done.1) slot t bucket settings refused_stays
        (λ free. inr (buried_stays (subst (λ states. IsOneOf states s) (buckets_are slot None free) is)))
    command_stays (BucketList shard prefix after most) = stays_as_is
    command_stays (BucketGet bucket pre) = bucket_get_cases (λ done. Stays P done.1) slot bucket pre refused_stays (λ state. stays_as_is)
    command_stays (BucketChange bucket pre change whole) =
        bucket_change_cases (λ done. Stays P done.1) slot t bucket pre change whole refused_stays (λ before alive passed. same_rows before alive)
    command_stays (BucketDelete bucket pre) =
        bucket_delete_cases (λ done. Stays P done.1) slot t pre refused_stays
        (λ before alive passed. bury_by pre before passed (subst (λ states. IsOneOf states s) (buckets_are slot (Some before) alive) is))
    command_stays (BucketLock bucket pre) = bucket_lock_cases (λ done. Stays P done.1) slot t bucket pre refused_stays (λ before alive. same_rows before alive)
    command_stays (BucketRestore bucket generation) =
        bucket_restore_cases (λ done. Stays P done.1) slot t bucket generation refused_stays (λ g found free. restored_stays g generation found free)
    command_stays (Listing bucket query) = list_cases (λ done. Stays P done.1) slot query refused_stays (λ state. stays_as_is)
    command_stays (Get bucket name generation soft pre) = get_cases (λ done. Stays P done.1) slot name generation soft pre refused_stays (λ shown settings. stays_as_is)
    command_stays (Change bucket name generation pre change whole) =
        change_cases (λ done. Stays P done.1) slot t name generation pre change whole refused_stays
        (λ before chosen alive found. alive_stays before _ alive (λ had covered. change_stays before name generation change whole chosen found had))
    command_stays (Delete bucket name generation pre) =
        delete_cases (λ done. Stays P done.1) slot t name generation pre refused_stays
        (λ before chosen alive found passed. alive_stays before _ alive (delete_stays before name generation pre chosen found passed))
    command_stays (Put bucket name pre meta hashed components expect) =
        put_cases (λ done. Stays P done.1) slot t name pre meta hashed components expect refused_stays made_keeps
    command_stays (Compose bucket name pre meta parts) = compose_cases (λ done. Stays P done.1) slot t name pre meta parts refused_stays made_keeps
    command_stays (Restore bucket name generation pre) = restore_cases (λ done. Stays P done.1) slot t name generation pre refused_stays made_keeps
    command_stays (Start bucket name pre meta expect total) =
        start_cases (λ done. Stays P done.1) slot t name pre meta expect total refused_stays (λ before alive. same_rows before alive)
    command_stays (Append bucket upload offset total content) =
        append_cases (λ done. Stays P done.1) slot upload offset total content refused_stays (λ before progress alive answered. same_rows before alive)
    command_stays (Finish bucket upload hashed) = finish_cases (λ done. Stays P done.1) slot t upload refused_stays (finished_keeps upload)
    command_stays (Cancel bucket upload) =
        cancel_cases (λ done. Stays P done.1) slot upload refused_stays (λ before progress alive answered. same_rows before alive)
