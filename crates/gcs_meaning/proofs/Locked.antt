-- A live or noncurrent version under a locked policy stays live or noncurrent until its end.
use Rattle.std.proofs.Common.{◌≡◌, ◌≢◌, ◌≤◌, ◌<◌, ℕ, Bool, true, false, List, [], ◌∷◌, Option, Some, None, refl, subst, sym, inl, inr, arith}
use Rattle.std.specs.Prelude.{nat_lt, ◌||◌, if◌then◌else◌}
use Rattle.std.specs.List.{list_any}
use Rattle.std.proofs.lemmas.Bool.Decides.{nat_tests}
use Rattle.gcs_meaning.specs.declared.changes.SettingsChange.{SettingsChange}
use Rattle.gcs_meaning.specs.declared.settings.Pre.{Pre}
use Rattle.gcs_meaning.specs.declared.settings.Retention.{Retention}
use Rattle.gcs_meaning.specs.declared.settings.Settings.{Settings}
use Rattle.gcs_meaning.specs.declared.version.Kind.{Kind}
use Rattle.gcs_meaning.specs.declared.version.Kind.TheVariants.{Live, Noncurrent, Soft}
use Rattle.gcs_meaning.specs.declared.version.Row.{Row}
use Rattle.gcs_meaning.specs.declared.version.RowFacts.{RowFacts}
use Rattle.gcs_meaning.specs.declared.policy.Cover.{Cover}
use Rattle.gcs_meaning.specs.declared.policy.Cover.TheVariants.{Free, Temporary, EventBased, Retained}
use Rattle.gcs_meaning.specs.declared.reason.Reason.TheVariants.{Locked}
use Rattle.gcs_meaning.specs.declared.command.Command.{Command}
use Rattle.gcs_meaning.specs.declared.command.Command.TheVariants.{BucketInsert, BucketList, BucketGet, BucketChange, BucketDelete, BucketLock, BucketRestore, List as Listing, Get, Change, Delete, Put, Compose, Restore, Start, Append, Finish, Cancel}
use Rattle.gcs_meaning.specs.declared.command.Entry.{Entry}
use Rattle.gcs_meaning.specs.Content.{bytes_in}
use Rattle.gcs_meaning.specs.Choosing.{is_readable}
use Rattle.gcs_meaning.specs.Moment.{effective_moment, next_generation}
use Rattle.gcs_meaning.specs.Policy.{bucket_pre_refusal, cover_of, cover_of_kind, kept_cover, locked_refusal, policy_refusal, retained_until, retention_cover}
use Rattle.gcs_meaning.specs.Retiring.{facts_of}
use Rattle.gcs_meaning.specs.Slot.{State, Slot}
use Rattle.gcs_meaning.specs.Aging.{kind_stays, aged_state, aged_alive, aged}
use Rattle.gcs_meaning.specs.BucketChange.{bucket_change_refusal, bucket_change_state, changed_period, changed_settings, policy_of, since_change}
use Rattle.gcs_meaning.specs.BucketLock.{locked_settings}
use Rattle.gcs_meaning.specs.ObjectChange.{is_released, change_state}
use Rattle.gcs_meaning.specs.ObjectDeletion.{delete_state}
use Rattle.gcs_meaning.specs.Put.{new_row, put_state}
use Rattle.gcs_meaning.specs.Uploads.{UploadMap}
use Rattle.gcs_meaning.specs.UploadCalls.{with_uploads}
use Rattle.gcs_meaning.specs.Finish.{done_state, finish_row}
use Rattle.gcs_meaning.specs.Fit.{IsFit, IsFitRow}
use Rattle.gcs_meaning.specs.Keeping.{HoldsOfOne, IsOneOf, IsCovered, IsReadableIn}
use Rattle.gcs_meaning.specs.Runs.{slot_after, AreBefore}
use Rattle.gcs_meaning.specs.Step.{step, command_step}
use Rattle.gcs_meaning.specs.Laws.{LockedIsKept}
use Rattle.gcs_meaning.proofs.Passing.{second_passed}
use Rattle.gcs_meaning.proofs.Members.{all-member, one-filter, one-found, one-member, one-weaker}
use Rattle.gcs_meaning.proofs.FitAged.{fit_aged}
use Rattle.gcs_meaning.proofs.FitBuckets.{living_fit}
use Rattle.gcs_meaning.proofs.Fitting.{fit_is_kept}
use Rattle.gcs_meaning.proofs.Staying.{Outlives, change_stays, delete_stays, empty_passed, finish_stays, made_stays}
use Rattle.gcs_meaning.proofs.Covering.{IsThat, itself}
use Rattle.gcs_meaning.proofs.SameSettings.{change_settings, delete_settings, put_settings}
use Rattle.gcs_meaning.proofs.Cases.{IfRefused, IfMade, IfFinished, insert_cases, bucket_get_cases, bucket_change_cases, bucket_delete_cases, bucket_lock_cases, bucket_restore_cases, list_cases, get_cases, change_cases, delete_cases, put_cases, compose_cases, restore_cases, start_cases, append_cases, finish_cases, cancel_cases}

-- the version that a row was, still live or noncurrent, and its retention has begun no earlier
pub record IsStill (was row : Row) : Type 0 where
  pub that : IsThat was row
  pub readable : is_readable row.kind ≡ true
  pub start : was.retention_start ≤ row.retention_start

-- a policy that is locked, with a period of at least so many seconds
pub record IsLockedFor (period : ℕ) (retention : Option Retention) : Type 0 where
  pub policy : Retention
  pub there : retention ≡ Some policy
  pub locked : policy.locked ≡ true
  pub least : period ≤ policy.period

-- such a version is in a bucket with such a policy
pub record HasLocked (was : Row) (period : ℕ) (s : State) : Type 0 where
  pub policy : IsLockedFor period s.settings.retention
  pub version : HoldsOfOne (IsStill was) s.rows

abbrev AliveHasLocked : Row → ℕ → Option State → Type 0
AliveHasLocked was period None = ⊥
AliveHasLocked was period (Some s) = HasLocked was period s

-- ---- until its end it is covered
retained_covers : (b : Bool) (until t : ℕ) → nat_lt t until ≡ b → t < until → (if b then Retained until else Free) ≢ Free
retained_covers true until t is before = λ same. cc
retained_covers false until t is before = absurd (grind (arith, nat_tests))

policy_covers : (retention : Option Retention) (period start t : ℕ) → IsLockedFor period retention → t < retained_until start period → retention_cover retention start t ≢ Free
policy_covers retention period start t h before =
    let later : t < retained_until start h.policy.period = omega (arith, before, h.least) in
    subst (λ r. retention_cover r start t ≢ Free) (sym h.there) (retained_covers (nat_lt t (retained_until start h.policy.period)) (retained_until start h.policy.period) t refl later)

holds_cover : (temporary event : Bool) (cover : Cover) → cover ≢ Free → (if temporary then Temporary else if event then EventBased else cover) ≢ Free
holds_cover true event cover h = λ same. cc
holds_cover false true cover h = λ same. cc
holds_cover false false cover h = h

kind_covers : (kind : Kind) (settings : Settings) (facts : RowFacts) (t : ℕ) → is_readable kind ≡ true → kept_cover settings facts t ≢ Free → cover_of_kind kind settings facts t ≢ Free
kind_covers Live settings facts t readable h = h
kind_covers (Noncurrent at) settings facts t readable h = h
kind_covers (Soft at hard) settings facts t readable h = cc

still_covered : (was : Row) (period t : ℕ) (s : State) (row : Row) → IsLockedFor period s.settings.retention → IsStill was row → t < retained_until was.retention_start period → IsCovered s t row
unfolding cover_of
still_covered was period t s row policy still before =
    let later : t < retained_until row.retention_start period = omega (arith, before, still.start) in
    kind_covers row.kind s.settings (facts_of row) t still.readable
    (holds_cover (facts_of row).temporary_hold (facts_of row).event_hold (retention_cover s.settings.retention row.retention_start t) (policy_covers s.settings.retention period row.retention_start t policy later))

-- ---- ageing leaves it
readable_stays : (t : ℕ) (kind : Kind) → is_readable kind ≡ true → kind_stays t kind ≡ true
readable_stays t Live h = refl
readable_stays t (Noncurrent at) h = refl
readable_stays t (Soft at hard) h = cc

locked_aged : (was : Row) (period t : ℕ) (alive : Option State) → AliveHasLocked was period alive → AliveHasLocked was period (aged_alive t alive)
unfolding aged_state
locked_aged was period t None h = h
locked_aged was period t (Some s) h = record {
  policy = h.policy;
  version = one-filter (IsStill was) (λ row. kind_stays t row.kind) (λ row still. readable_stays t row.kind still.readable) s.rows h.version;
}

-- ---- a locked policy is neither removed nor shortened
longer_by : (b : Bool) (kept asked : ℕ) → nat_lt asked kept ≡ b → (if b then Some (Locked kept asked) else None) ≡ None → kept ≤ asked
longer_by true kept asked is h = cc
longer_by false kept asked is h = grind (arith, nat_tests)

changed_locked : (period t : ℕ) (policy : Retention) (asked : Option ℕ) → policy.locked ≡ true → period ≤ policy.period → locked_refusal policy.period asked ≡ None
    → IsLockedFor period (policy_of t (Some policy) asked)
changed_locked period t policy None locked least passed = cc
changed_locked period t policy (Some asked) locked least passed = record {
  policy = record policy { period = asked; since = since_change t policy.period policy.since asked };
  there = refl;
  locked = locked;
  least = let longer : policy.period ≤ asked = longer_by (nat_lt asked policy.period) policy.period asked refl passed in omega (arith, least, longer);
}

locked_passed : (policy : Retention) (asked : Option ℕ) → policy.locked ≡ true → policy_refusal (Some policy) asked ≡ None → locked_refusal policy.period asked ≡ None
locked_passed policy asked locked passed = subst (λ (b : Bool). (if b then locked_refusal policy.period asked else None) ≡ None) locked passed

change_locked : (period t : ℕ) (retention : Option Retention) (asked : Option ℕ) → IsLockedFor period retention → policy_refusal retention asked ≡ None → IsLockedFor period (policy_of t retention asked)
change_locked period t retention asked h passed =
    subst (λ r. IsLockedFor period (policy_of t r asked)) (sym h.there)
    (changed_locked period t h.policy asked h.locked h.least (locked_passed h.policy asked h.locked (subst (λ r. policy_refusal r asked ≡ None) h.there passed)))

bucket_change_locked : (was : Row) (period t : ℕ) (pre : Pre) (whole : Bool) (change : SettingsChange) (s : State) → bucket_change_refusal pre whole change s ≡ None → HasLocked was period s
    → HasLocked was period (bucket_change_state s t (changed_settings t whole change s.settings))
unfolding bucket_change_refusal changed_settings
bucket_change_locked was period t pre whole change s passed h = record {
  policy = change_locked period t s.settings.retention (changed_period whole change s.settings) h.policy (second_passed (bucket_pre_refusal pre s.metageneration) _ passed);
  version = h.version;
}

bucket_lock_locked : (was : Row) (period t : ℕ) (s : State) → HasLocked was period s → HasLocked was period (bucket_change_state s t (locked_settings s.settings))
bucket_lock_locked was period t s h = record {
  policy = record { policy = record h.policy.policy { locked = true }; there = rw h.policy.there refl; locked = refl; least = h.policy.least };
  version = h.version;
}

-- ---- a bucket with a readable version isn't deleted
any_not : (p : Row → Bool) (row : Row) (rows : List Row) → list_any p rows ≡ false → IsOneOf rows row → p row ≡ true → ⊥
any_not p row [] none is passes = absurd is
any_not p row (x ∷ xs) none (inl same) passes = first (p x) (list_any p xs) (subst (λ y. p y ≡ true) (sym same) passes) none
  where
    first : (b more : Bool) → b ≡ true → (b || more) ≡ false → ⊥
    first true more is none = cc
    first false more is none = cc
any_not p row (x ∷ xs) none (inr later) passes = any_not p row xs (rest (p x) (list_any p xs) none) later passes
  where
    rest : (b more : Bool) → (b || more) ≡ false → more ≡ false
    rest true more none = cc
    rest false more none = none

-- ---- one command, on a slot that is aged
start_later : (b : Bool) (least t start : ℕ) → least ≤ t → least ≤ start → least ≤ (if b then t else start)
start_later true least t start now before = now
start_later false least t start now before = before

still_outlives : (was : Row) (t : ℕ) (row : Row) → IsStill was row → row.retention_start ≤ t → Outlives (IsStill was) t row
still_outlives was t row still begun = record {
  itself = still;
  changed = λ meta readable. record {
    that = record { name_is = still.that.name_is; generation_is = still.that.generation_is; bytes_are = still.that.bytes_are };
    readable = readable;
    start = start_later (is_released row.meta meta) was.retention_start t row.retention_start (omega (arith, still.start, begun)) still.start;
  };
  noncurrent = λ readable. record {
    that = record { name_is = still.that.name_is; generation_is = still.that.generation_is; bytes_are = still.that.bytes_are };
    readable = refl;
    start = still.start;
  };
}

module _ (was : Row) (period : ℕ) (slot : Slot) (t : ℕ) (now : slot.last_moment ≡ t) (fit : IsFit slot) (before : t < retained_until was.retention_start period) (h : AliveHasLocked was period slot.alive) where
  living_locked : (s : State) → slot.alive ≡ Some s → HasLocked was period s
  living_locked s is = subst (AliveHasLocked was period) is h

  not_free : slot.alive ≡ None → ⊥
  not_free free = subst (AliveHasLocked was period) free h

  -- what a command makes of the bucket's versions, where it keeps one that is covered
  keeps_locked : (s : State) (rows : List Row) → slot.alive ≡ Some s
      → ((row : Row) → Outlives (IsStill was) t row → IsOneOf s.rows row → IsCovered s t row → HoldsOfOne (IsStill was) rows) → HoldsOfOne (IsStill was) rows
  keeps_locked s rows is keeps =
      let locked : HasLocked was period s = living_locked s is in
      let found = one-found (IsStill was) s.rows locked.version in
      let begun : found.0.retention_start ≤ slot.last_moment = (all-member (IsFitRow slot.last_object slot.last_moment) found.0 s.rows found.1.0 (living_fit slot s is fit).rows).start in
      keeps found.0 (still_outlives was t found.0 found.1.1 (omega (arith, begun, now))) found.1.0 (still_covered was period t s found.0 locked.policy found.1.1 before)

  refused_locked : IfRefused (λ done. AliveHasLocked was period done.1.alive) slot
  refused_locked reason = h

  -- the bucket becomes one with the same policy
  with_rows : (s after : State) → slot.alive ≡ Some s → after.settings ≡ s.settings
      → ((row : Row) → Outlives (IsStill was) t row → IsOneOf s.rows row → IsCovered s t row → HoldsOfOne (IsStill was) after.rows) → HasLocked was period after
  with_rows s after is same keeps =
      record { policy = subst (λ settings. IsLockedFor period settings.retention) (sym same) (living_locked s is).policy; version = keeps_locked s after.rows is keeps }

  made_locked : IfMade (λ done. AliveHasLocked was period done.1.alive) slot t
  made_locked s name pre meta hashed components expect is passed =
      with_rows s (put_state s t (new_row s.settings t (next_generation t slot.last_object) name meta hashed components)) is (put_settings s t _)
      (λ row outlives. made_stays (IsStill was) t row outlives s name pre meta hashed components expect (next_generation t slot.last_object) passed)

  finished_locked : (number : ℕ) → IfFinished (λ done. AliveHasLocked was period done.1.alive) slot t number
  finished_locked number = record {
    keeps = λ n. h;
    was_done = λ s upload made is found ended. h;
    makes = λ s upload is found runs passed.
        let row : Row = finish_row slot s t upload in
        with_rows s (put_state (done_state s number row) t row) is (put_settings (done_state s number row) t row)
        (λ row outlives. finish_stays (IsStill was) t row outlives slot s number upload passed);
  }

  -- a bucket with other uploads
  uploads_locked : (s : State) (uploads : UploadMap) → slot.alive ≡ Some s → HasLocked was period (with_uploads uploads s)
  uploads_locked s uploads is = record { policy = (living_locked s is).policy; version = (living_locked s is).version }

  command_locked : (command : Command) → AliveHasLocked was period (command_step slot t command).1.alive
  command_locked (BucketInsert bucket settings) =
      insert_cases (λ done. AliveHasLocked was period done.1.alive) slot t bucket settings refused_locked (λ free. absurd (not_free free))
  command_locked (BucketList shard prefix after most) = h
  command_locked (BucketGet bucket pre) = bucket_get_cases (λ done. AliveHasLocked was period done.1.alive) slot bucket pre refused_locked (λ s. h)
  command_locked (BucketChange bucket pre change whole) =
      bucket_change_cases (λ done. AliveHasLocked was period done.1.alive) slot t bucket pre change whole refused_locked
      (λ s is passed. bucket_change_locked was period t pre whole change s passed (living_locked s is))
  command_locked (BucketDelete bucket pre) =
      bucket_delete_cases (λ done. AliveHasLocked was period done.1.alive) slot t pre refused_locked
      (λ s is passed.
      let found = one-found (IsStill was) s.rows (living_locked s is).version in
      absurd (any_not (λ row. is_readable row.kind) found.0 s.rows (empty_passed pre s passed) found.1.0 found.1.1.readable))
  command_locked (BucketLock bucket pre) =
      bucket_lock_cases (λ done. AliveHasLocked was period done.1.alive) slot t bucket pre refused_locked (λ s is. bucket_lock_locked was period t s (living_locked s is))
  command_locked (BucketRestore bucket generation) =
      bucket_restore_cases (λ done. AliveHasLocked was period done.1.alive) slot t bucket generation refused_locked (λ g found free. absurd (not_free free))
  command_locked (Listing bucket query) = list_cases (λ done. AliveHasLocked was period done.1.alive) slot query refused_locked (λ s. h)
  command_locked (Get bucket name generation soft pre) =
      get_cases (λ done. AliveHasLocked was period done.1.alive) slot name generation soft pre refused_locked (λ row settings. h)
  command_locked (Change bucket name generation pre change whole) =
      change_cases (λ done. AliveHasLocked was period done.1.alive) slot t name generation pre change whole refused_locked
      (λ s chosen is found. with_rows s _ is (change_settings s name generation _)
      (λ row outlives here covered. change_stays (IsStill was) t row outlives s name generation change whole chosen found here))
  command_locked (Delete bucket name generation pre) =
      delete_cases (λ done. AliveHasLocked was period done.1.alive) slot t name generation pre refused_locked
      (λ s chosen is found passed. with_rows s (delete_state s t name generation) is (delete_settings s t name generation)
      (λ row outlives. delete_stays (IsStill was) t row outlives s name generation pre chosen found passed))
  command_locked (Put bucket name pre meta hashed components expect) =
      put_cases (λ done. AliveHasLocked was period done.1.alive) slot t name pre meta hashed components expect refused_locked made_locked
  command_locked (Compose bucket name pre meta parts) = compose_cases (λ done. AliveHasLocked was period done.1.alive) slot t name pre meta parts refused_locked made_locked
  command_locked (Restore bucket name generation pre) =
      restore_cases (λ done. AliveHasLocked was period done.1.alive) slot t name generation pre refused_locked made_locked
  command_locked (Start bucket name pre meta expect total) =
      start_cases (λ done. AliveHasLocked was period done.1.alive) slot t name pre meta expect total refused_locked (λ s is. uploads_locked s _ is)
  command_locked (Append bucket upload offset total content) =
      append_cases (λ done. AliveHasLocked was period done.1.alive) slot upload offset total content refused_locked (λ s progress is answered. uploads_locked s _ is)
  command_locked (Finish bucket upload hashed) = finish_cases (λ done. AliveHasLocked was period done.1.alive) slot t upload refused_locked (finished_locked upload)
  command_locked (Cancel bucket upload) =
      cancel_cases (λ done. AliveHasLocked was period done.1.alive) slot upload refused_locked (λ s progress is answered. uploads_locked s _ is)

-- ---- one entry after the other
locked_after : (was : Row) (period : ℕ) (slot : Slot) (entries : List Entry) → IsFit slot → AliveHasLocked was period slot.alive → AreBefore (retained_until was.retention_start period) slot entries
    → AliveHasLocked was period (slot_after slot entries).alive
locked_after was period slot [] fit h before = h
locked_after was period slot (e ∷ es) fit h before =
    let t : ℕ = effective_moment slot.last_moment e.moment in
    locked_after was period (step slot e.moment e.command).1 es (fit_is_kept.kept slot e.moment e.command fit)
    (command_locked was period (aged slot t) t refl (fit_aged slot t (omega arith) fit) before.0 (locked_aged was period t slot.alive h) e.command) before.1

readable_in : (was : Row) (period : ℕ) (alive : Option State) → AliveHasLocked was period alive → IsReadableIn alive was.name was.generation (bytes_in was.hashed)
readable_in was period None h = h
readable_in was period (Some s) h =
    one-weaker (IsStill was) (λ row. IsThat was row × (is_readable row.kind ≡ true)) (λ row still. (still.that, still.readable)) s.rows h.version

pub locked_is_kept : LockedIsKept
locked_is_kept slot entries s policy row fit is there locked here readable before =
    let least : policy.period ≤ policy.period = omega arith in
    let begun : row.retention_start ≤ row.retention_start = omega arith in
    let has : HasLocked row policy.period s = record {
      policy = record { policy = policy; there = there; locked = locked; least = least };
      version = one-member (IsStill row) row s.rows here (record { that = itself row; readable = readable; start = begun });
    } in
    readable_in row policy.period (slot_after slot entries).alive
    (locked_after row policy.period slot entries fit (subst (AliveHasLocked row policy.period) (sym is) has) before)
