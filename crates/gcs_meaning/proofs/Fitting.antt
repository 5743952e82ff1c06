-- A slot that is fit stays fit.
use Rattle.std.proofs.Common.{◌≡◌, ◌≤◌, ◌<◌, ◌+◌, ℕ, Some, None, length, refl, arith}
use Rattle.std.specs.Prelude.{nat_lt}
use Rattle.std.specs.List.{AllByRecursion}
use Rattle.gcs_chunks.specs.Content.{bytes_of, no_content}
use Rattle.gcs_chunks.proofs.Words.{bytes_of-no_content}
use Rattle.gcs_meaning.specs.declared.uploading.Upload.{Upload}
use Rattle.gcs_meaning.specs.declared.version.Row.{Row}
use Rattle.gcs_meaning.specs.declared.command.Answer.{Answer}
use Rattle.gcs_meaning.specs.declared.command.Command.{Command}
use Rattle.gcs_meaning.specs.declared.command.Command.TheVariants.{BucketInsert, BucketList, BucketGet, BucketChange, BucketDelete, BucketLock, BucketRestore, List as Listing, Get, Change, Delete, Put, Compose, Restore, Start, Append, Finish, Cancel}
use Rattle.gcs_meaning.specs.Moment.{effective_moment, next_generation}
use Rattle.gcs_meaning.specs.Slot.{State, Slot, fresh_slot, with_alive}
use Rattle.gcs_meaning.specs.Uploads.{UploadMap}
use Rattle.gcs_meaning.specs.Aging.{aged}
use Rattle.gcs_meaning.specs.Tests.{largest_object}
use Rattle.gcs_meaning.specs.BucketDeletion.{grave_of}
use Rattle.gcs_meaning.specs.UploadCalls.{with_uploads}
use Rattle.gcs_meaning.specs.Start.{with_started}
use Rattle.gcs_meaning.specs.Finish.{digested_of, finish_row, done_state}
use Rattle.gcs_meaning.specs.Put.{put_state}
use Rattle.gcs_meaning.specs.Step.{step, command_step}
use Rattle.gcs_meaning.specs.Fit.{IsFitRow, IsFitUpload, IsFitState, IsFitGrave, IsFit}
use Rattle.gcs_meaning.specs.Laws.{FitIsKept}
use Rattle.gcs_meaning.proofs.Listed.{all-weaker}
use Rattle.gcs_meaning.proofs.Chosen.{all-chosen}
use Rattle.gcs_meaning.proofs.Replays.{slot_replayed}
use Rattle.gcs_meaning.proofs.FitAged.{state_later, grave_later, fit_aged}
use Rattle.gcs_meaning.proofs.FitBuckets.{living_fit, alive_fit, insert_fit, bucket_change_fit, bucket_lock_fit, grave_fit, with_grave_fit, bucket_restore_fit}
use Rattle.gcs_meaning.proofs.FitVersions.{delete_state_fit, delete_same, changed_row_fit, change_state_fit, change_same, put_state_fit, put_same, size_within, new_row_fit}
use Rattle.gcs_meaning.proofs.FitUploads.{all-started, append_fit, cancel_fit, done_fit}
use Rattle.gcs_meaning.proofs.Cases.{IfRefused, IfMade, IfFinished, insert_cases, bucket_get_cases, bucket_change_cases, bucket_delete_cases, bucket_lock_cases, bucket_restore_cases, list_cases, get_cases, change_cases, delete_cases, put_cases, compose_cases, restore_cases, start_cases, append_cases, finish_cases, cancel_cases}

-- no bytes are within the limit
none_within : length (bytes_of no_content) ≤ largest_object
none_within = rw bytes_of-no_content (omega arith)

-- what a command leaves is fit
abbrev Fits : Answer × Slot → Type 0
Fits done = IsFit done.1

module _ (slot : Slot) (t : ℕ) (now : t ≤ slot.last_moment) (h : IsFit slot) where
  refused_fit : IfRefused Fits slot
  refused_fit reason = h

  -- the bucket becomes another one, of its generation
  becomes_fit : (s after : State) → slot.alive ≡ Some s → after.generation ≡ s.generation → IsFitState slot.last_object slot.last_moment slot.next_upload after
      → IsFit (with_alive after slot)
  becomes_fit s after is same new =
      let still : slot.last_object ≤ slot.last_object = omega arith in
      alive_fit slot s after slot.last_object is still same new h

  -- a version is put, into the bucket as it is or once an upload of it is done
  version_fit : (s into : State) (row : Row) → slot.alive ≡ Some s → into.generation ≡ s.generation → slot.last_object < row.generation
      → AllByRecursion (λ other. other.generation < row.generation) into.rows → IsFitRow row.generation slot.last_moment row
      → IsFitState row.generation slot.last_moment slot.next_upload into → IsFit (record slot { alive = Some (put_state into t row); last_object = row.generation })
  version_fit s into row is same above below new fit =
      let least : slot.last_object ≤ row.generation = omega (arith, above) in
      alive_fit slot s (put_state into t row) row.generation is least (rw (put_same into t row) same)
      (put_state_fit row.generation t slot.last_moment slot.next_upload into row now below new fit) h

  -- a bucket under the next generation of versions
  next_fit : (s : State) → slot.alive ≡ Some s → IsFitState (next_generation t slot.last_object) slot.last_moment slot.next_upload s
  next_fit s is =
      let above : slot.last_object ≤ next_generation t slot.last_object = omega arith in
      let still : slot.last_moment ≤ slot.last_moment = omega arith in
      let more : slot.next_upload ≤ slot.next_upload = omega arith in
      state_later slot.last_object (next_generation t slot.last_object) slot.last_moment slot.last_moment slot.next_upload slot.next_upload above still more s (living_fit slot s is h)

  next_below : (s : State) → slot.alive ≡ Some s → AllByRecursion (λ other. other.generation < next_generation t slot.last_object) s.rows
  next_below s is =
      all-weaker (IsFitRow slot.last_object slot.last_moment) (λ other. other.generation < next_generation t slot.last_object)
      (λ other fit. omega (arith, fit.generation)) s.rows (living_fit slot s is h).rows

  made_fit : IfMade Fits slot t
  made_fit s name pre meta hashed components expect is passed =
      version_fit s s _ is refl (omega arith) (next_below s is)
      (new_row_fit s.settings (next_generation t slot.last_object) t slot.last_moment name meta hashed components now (size_within s.settings t pre expect hashed _ passed))
      (next_fit s is)

  done_state_fit : (o number : ℕ) (row : Row) (s : State) → IsFitRow o slot.last_moment row → IsFitState o slot.last_moment slot.next_upload s
      → IsFitState o slot.last_moment slot.next_upload (done_state s number row)
  done_state_fit o number row s made fit = record {
    created = fit.created;
    updated = fit.updated;
    soft = fit.soft;
    policy = fit.policy;
    rows = fit.rows;
    rise = fit.rise;
    single = fit.single;
    uploads = done_fit o slot.last_moment slot.next_upload number row s.uploads made fit.uploads;
  }

  finished_fit : (number : ℕ) → IfFinished Fits slot t number
  finished_fit number = record {
    keeps = λ n. h;
    was_done = λ s upload row is found ended. h;
    makes = λ s upload is found runs passed.
        let o : ℕ = next_generation t slot.last_object in
        let row : Row = finish_row slot s t upload in
        let new : IsFitRow o slot.last_moment row =
        new_row_fit s.settings o t slot.last_moment upload.name upload.meta (digested_of upload) None now (size_within s.settings t upload.pre upload.expect (digested_of upload) _ passed) in
        version_fit s (done_state s number row) row is refl (omega arith) (next_below s is) new (done_state_fit o number row s new (next_fit s is));
  }

  -- the uploads of the bucket become others
  uploads_fit : (s : State) (uploads : UploadMap) → slot.alive ≡ Some s → AllByRecursion (IsFitUpload slot.last_object slot.last_moment slot.next_upload) uploads
      → IsFit (with_alive (with_uploads uploads s) slot)
  uploads_fit s uploads is new =
      let living : IsFitState slot.last_object slot.last_moment slot.next_upload s = living_fit slot s is h in
      becomes_fit s (with_uploads uploads s) is refl (record {
        created = living.created;
        updated = living.updated;
        soft = living.soft;
        policy = living.policy;
        rows = living.rows;
        rise = living.rise;
        single = living.single;
        uploads = new;
      })

  -- an upload is started, under the next number
  started_fit : (s : State) (upload : Upload) → slot.alive ≡ Some s → IsFitUpload slot.last_object slot.last_moment (slot.next_upload + 1) (slot.next_upload, upload)
      → Fits (with_started slot s upload)
  started_fit s upload is new =
      let o : ℕ = slot.last_object in
      let m : ℕ = slot.last_moment in
      let u : ℕ = slot.next_upload in
      let same : o ≤ o = omega arith in
      let still : m ≤ m = omega arith in
      let more : u ≤ u + 1 = omega arith in
      let living : IsFitState o m (u + 1) s = state_later o o m m u (u + 1) same still more s (living_fit slot s is h) in
      record {
        alive = record {
          created = living.created;
          updated = living.updated;
          soft = living.soft;
          policy = living.policy;
          rows = living.rows;
          rise = living.rise;
          single = living.single;
          uploads = all-started (IsFitUpload o m (u + 1)) u upload s.uploads new (λ numbered fit. record { number = fit.number; start = new.start; kept = new.kept; end = new.end }) living.uploads;
        };
        graves = all-weaker (IsFitGrave o m u) (IsFitGrave o m (u + 1)) (grave_later o o m m u (u + 1) same still more) slot.graves h.graves;
        counted = (becomes_fit s s is refl (living_fit slot s is h)).counted;
        differ = (becomes_fit s s is refl (living_fit slot s is h)).differ;
      }

  command_fit : (command : Command) → IsFit (command_step slot t command).1
  command_fit (BucketInsert bucket settings) = insert_cases Fits slot t bucket settings refused_fit (λ free. insert_fit slot t settings free now h)
  command_fit (BucketList shard prefix after most) = h
  command_fit (BucketGet bucket pre) = bucket_get_cases Fits slot bucket pre refused_fit (λ s. h)
  command_fit (BucketChange bucket pre change whole) =
      bucket_change_cases Fits slot t bucket pre change whole refused_fit
      (λ s is passed. becomes_fit s _ is refl (bucket_change_fit slot.last_object t slot.last_moment slot.next_upload whole change s now (living_fit slot s is h)))
  command_fit (BucketDelete bucket pre) =
      bucket_delete_cases Fits slot t pre refused_fit
      (λ s is passed. with_grave_fit (nat_lt t (grave_of t s).hard) slot t s is (grave_fit slot.last_object slot.last_moment slot.next_upload t pre s passed (living_fit slot s is h)) h)
  command_fit (BucketLock bucket pre) =
      bucket_lock_cases Fits slot t bucket pre refused_fit
      (λ s is. becomes_fit s _ is refl (bucket_lock_fit slot.last_object t slot.last_moment slot.next_upload s now (living_fit slot s is h)))
  command_fit (BucketRestore bucket generation) =
      bucket_restore_cases Fits slot t bucket generation refused_fit (λ g found free. bucket_restore_fit slot t generation g found free now h)
  command_fit (Listing bucket query) = list_cases Fits slot query refused_fit (λ s. h)
  command_fit (Get bucket name generation soft pre) = get_cases Fits slot name generation soft pre refused_fit (λ row settings. h)
  command_fit (Change bucket name generation pre change whole) =
      change_cases Fits slot t name generation pre change whole refused_fit
      (λ s row is found.
      let living : IsFitState slot.last_object slot.last_moment slot.next_upload s = living_fit slot s is h in
      let had : IsFitRow slot.last_object slot.last_moment row = all-chosen (IsFitRow slot.last_object slot.last_moment) name generation row s.rows found living.rows in
      becomes_fit s _ is (change_same s name generation _)
      (change_state_fit slot.last_object slot.last_moment slot.next_upload t _ s name generation row found (changed_row_fit slot.last_object t slot.last_moment _ row now had) living))
  command_fit (Delete bucket name generation pre) =
      delete_cases Fits slot t name generation pre refused_fit
      (λ s row is found passed. becomes_fit s _ is (delete_same s t name generation)
      (delete_state_fit slot.last_object t slot.last_moment slot.next_upload s name generation now (living_fit slot s is h)))
  command_fit (Put bucket name pre meta hashed components expect) = put_cases Fits slot t name pre meta hashed components expect refused_fit made_fit
  command_fit (Compose bucket name pre meta parts) = compose_cases Fits slot t name pre meta parts refused_fit made_fit
  command_fit (Restore bucket name generation pre) = restore_cases Fits slot t name generation pre refused_fit made_fit
  command_fit (Start bucket name pre meta expect total) =
      start_cases Fits slot t name pre meta expect total refused_fit
      (λ s is. started_fit s _ is (record { number = omega arith; start = now; kept = none_within; end = tt }))
  command_fit (Append bucket upload offset total content) =
      append_cases Fits slot upload offset total content refused_fit
      (λ s progress is answered. uploads_fit s _ is
      (append_fit slot.last_object slot.last_moment slot.next_upload upload offset total content s.uploads (living_fit slot s is h).uploads))
  command_fit (Finish bucket upload hashed) = finish_cases Fits slot t upload refused_fit (finished_fit upload)
  command_fit (Cancel bucket upload) =
      cancel_cases Fits slot upload refused_fit
      (λ s progress is answered. uploads_fit s _ is
      (cancel_fit slot.last_object slot.last_moment slot.next_upload upload s.uploads (living_fit slot s is h).uploads))

-- one step
step_fit : (slot : Slot) (moment : ℕ) (command : Command) → IsFit slot → IsFit (step slot moment command).1
step_fit slot moment command h =
    let t : ℕ = effective_moment slot.last_moment moment in
    let now : t ≤ t = omega arith in
    command_fit (aged slot t) t now (fit_aged slot t (omega arith) h) command

fresh_fit : IsFit fresh_slot
fresh_fit = record { alive = tt; graves = tt; counted = tt; differ = tt }

pub fit_is_kept : FitIsKept
fit_is_kept = record {
  fresh = fresh_fit;
  kept = step_fit;
  replayed = λ history name slot found. slot_replayed (λ n slot. IsFit slot) (record {
    fresh = λ n. fresh_fit;
    later = λ n slot h. h;
    stepped = λ n slot moment command h. step_fit slot moment command h;
  }) history name slot found;
}
