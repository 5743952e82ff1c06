-- Contents stay in their chunks, over every command.
use Rattle.std.proofs.Common.{◌≡◌, ◌+◌, ℕ, Bool, true, false, List, [], ◌∷◌, Option, Some, None, refl, sym, subst}
use Rattle.std.specs.Prelude.{filter, nat_le, nat_lt, if◌then◌else◌}
use Rattle.std.specs.List.{AllByRecursion}
use Rattle.std.specs.Option.{IfSome}
use Rattle.gcs_chunks.specs.Content.{ChunksValue}
use Rattle.gcs_chunks.proofs.Words.{lies_nothing}
use Rattle.gcs_meaning.specs.declared.command.Answer.{Answer}
use Rattle.gcs_meaning.specs.declared.command.Command.{Command}
use Rattle.gcs_meaning.specs.declared.command.Command.TheVariants.{BucketInsert, BucketList, BucketGet, BucketChange, BucketDelete, BucketLock, BucketRestore, List as Listing, Get, Change, Delete, Put, Compose, Restore, Start, Append, Finish, Cancel}
use Rattle.gcs_meaning.specs.declared.command.Entry.{Entry}
use Rattle.gcs_meaning.specs.declared.listing.PageQuery.{PageQuery}
use Rattle.gcs_meaning.specs.declared.settings.Meta.{Meta}
use Rattle.gcs_meaning.specs.declared.settings.Pre.{Pre}
use Rattle.gcs_meaning.specs.declared.uploading.Progress.{Progress}
use Rattle.gcs_meaning.specs.declared.uploading.Upload.{Upload}
use Rattle.gcs_meaning.specs.declared.uploading.UploadState.{UploadState}
use Rattle.gcs_meaning.specs.declared.uploading.UploadState.TheVariants.{Running, Done, Cancelled, Expired}
use Rattle.gcs_meaning.specs.declared.version.Expect.{Expect}
use Rattle.gcs_meaning.specs.declared.version.Part.{Part}
use Rattle.gcs_meaning.specs.declared.version.Row.{Row}
use Rattle.gcs_meaning.specs.Moment.{effective_moment}
use Rattle.gcs_meaning.specs.Slot.{State, Grave, Slot, fresh_slot, with_alive}
use Rattle.gcs_meaning.specs.Uploads.{UploadMap, Outcome, answers, aged_upload, aged_uploads, expired_if, upload_time}
use Rattle.gcs_meaning.specs.Aging.{kind_stays, aged, aged_alive, aged_grave, aged_graves, aged_state}
use Rattle.gcs_meaning.specs.Policy.{pre_refusal}
use Rattle.gcs_meaning.specs.Choosing.{asked_row, is_asked, live_row}
use Rattle.gcs_meaning.specs.Content.{Digested}
use Rattle.gcs_meaning.specs.BucketDeletion.{grave_of}
use Rattle.gcs_meaning.specs.BucketRestore.{is_grave_of}
use Rattle.gcs_meaning.specs.Listing.{list_step}
use Rattle.gcs_meaning.specs.Get.{get_step}
use Rattle.gcs_meaning.specs.Put.{no_expect, put_on, put_refusal, put_step, with_version}
use Rattle.gcs_meaning.specs.Compose.{Composed, joins, lacks, composed, composed_content, compose_put, compose_step}
use Rattle.gcs_meaning.specs.Restore.{restored_meta, restore_step}
use Rattle.gcs_meaning.specs.UploadCalls.{answer_by, with_uploads}
use Rattle.gcs_meaning.specs.Start.{with_started}
use Rattle.gcs_meaning.specs.Append.{append_at}
use Rattle.gcs_meaning.specs.Cancel.{cancel_at}
use Rattle.gcs_meaning.specs.Finish.{done_state, finish_row}
use Rattle.gcs_meaning.specs.Step.{command_step, step}
use Rattle.gcs_meaning.specs.History.{Slots, bucket_of, first_step, named_step, replay_from, set_slot, shard_step, slot_of, slot_step, unnamed_answer}
use Rattle.gcs_meaning.specs.Contents.{AnswerLiesIn, CommandLiesIn, EndLiesIn, HashedLiesIn, HistoryLiesIn, RowLiesIn, SlotLiesIn, SlotsLieIn, StateLiesIn, UploadLiesIn, UploadsLieIn}
use Rattle.gcs_meaning.specs.Laws.{ContentsStay}
use Rattle.gcs_meaning.proofs.Listed.{all-change_first, all-filter, all-map}
use Rattle.gcs_meaning.proofs.Chosen.{all-chosen, all-find}
use Rattle.gcs_meaning.proofs.FitUploads.{all-started}
use Rattle.gcs_meaning.proofs.Replays.{slot_of_kept, with_slot_kept}
use Rattle.gcs_meaning.proofs.Cases.{IfFinished, IfRefused, alive_cases, found_cases, unless_cases, insert_cases, bucket_get_cases, bucket_change_cases, bucket_delete_cases, bucket_lock_cases, bucket_restore_cases, change_cases, delete_cases, start_cases, append_cases, finish_cases, cancel_cases}
use Rattle.gcs_meaning.proofs.UploadsLie.{OutcomeLies, answer_lies, append_lies, cancel_lies, done_state_lies, upload_lies}
use Rattle.gcs_meaning.proofs.VersionsLie.{ComposedLies, change_state_lies, composed_lies, delete_state_lies, page_lies, put_state_lies}

module _ (chunks : ChunksValue) where
  -- ---- ageing
  end_aged : (late : Bool) (state : UploadState) → EndLiesIn chunks state → EndLiesIn chunks (expired_if late state)
  end_aged true Running h = h
  end_aged false Running h = h
  end_aged late (Done row) h = h
  end_aged late Cancelled h = h
  end_aged late Expired h = h

  upload_aged : (t : ℕ) (upload : Upload) → UploadLiesIn chunks upload → UploadLiesIn chunks (aged_upload t upload)
  upload_aged t upload h = record { kept = h.kept; end = end_aged (nat_le (upload.start + upload_time) t) upload.state h.end }

  state_aged : (t : ℕ) (s : State) → StateLiesIn chunks s → StateLiesIn chunks (aged_state t s)
  unfolding aged_state aged_uploads
  state_aged t s h = record {
    rows = all-filter (RowLiesIn chunks) (λ row. kind_stays t row.kind) s.rows h.rows;
    uploads = all-map (λ numbered. UploadLiesIn chunks numbered.1) (λ numbered. UploadLiesIn chunks numbered.1) (λ numbered. (numbered.0, aged_upload t numbered.1))
        (λ numbered. upload_aged t numbered.1) s.uploads h.uploads;
  }

  alive_aged : (t : ℕ) (alive : Option State) → IfSome alive (StateLiesIn chunks) → IfSome (aged_alive t alive) (StateLiesIn chunks)
  alive_aged t None h = h
  alive_aged t (Some s) h = state_aged t s h

  graves_aged : (t : ℕ) (graves : List Grave) → AllByRecursion (λ g. StateLiesIn chunks g.state) graves → AllByRecursion (λ g. StateLiesIn chunks g.state) (aged_graves t graves)
  unfolding aged_graves
  graves_aged t graves h =
      all-map (λ g. StateLiesIn chunks g.state) (λ g. StateLiesIn chunks g.state) (aged_grave t) (λ g. state_aged t g.state) (filter (λ g. nat_lt t g.hard) graves)
      (all-filter (λ g. StateLiesIn chunks g.state) (λ g. nat_lt t g.hard) graves h)

  slot_aged : (t : ℕ) (slot : Slot) → SlotLiesIn chunks slot → SlotLiesIn chunks (aged slot t)
  slot_aged t slot h = record { alive = alive_aged t slot.alive h.alive; graves = graves_aged t slot.graves h.graves }

  -- ---- buckets
  grave_lies : (t : ℕ) (s : State) → StateLiesIn chunks s → StateLiesIn chunks (grave_of t s).state
  unfolding grave_of
  grave_lies t s h = record { rows = h.rows; uploads = tt }

  with_grave_lies : (b : Bool) (g : Grave) (graves : List Grave) → StateLiesIn chunks g.state → AllByRecursion (λ g. StateLiesIn chunks g.state) graves
      → AllByRecursion (λ g. StateLiesIn chunks g.state) (if b then g ∷ graves else graves)
  with_grave_lies true g graves one more = (one, more)
  with_grave_lies false g graves one more = more

  -- ---- one command on a slot that is aged to t
  abbrev DoneLies : Answer × Slot → Type 0
  DoneLies done = AnswerLiesIn chunks done.0 × SlotLiesIn chunks done.1

  module _ (slot : Slot) (t : ℕ) (h : SlotLiesIn chunks slot) where
    refused_lies : IfRefused DoneLies slot
    refused_lies reason = (tt, h)

    living : (s : State) → slot.alive ≡ Some s → StateLiesIn chunks s
    living s is = subst (λ alive. IfSome alive (StateLiesIn chunks)) is h.alive

    -- the bucket becomes another one
    becomes_lies : (after : State) → StateLiesIn chunks after → SlotLiesIn chunks (with_alive after slot)
    becomes_lies after new = record { alive = new; graves = h.graves }

    -- the bucket has the same versions and uploads
    same_lies : (s after : State) → slot.alive ≡ Some s → after.rows ≡ s.rows → after.uploads ≡ s.uploads → SlotLiesIn chunks (with_alive after slot)
    same_lies s after is rows uploads = becomes_lies after (record {
      rows = subst (AllByRecursion (RowLiesIn chunks)) (sym rows) (living s is).rows;
      uploads = subst (UploadsLieIn chunks) (sym uploads) (living s is).uploads;
    })

    -- a version is put, into the bucket as it is or once an upload of it is done
    version_lies : (into : State) (row : Row) → RowLiesIn chunks row → StateLiesIn chunks into → DoneLies (with_version slot into t row)
    version_lies into row new lies = (new, record { alive = put_state_lies chunks into t row new lies; graves = h.graves })

    put_on_lies : (s : State) (name : List ℕ) (pre : Pre) (meta : Meta) (hashed : Digested) (components : Option ℕ) (expect : Expect) → slot.alive ≡ Some s → HashedLiesIn chunks hashed
        → DoneLies (put_on s slot t name pre meta hashed components expect)
    put_on_lies s name pre meta hashed components expect is lies =
        unless_cases DoneLies (put_refusal s.settings t pre expect hashed (live_row name s.rows)) slot _ refused_lies (λ passed. version_lies s _ lies (living s is))

    put_lies : (name : List ℕ) (pre : Pre) (meta : Meta) (hashed : Digested) (components : Option ℕ) (expect : Expect) → HashedLiesIn chunks hashed
        → DoneLies (put_step slot t name pre meta hashed components expect)
    unfolding put_step
    put_lies name pre meta hashed components expect lies =
        alive_cases DoneLies slot.alive slot _ refused_lies (λ s is. put_on_lies s name pre meta hashed components expect is lies)

    compose_put_lies : (made : Composed) (s : State) (name : List ℕ) (pre : Pre) (meta : Meta) → slot.alive ≡ Some s → ComposedLies chunks made → DoneLies (compose_put made s slot t name pre meta)
    compose_put_lies (lacks reason) s name pre meta is lies = refused_lies reason
    compose_put_lies (joins content count) s name pre meta is lies = put_on_lies s name pre meta (composed_content content) (Some count) no_expect is lies

    compose_lies : (name : List ℕ) (pre : Pre) (meta : Meta) (parts : List Part) → DoneLies (compose_step slot t name pre meta parts)
    unfolding compose_step
    compose_lies name pre meta parts =
        alive_cases DoneLies slot.alive slot _ refused_lies (λ s is. compose_put_lies (composed s.rows parts) s name pre meta is (composed_lies chunks s.rows parts (living s is).rows))

    restore_lies : (name : List ℕ) (generation : ℕ) (pre : Pre) → DoneLies (restore_step slot t name generation pre)
    unfolding restore_step
    restore_lies name generation pre =
        alive_cases DoneLies slot.alive slot _ refused_lies (λ s is. found_cases DoneLies (asked_row true name (Some generation) s.rows) slot _ refused_lies (λ row found.
        put_on_lies s name pre (restored_meta row.meta) row.hashed row.components no_expect is
        (all-find (RowLiesIn chunks) (is_asked true name (Some generation)) row s.rows found (living s is).rows)))

    get_lies : (name : List ℕ) (generation : Option ℕ) (soft : Bool) (pre : Pre) → DoneLies (get_step slot name generation soft pre)
    unfolding get_step
    get_lies name generation soft pre =
        alive_cases DoneLies slot.alive slot _ refused_lies (λ s is. found_cases DoneLies (asked_row soft name generation s.rows) slot _ refused_lies (λ row found.
        unless_cases DoneLies (pre_refusal pre row.generation row.metageneration) slot _ refused_lies
        (λ passed. (all-find (RowLiesIn chunks) (is_asked soft name generation) row s.rows found (living s is).rows, h))))

    list_lies : (query : PageQuery) → DoneLies (list_step slot query)
    unfolding list_step
    list_lies query = alive_cases DoneLies slot.alive slot _ refused_lies (λ s is. (page_lies chunks s.settings query s.rows (living s is).rows, h))

    -- a call on one of the bucket's uploads, which answered this
    progressed_lies : (s : State) (called : Outcome × UploadMap) (told : Progress) → slot.alive ≡ Some s → called.0 ≡ answers told → OutcomeLies chunks called.0 × UploadsLieIn chunks called.1
        → DoneLies (answer_by told s.settings, with_alive (with_uploads called.1 s) slot)
    progressed_lies s called told is answered lies = (
      answer_lies chunks told s.settings (subst (OutcomeLies chunks) answered lies.0),
      becomes_lies (with_uploads called.1 s) (record { rows = (living s is).rows; uploads = lies.1 }),
    )

    started_lies : (s : State) (upload : Upload) → slot.alive ≡ Some s → UploadLiesIn chunks upload → DoneLies (with_started slot s upload)
    started_lies s upload is new = (
      tt,
      record {
        alive = record {
          rows = (living s is).rows;
          uploads = all-started (λ numbered. UploadLiesIn chunks numbered.1) slot.next_upload upload s.uploads new (λ numbered lies. new) (living s is).uploads;
        };
        graves = h.graves;
      },
    )

    finished_lies : (number : ℕ) → IfFinished DoneLies slot t number
    finished_lies number = record {
      keeps = λ n. (tt, h);
      was_done = λ s upload row is found ended. (subst (EndLiesIn chunks) ended (upload_lies chunks number upload s.uploads found (living s is).uploads).end, h);
      makes = λ s upload is found runs passed.
          let row : Row = finish_row slot s t upload in
          let new : RowLiesIn chunks row = (upload_lies chunks number upload s.uploads found (living s is).uploads).kept in
          version_lies (done_state s number row) row new (done_state_lies chunks s number row new (living s is));
    }

    command_lies : (command : Command) → CommandLiesIn chunks command → DoneLies (command_step slot t command)
    command_lies (BucketInsert bucket settings) lies = insert_cases DoneLies slot t bucket settings refused_lies (λ free. (tt, record { alive = record { rows = tt; uploads = tt }; graves = h.graves }))
    command_lies (BucketList shard prefix after most) lies = (tt, h)
    command_lies (BucketGet bucket pre) lies = bucket_get_cases DoneLies slot bucket pre refused_lies (λ s. (tt, h))
    command_lies (BucketChange bucket pre change whole) lies = bucket_change_cases DoneLies slot t bucket pre change whole refused_lies (λ s is passed. (tt, same_lies s _ is refl refl))
    command_lies (BucketDelete bucket pre) lies =
        bucket_delete_cases DoneLies slot t pre refused_lies
        (λ s is passed. (tt, record { alive = tt; graves = with_grave_lies (nat_lt t (grave_of t s).hard) (grave_of t s) slot.graves (grave_lies t s (living s is)) h.graves }))
    command_lies (BucketLock bucket pre) lies = bucket_lock_cases DoneLies slot t bucket pre refused_lies (λ s is. (tt, same_lies s _ is refl refl))
    command_lies (BucketRestore bucket generation) lies =
        bucket_restore_cases DoneLies slot t bucket generation refused_lies
        (λ g found free.
        let back : StateLiesIn chunks g.state = all-find (λ g. StateLiesIn chunks g.state) (is_grave_of generation) g slot.graves found h.graves in (
          tt,
          record {
            alive = record { rows = back.rows; uploads = back.uploads };
            graves = all-change_first (λ g. StateLiesIn chunks g.state) (is_grave_of generation) (λ g. []) (λ g had. tt) slot.graves h.graves;
          },
        ))
    command_lies (Listing bucket query) lies = list_lies query
    command_lies (Get bucket name generation soft pre) lies = get_lies name generation soft pre
    command_lies (Change bucket name generation pre change whole) lies =
        change_cases DoneLies slot t name generation pre change whole refused_lies
        (λ s row is found.
        let new : RowLiesIn chunks row = all-chosen (RowLiesIn chunks) name generation row s.rows found (living s is).rows in
        (new, becomes_lies _ (change_state_lies chunks s name generation _ new (living s is))))
    command_lies (Delete bucket name generation pre) lies =
        delete_cases DoneLies slot t name generation pre refused_lies (λ s row is found passed. (tt, becomes_lies _ (delete_state_lies chunks s t name generation (living s is))))
    command_lies (Put bucket name pre meta hashed components expect) lies = put_lies name pre meta hashed components expect lies
    command_lies (Compose bucket name pre meta parts) lies = compose_lies name pre meta parts
    command_lies (Restore bucket name generation pre) lies = restore_lies name generation pre
    command_lies (Start bucket name pre meta expect total) lies =
        start_cases DoneLies slot t name pre meta expect total refused_lies (λ s is. started_lies s _ is (record { kept = lies_nothing chunks; end = tt }))
    command_lies (Append bucket upload offset total content) lies =
        append_cases DoneLies slot upload offset total content refused_lies
        (λ s told is answered. progressed_lies s (append_at upload offset total content s.uploads) told is answered (append_lies chunks upload offset total content s.uploads lies (living s is).uploads))
    command_lies (Finish bucket upload hashed) lies = finish_cases DoneLies slot t upload refused_lies (finished_lies upload)
    command_lies (Cancel bucket upload) lies =
        cancel_cases DoneLies slot upload refused_lies
        (λ s told is answered. progressed_lies s (cancel_at upload s.uploads) told is answered (cancel_lies chunks upload s.uploads (living s is).uploads))

  step_lies : (slot : Slot) (moment : ℕ) (command : Command) → SlotLiesIn chunks slot → CommandLiesIn chunks command → DoneLies (step slot moment command)
  step_lies slot moment command h lies =
      let t : ℕ = effective_moment slot.last_moment moment in
      command_lies (aged slot t) t (slot_aged t slot h) command lies

  -- ---- the slots of a shard
  abbrev ShardLies : Answer × Slots → Type 0
  ShardLies done = AnswerLiesIn chunks done.0 × SlotsLieIn chunks done.1

  set_lies : (name : List ℕ) (slots : Slots) (done : Answer × Slot) → DoneLies done → SlotsLieIn chunks slots → ShardLies (set_slot name slots done)
  set_lies name slots done lies h = (lies.0, with_slot_kept (λ n. SlotLiesIn chunks) 0 name done.1 slots lies.1 h)

  first_lies : (command : Command) (name : List ℕ) (slots : Slots) (moment : ℕ) → SlotsLieIn chunks slots → ShardLies (first_step name slots moment command)
  first_lies (BucketInsert bucket settings) name slots moment h =
      set_lies name slots _ (step_lies fresh_slot moment (BucketInsert bucket settings) (record { alive = tt; graves = tt }) tt) h
  first_lies (BucketRestore bucket generation) name slots moment h = (tt, h)
  first_lies _ name slots moment h = (tt, h)

  found_lies : (found : Option Slot) (name : List ℕ) (slots : Slots) (moment : ℕ) (command : Command) → IfSome found (SlotLiesIn chunks) → CommandLiesIn chunks command → SlotsLieIn chunks slots
      → ShardLies (slot_step found name slots moment command)
  found_lies None name slots moment command one lies h = first_lies command name slots moment h
  found_lies (Some slot) name slots moment command one lies h = set_lies name slots _ (step_lies slot moment command one lies) h

  unnamed_lies : (slots : Slots) (command : Command) → AnswerLiesIn chunks (unnamed_answer slots command)
  unnamed_lies slots (BucketList shard prefix after most) = tt
  unnamed_lies slots _ = tt

  named_lies : (named : Option (List ℕ)) (slots : Slots) (moment : ℕ) (command : Command) → CommandLiesIn chunks command → SlotsLieIn chunks slots → ShardLies (named_step named slots moment command)
  named_lies None slots moment command lies h = (unnamed_lies slots command, h)
  named_lies (Some name) slots moment command lies h =
      found_lies (slot_of name slots) name slots moment command (slot_of_kept (λ n. SlotLiesIn chunks) 0 name slots h) lies h

  shard_lies : (slots : Slots) (moment : ℕ) (command : Command) → SlotsLieIn chunks slots → CommandLiesIn chunks command → ShardLies (shard_step slots moment command)
  unfolding shard_step
  shard_lies slots moment command h lies = named_lies (bucket_of command) slots moment command lies h

  replay_lies : (history : List Entry) (slots : Slots) → SlotsLieIn chunks slots → HistoryLiesIn chunks history → SlotsLieIn chunks (replay_from slots history)
  replay_lies [] slots h lies = h
  replay_lies (e ∷ es) slots h lies = replay_lies es (shard_step slots e.moment e.command).1 (shard_lies slots e.moment e.command h lies.0).1 lies.1

pub contents_stay : ContentsStay
contents_stay = record {
  slot = step_lies;
  shard = shard_lies;
  replayed = λ chunks history lies. replay_lies chunks history [] tt lies;
}
