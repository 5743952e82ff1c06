-- What the numbers of every bucket and of every version of a slot have, in the bucket that is alive and in the deleted ones, over
-- ageing and over one command.
use Rattle.std.proofs.Common.{◌≡◌, ℕ, ◌+◌, Bool, true, false, List, [], ◌∷◌, Option, Some, None, subst}
use Rattle.std.specs.Prelude.{filter, nat_lt, is_some, if◌then◌else◌}
use Rattle.std.specs.Option.{IfSome}
use Rattle.std.specs.List.{AllByRecursion}
use Rattle.gcs_meaning.specs.declared.version.Row.{Row}
use Rattle.gcs_meaning.specs.declared.policy.Retired.{Retired}
use Rattle.gcs_meaning.specs.declared.policy.Retired.TheVariants.{Noncurrent as ToNoncurrent, Soft as ToSoft, Out}
use Rattle.gcs_meaning.specs.declared.command.Command.{Command}
use Rattle.gcs_meaning.specs.declared.command.Command.TheVariants.{BucketInsert, BucketList, BucketGet, BucketChange, BucketDelete, BucketLock, BucketRestore, List as Listing, Get, Change, Delete, Put, Compose, Restore, Start, Append, Finish, Cancel}
use Rattle.gcs_meaning.specs.Moment.{next_generation}
use Rattle.gcs_meaning.specs.Slot.{State, Grave, Slot}
use Rattle.gcs_meaning.specs.Aging.{kind_stays, aged_state, aged_alive, aged_grave, aged_graves, aged}
use Rattle.gcs_meaning.specs.Policy.{retired_to}
use Rattle.gcs_meaning.specs.Choosing.{is_chosen}
use Rattle.gcs_meaning.specs.Retiring.{retired_row}
use Rattle.gcs_meaning.specs.BucketDeletion.{grave_of}
use Rattle.gcs_meaning.specs.BucketRestore.{is_grave_of}
use Rattle.gcs_meaning.specs.ObjectChange.{change_state}
use Rattle.gcs_meaning.specs.ObjectDeletion.{delete_state}
use Rattle.gcs_meaning.specs.Put.{put_state}
use Rattle.gcs_meaning.specs.Step.{command_step}
use Rattle.gcs_meaning.proofs.Listed.{all-filter, all-map, all-weaker, all-change_first, all-with_row, some-weaker}
use Rattle.gcs_meaning.proofs.Chosen.{all-chosen, all-find}
use Rattle.gcs_meaning.proofs.Cases.{IfRefused, IfMade, IfFinished, insert_cases, bucket_get_cases, bucket_change_cases, bucket_delete_cases, bucket_lock_cases, bucket_restore_cases, list_cases, get_cases, change_cases, delete_cases, put_cases, compose_cases, restore_cases, start_cases, append_cases, finish_cases, cancel_cases}

-- a fact of a bucket's two numbers, and one of a version's name and two numbers
abbrev pub BucketFact : Type 1
BucketFact = ℕ → ℕ → Type 0

abbrev pub VersionFact : Type 1
VersionFact = List ℕ → ℕ → ℕ → Type 0

abbrev pub HasRow : VersionFact → Row → Type 0
HasRow P row = P row.name row.generation row.metageneration

pub record Has (B : BucketFact) (P : VersionFact) (s : State) : Type 0 where
  pub bucket : B s.generation s.metageneration
  pub rows : AllByRecursion (HasRow P) s.rows

pub record AllHave (B : BucketFact) (P : VersionFact) (slot : Slot) : Type 0 where
  pub alive : IfSome slot.alive (Has B P)
  pub graves : AllByRecursion (λ g. Has B P g.state) slot.graves

-- ---- ageing
module _ (B : BucketFact) (P : VersionFact) where
  state_aged : (t : ℕ) (s : State) → Has B P s → Has B P (aged_state t s)
  unfolding aged_state
  state_aged t s h = record { bucket = h.bucket; rows = all-filter (HasRow P) (λ row. kind_stays t row.kind) s.rows h.rows }

  alive_aged : (t : ℕ) (alive : Option State) → IfSome alive (Has B P) → IfSome (aged_alive t alive) (Has B P)
  alive_aged t None h = h
  alive_aged t (Some s) h = state_aged t s h

  graves_aged : (t : ℕ) (graves : List Grave) → AllByRecursion (λ g. Has B P g.state) graves → AllByRecursion (λ g. Has B P g.state) (aged_graves t graves)
  unfolding aged_graves
  graves_aged t graves h =
      all-map (λ g. Has B P g.state) (λ g. Has B P g.state) (aged_grave t) (λ g. state_aged t g.state) (filter (λ g. nat_lt t g.hard) graves)
      (all-filter (λ g. Has B P g.state) (λ g. nat_lt t g.hard) graves h)

  pub all_aged : (t : ℕ) (slot : Slot) → AllHave B P slot → AllHave B P (aged slot t)
  all_aged t slot h = record { alive = alive_aged t slot.alive h.alive; graves = graves_aged t slot.graves h.graves }

-- ---- one command
-- what facts of a slot pass on to others that hold after a command at t
pub record Passes (B C : BucketFact) (P Q : VersionFact) (slot : Slot) (t : ℕ) : Type 0 where
  pub bucket_same : (g m : ℕ) → B g m → C g m
  pub bucket_changed : (g m : ℕ) → B g m → C g (m + 1)
  pub bucket_new : C (next_generation t slot.last_bucket) 1
  pub row_same : (name : List ℕ) (g m : ℕ) → P name g m → Q name g m
  pub row_changed : (name : List ℕ) (g m : ℕ) → P name g m → Q name g (m + 1)
  pub row_new : (name : List ℕ) → Q name (next_generation t slot.last_object) 1

-- the rows of a bucket
retired_have : (Q : VersionFact) (to : Retired) (t : ℕ) (row : Row) → HasRow Q row → AllByRecursion (HasRow Q) (retired_row to t row)
retired_have Q ToNoncurrent t row h = (h, tt)
retired_have Q (ToSoft hard) t row h = (h, tt)
retired_have Q Out t row h = tt

put_rows : (Q : VersionFact) (s : State) (t : ℕ) (row : Row) → HasRow Q row → AllByRecursion (HasRow Q) s.rows → AllByRecursion (HasRow Q) (put_state s t row).rows
unfolding put_state
put_rows Q s t row new h =
    all-with_row (HasRow Q) row _ new
    (all-change_first (HasRow Q) (is_chosen row.name None) (retired_row (retired_to s.settings t false) t) (retired_have Q (retired_to s.settings t false) t) s.rows h)

put_has : (C : BucketFact) (Q : VersionFact) (s : State) (t : ℕ) (row : Row) → HasRow Q row → Has C Q s → Has C Q (put_state s t row)
unfolding put_state
put_has C Q s t row new h = record { bucket = h.bucket; rows = put_rows Q s t row new h.rows }

delete_has : (C : BucketFact) (Q : VersionFact) (s : State) (t : ℕ) (name : List ℕ) (generation : Option ℕ) → Has C Q s → Has C Q (delete_state s t name generation)
unfolding delete_state
delete_has C Q s t name generation h = record {
  bucket = h.bucket;
  rows = all-change_first (HasRow Q) (is_chosen name generation) (retired_row (retired_to s.settings t (is_some generation)) t)
      (retired_have Q (retired_to s.settings t (is_some generation)) t) s.rows h.rows;
}

change_has : (C : BucketFact) (Q : VersionFact) (s : State) (name : List ℕ) (generation : Option ℕ) (row : Row) → HasRow Q row → Has C Q s → Has C Q (change_state s name generation row)
unfolding change_state
change_has C Q s name generation row new h = record {
  bucket = h.bucket;
  rows = all-change_first (HasRow Q) (is_chosen name generation) (λ had. row ∷ []) (λ had before. (new, tt)) s.rows h.rows;
}

grave_has : (C : BucketFact) (Q : VersionFact) (t : ℕ) (s : State) → Has C Q s → Has C Q (grave_of t s).state
unfolding grave_of
grave_has C Q t s h = record { bucket = h.bucket; rows = h.rows }

buried_have : (b : Bool) (C : BucketFact) (Q : VersionFact) (g : Grave) (graves : List Grave) → Has C Q g.state → AllByRecursion (λ x. Has C Q x.state) graves
    → AllByRecursion (λ x. Has C Q x.state) (if b then g ∷ graves else graves)
buried_have true C Q g graves new h = (new, h)
buried_have false C Q g graves new h = h

module _ (B C : BucketFact) (P Q : VersionFact) (slot : Slot) (t : ℕ) (passes : Passes B C P Q slot t) (all : AllHave B P slot) where
  rows_pass : (rows : List Row) → AllByRecursion (HasRow P) rows → AllByRecursion (HasRow Q) rows
  rows_pass rows h = all-weaker (HasRow P) (HasRow Q) (λ row had. passes.row_same row.name row.generation row.metageneration had) rows h

  state_passes : (s : State) → Has B P s → Has C Q s
  state_passes s h = record { bucket = passes.bucket_same s.generation s.metageneration h.bucket; rows = rows_pass s.rows h.rows }

  graves_pass : AllByRecursion (λ g. Has C Q g.state) slot.graves
  graves_pass = all-weaker (λ g. Has B P g.state) (λ g. Has C Q g.state) (λ g. state_passes g.state) slot.graves all.graves

  same_have : AllHave C Q slot
  same_have = record { alive = some-weaker (Has B P) (Has C Q) state_passes slot.alive all.alive; graves = graves_pass }

  refused_have : IfRefused (λ done. AllHave C Q done.1) slot
  refused_have reason = same_have

  living_has : (s : State) → slot.alive ≡ Some s → Has B P s
  living_has s is = subst (λ alive. IfSome alive (Has B P)) is all.alive

  living_passes : (s : State) → slot.alive ≡ Some s → Has C Q s
  living_passes s is = state_passes s (living_has s is)

  version_has : (s : State) (row : Row) (object : ℕ) → HasRow Q row → Has C Q s → AllHave C Q (record slot { alive = Some (put_state s t row); last_object = object })
  version_has s row object new h = record { alive = put_has C Q s t row new h; graves = graves_pass }

  made_have : IfMade (λ done. AllHave C Q done.1) slot t
  made_have s name pre meta hashed components expect is passed = version_has s _ _ (passes.row_new name) (living_passes s is)

  finished_have : (number : ℕ) → IfFinished (λ done. AllHave C Q done.1) slot t number
  finished_have number = record {
    keeps = λ n. same_have;
    was_done = λ s upload row is found ended. same_have;
    makes = λ s upload is found runs passed.
        let living : Has C Q s = living_passes s is in
        version_has _ _ _ (passes.row_new upload.name) (record { bucket = living.bucket; rows = living.rows });
  }

  pub command_have : (command : Command) → AllHave C Q (command_step slot t command).1
  command_have (BucketInsert bucket settings) =
      insert_cases (λ done. AllHave C Q done.1) slot t bucket settings refused_have
      (λ free. record { alive = record { bucket = passes.bucket_new; rows = tt }; graves = graves_pass })
  command_have (BucketList shard prefix after most) = same_have
  command_have (BucketGet bucket pre) = bucket_get_cases (λ done. AllHave C Q done.1) slot bucket pre refused_have (λ s. same_have)
  command_have (BucketChange bucket pre change whole) =
      bucket_change_cases (λ done. AllHave C Q done.1) slot t bucket pre change whole refused_have
      (λ s is passed. record { alive = record { bucket = passes.bucket_changed s.generation s.metageneration (living_has s is).bucket; rows = (living_passes s is).rows }; graves = graves_pass })
  command_have (BucketDelete bucket pre) =
      bucket_delete_cases (λ done. AllHave C Q done.1) slot t pre refused_have
      (λ s is passed. record { alive = tt; graves = buried_have (nat_lt t (grave_of t s).hard) C Q (grave_of t s) slot.graves (grave_has C Q t s (living_passes s is)) graves_pass })
  command_have (BucketLock bucket pre) =
      bucket_lock_cases (λ done. AllHave C Q done.1) slot t bucket pre refused_have
      (λ s is. record { alive = record { bucket = passes.bucket_changed s.generation s.metageneration (living_has s is).bucket; rows = (living_passes s is).rows }; graves = graves_pass })
  command_have (BucketRestore bucket generation) =
      bucket_restore_cases (λ done. AllHave C Q done.1) slot t bucket generation refused_have
      (λ g found free.
      let had : Has B P g.state = all-find (λ x. Has B P x.state) (is_grave_of generation) g slot.graves found all.graves in
      record {
        alive = record { bucket = passes.bucket_changed g.state.generation g.state.metageneration had.bucket; rows = rows_pass g.state.rows had.rows };
        graves = all-change_first (λ x. Has C Q x.state) (is_grave_of generation) (λ x. []) (λ x has. tt) slot.graves graves_pass;
      })
  command_have (Listing bucket query) = list_cases (λ done. AllHave C Q done.1) slot query refused_have (λ s. same_have)
  command_have (Get bucket name generation soft pre) = get_cases (λ done. AllHave C Q done.1) slot name generation soft pre refused_have (λ row settings. same_have)
  command_have (Change bucket name generation pre change whole) =
      change_cases (λ done. AllHave C Q done.1) slot t name generation pre change whole refused_have
      (λ s row is found.
      let had : HasRow P row = all-chosen (HasRow P) name generation row s.rows found (living_has s is).rows in
      record { alive = change_has C Q s name generation _ (passes.row_changed row.name row.generation row.metageneration had) (living_passes s is); graves = graves_pass })
  command_have (Delete bucket name generation pre) =
      delete_cases (λ done. AllHave C Q done.1) slot t name generation pre refused_have
      (λ s row is found passed. record { alive = delete_has C Q s t name generation (living_passes s is); graves = graves_pass })
  command_have (Put bucket name pre meta hashed components expect) =
      put_cases (λ done. AllHave C Q done.1) slot t name pre meta hashed components expect refused_have made_have
  command_have (Compose bucket name pre meta parts) = compose_cases (λ done. AllHave C Q done.1) slot t name pre meta parts refused_have made_have
  command_have (Restore bucket name generation pre) = restore_cases (λ done. AllHave C Q done.1) slot t name generation pre refused_have made_have
  command_have (Start bucket name pre meta expect total) =
      start_cases (λ done. AllHave C Q done.1) slot t name pre meta expect total refused_have
      (λ s is. record { alive = record { bucket = (living_passes s is).bucket; rows = (living_passes s is).rows }; graves = graves_pass })
  command_have (Append bucket upload offset total content) =
      append_cases (λ done. AllHave C Q done.1) slot upload offset total content refused_have
      (λ s progress is answered. record { alive = record { bucket = (living_passes s is).bucket; rows = (living_passes s is).rows }; graves = graves_pass })
  command_have (Finish bucket upload hashed) = finish_cases (λ done. AllHave C Q done.1) slot t upload refused_have (finished_have upload)
  command_have (Cancel bucket upload) =
      cancel_cases (λ done. AllHave C Q done.1) slot upload refused_have
      (λ s progress is answered. record { alive = record { bucket = (living_passes s is).bucket; rows = (living_passes s is).rows }; graves = graves_pass })
