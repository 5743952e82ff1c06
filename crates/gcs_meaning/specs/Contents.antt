-- Which contents of the store lie in which chunks.
use Rattle.std.specs.Prelude.{List}
use Rattle.std.specs.List.{AllByRecursion}
use Rattle.std.specs.Option.{IfSome}
use Rattle.gcs_chunks.specs.Content.{ChunksValue, ContentLiesIn}
use Rattle.gcs_meaning.specs.declared.command.Answer.{Answer}
use Rattle.gcs_meaning.specs.declared.command.Answer.TheVariants.{Object, Page as Paged, Complete}
use Rattle.gcs_meaning.specs.declared.command.Command.{Command}
use Rattle.gcs_meaning.specs.declared.command.Command.TheVariants.{Put, Append, Finish}
use Rattle.gcs_meaning.specs.declared.command.Entry.{Entry}
use Rattle.gcs_meaning.specs.declared.uploading.Upload.{Upload}
use Rattle.gcs_meaning.specs.declared.uploading.UploadState.{UploadState}
use Rattle.gcs_meaning.specs.declared.uploading.UploadState.TheVariants.{Running, Done, Cancelled, Expired}
use Rattle.gcs_meaning.specs.declared.version.Row.{Row}
use Rattle.gcs_meaning.specs.Content.{Digested}
use Rattle.gcs_meaning.specs.History.{Slots}
use Rattle.gcs_meaning.specs.Slot.{State, Slot}
use Rattle.gcs_meaning.specs.Uploads.{UploadMap}

-- a content with its digests
abbrev pub HashedLiesIn : ChunksValue → Digested → Type 0
HashedLiesIn chunks hashed = ContentLiesIn chunks hashed.content

-- a version
abbrev pub RowLiesIn : ChunksValue → Row → Type 0
RowLiesIn chunks row = HashedLiesIn chunks row.hashed

-- the version that an upload made, where it is done
abbrev pub EndLiesIn : ChunksValue → UploadState → Type 0
EndLiesIn chunks Running = Unit {0}
EndLiesIn chunks (Done row) = RowLiesIn chunks row
EndLiesIn chunks Cancelled = Unit {0}
EndLiesIn chunks Expired = Unit {0}

-- an upload: the bytes that it keeps, and its version
pub record UploadLiesIn (chunks : ChunksValue) (upload : Upload) : Type 0 where
  pub kept : ContentLiesIn chunks upload.content
  pub end : EndLiesIn chunks upload.state

-- uploads by their numbers
abbrev pub UploadsLieIn : ChunksValue → UploadMap → Type 0
UploadsLieIn chunks uploads = AllByRecursion (λ numbered. UploadLiesIn chunks numbered.1) uploads

-- a bucket, alive or in a grave
pub record StateLiesIn (chunks : ChunksValue) (s : State) : Type 0 where
  pub rows : AllByRecursion (RowLiesIn chunks) s.rows
  pub uploads : UploadsLieIn chunks s.uploads

-- a slot
pub record SlotLiesIn (chunks : ChunksValue) (slot : Slot) : Type 0 where
  pub alive : IfSome slot.alive (StateLiesIn chunks)
  pub graves : AllByRecursion (λ g. StateLiesIn chunks g.state) slot.graves

-- the slots of a shard
abbrev pub SlotsLieIn : ChunksValue → Slots → Type 0
SlotsLieIn chunks slots = AllByRecursion (λ named. SlotLiesIn chunks named.1) slots

-- what a command brings
abbrev pub CommandLiesIn : ChunksValue → Command → Type 0
CommandLiesIn chunks (Put bucket name pre meta hashed components expect) = HashedLiesIn chunks hashed
CommandLiesIn chunks (Append bucket upload offset total content) = ContentLiesIn chunks content
CommandLiesIn chunks (Finish bucket upload hashed) = HashedLiesIn chunks hashed
CommandLiesIn chunks _ = Unit {0}

-- what the commands of a history brought
abbrev pub HistoryLiesIn : ChunksValue → List Entry → Type 0
HistoryLiesIn chunks history = AllByRecursion (λ e. CommandLiesIn chunks e.command) history

-- what an answer shows
abbrev pub AnswerLiesIn : ChunksValue → Answer → Type 0
AnswerLiesIn chunks (Object row settings) = RowLiesIn chunks row
AnswerLiesIn chunks (Paged page) = AllByRecursion (RowLiesIn chunks) page.items
AnswerLiesIn chunks (Complete content) = ContentLiesIn chunks content
AnswerLiesIn chunks _ = Unit {0}
