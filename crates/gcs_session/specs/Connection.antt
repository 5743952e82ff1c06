-- A connection as a whole: what was read, written and asked, in one call.
use Rattle.std.specs.Prelude.{◌≡◌, ℕ, ◌<◌, List, [], ◌∷◌, ◌++◌, length, Bool, true, false, Option}
use Rattle.std.specs.List.{list_all}
use Rattle.gcs_io.specs.Told.{Gains, Loses}
use Rattle.gcs_http_in.specs.declared.limits.Limits.{Limits}
use Rattle.gcs_http_in.specs.Lines.{is_end_byte}
use Rattle.gcs_http_in.specs.Message.{Message, AllKeep, IsSpelled, Spells}
use Rattle.gcs_meaning.specs.Desk.{Histories, AreLists}
use Rattle.gcs_session.specs.declared.ends.SessionEnd.{SessionEnd}
use Rattle.gcs_session.specs.declared.ends.SessionEnd.TheVariants.{Ended, Closed, Cut, ReadFault, WriteFault, NoMemory}
use Rattle.gcs_session.specs.Asks.{Counts}
use Rattle.gcs_session.specs.Served.{Answers, Serves}
use Rattle.gcs_session.specs.Running.{lengths, Grows}

-- what source, sink, clock and desk tell at one moment: the bytes that are left to be read, those that were read and written, the
-- readings, and the histories
pub record Outside : Type 0 where
  pub left : Option (List ℕ)
  pub taken : Option (List ℕ)
  pub written : Option (List ℕ)
  pub given : Option (List ℕ)
  pub saw : Histories
  pub own : Histories

-- from one moment to a later one: the bytes read, which were the next ones, the bytes written and the readings; each old history is a prefix of the new
-- one; and the lists stay those of a caller
pub record Moved (caller : ℕ) (a b : Outside) (input output moments : List ℕ) : Type 0 where
  pub lost : Loses a.left b.left input
  pub read : Gains a.taken b.taken input
  pub wrote : Gains a.written b.written output
  pub clocked : Gains a.given b.given moments
  pub grows : Grows a.saw b.saw
  pub sound : AreLists caller a.saw a.own → AreLists caller b.saw b.own

-- the bytes begin with the spellings of these messages, and rest is what follows
pub record SpellsFirst (limits : Limits) (bytes : List ℕ) (messages : List Message) (rest : List ℕ) : Type 0 where
  pub front : List ℕ
  pub split : bytes ≡ front ++ rest
  pub spelled : IsSpelled limits 1 messages front

-- the messages are those of the one reading of the bytes; after a write fault they are the first ones of it
abbrev pub Spelled : SessionEnd → Limits → List ℕ → List Message → List ℕ → Type 0
Spelled WriteFault limits input messages rest = SpellsFirst limits input messages rest
Spelled NoMemory limits input messages rest = (input ≡ []) × (messages ≡ [])
Spelled Ended limits input messages rest = Spells limits input messages rest
Spelled Closed limits input messages rest = Spells limits input messages rest
Spelled Cut limits input messages rest = Spells limits input messages rest
Spelled ReadFault limits input messages rest = Spells limits input messages rest

-- all replies but the last were written whole, and of the last a part, which isn't all of it
pub record IsBroken (limits : Limits) (messages : List Message) (moments : List ℕ) (histories : Histories) (caller : ℕ) (from : Counts) (text output : List ℕ) (to : Counts) : Type 0 where
  pub before : List Message
  pub last : Message
  pub messages_are : messages ≡ before ++ last ∷ []
  pub early : List ℕ
  pub late : List ℕ
  pub moments_are : moments ≡ early ++ late
  pub mid : Counts
  pub front : List ℕ
  pub part : List ℕ
  pub more : List ℕ
  pub text_is : text ≡ front ++ (part ++ more)
  pub output_is : output ≡ front ++ part
  pub some : 0 < length more
  pub first_served : Serves limits before early histories caller from front mid
  pub last_answered : Answers limits last late histories caller mid (part ++ more) to

-- the replies were written whole, but for the last one after a write fault
abbrev pub Written : SessionEnd → Limits → List Message → List ℕ → Histories → ℕ → Counts → List ℕ → List ℕ → Counts → Type 0
Written WriteFault limits messages moments histories caller from text output to = IsBroken limits messages moments histories caller from text output to
Written NoMemory limits messages moments histories caller from text output to = output ≡ text
Written Ended limits messages moments histories caller from text output to = output ≡ text
Written Closed limits messages moments histories caller from text output to = output ≡ text
Written Cut limits messages moments histories caller from text output to = output ≡ text
Written ReadFault limits messages moments histories caller from text output to = output ≡ text

-- which end it is. No two of them but want of memory can come with the same messages, rest and state of the source
abbrev pub EndsAs : SessionEnd → Bool → List Message → List ℕ → Type 0
EndsAs Ended ended messages rest = (ended ≡ true) × AllKeep messages × (list_all is_end_byte rest ≡ true)
EndsAs Cut ended messages rest = (ended ≡ true) × AllKeep messages × (list_all is_end_byte rest ≡ false)
EndsAs Closed ended messages rest = AllKeep messages → ⊥
EndsAs ReadFault ended messages rest = (ended ≡ false) × AllKeep messages
EndsAs WriteFault ended messages rest = ended ≡ false
EndsAs NoMemory ended messages rest = Unit {0}

-- whatever other workers do and however the bytes are cut: the bytes written are, in order, the replies to the messages that
-- the bytes read spell, each answered at the caller's own entries in the histories, which begin with all it had seen
pub record IsServed (limits : Limits) (caller : ℕ) (a b : Outside) (ended : Bool) (end : SessionEnd) : Type 0 where
  pub input : List ℕ
  pub output : List ℕ
  pub moments : List ℕ
  pub moved : Moved caller a b input output moments
  pub messages : List Message
  pub rest : List ℕ
  pub text : List ℕ
  pub spelled : Spelled end limits input messages rest
  pub served : Serves limits messages moments b.saw caller (lengths a.own) text (lengths b.own)
  pub written : Written end limits messages moments b.saw caller (lengths a.own) text output (lengths b.own)
  pub ends : EndsAs end ended messages rest
