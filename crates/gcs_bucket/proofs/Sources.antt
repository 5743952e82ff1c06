-- What the restore of a version and a compose come to on a slot that is aged, by what is decided of them before.
use Rattle.std.proofs.Common.{◌≡◌, ℕ, ◌+◌, Bool, true, false, subst, List, [], ◌∷◌, Option, Some, None, Ok, refl, ap, sym, ◌∙◌}
use Rattle.gcs_chunks.specs.Content.{Whole, no_content}
use Rattle.gcs_compose.specs.Faults.{IsLackOf}
use Rattle.gcs_compose.specs.declared.composing.Composed.{Composed as Joined}
use Rattle.gcs_compose.specs.declared.fault.ComposeFault.{ComposeFault}
use Rattle.gcs_compose.specs.declared.fault.ComposeFault.TheVariants.{Refused as FaultRefused}
use Rattle.gcs_meaning.specs.declared.settings.Pre.{Pre}
use Rattle.gcs_meaning.specs.declared.settings.Meta.{Meta}
use Rattle.gcs_meaning.specs.declared.version.Part.{Part}
use Rattle.gcs_meaning.specs.declared.version.Row.{Row}
use Rattle.gcs_meaning.specs.declared.reason.Reason.{Reason}
use Rattle.gcs_meaning.specs.declared.reason.Reason.TheVariants.{NoBucket, NoObject}
use Rattle.gcs_meaning.specs.declared.command.Answer.TheVariants.{Refused}
use Rattle.gcs_meaning.specs.Slot.{State, Slot}
use Rattle.gcs_meaning.specs.Aging.{aged, aged_rows, aged_state}
use Rattle.gcs_meaning.specs.Choosing.{asked_row, chosen_row}
use Rattle.gcs_meaning.specs.Compose.{Composed, joins, lacks, components_of, compose_step, composed, composed_by, composed_content, composed_from, composed_unless, source_refusal}
use Rattle.gcs_meaning.specs.Content.{with_whole}
use Rattle.gcs_meaning.specs.Put.{put_step}
use Rattle.gcs_meaning.specs.Restore.{restore_step, restored_meta}
use Rattle.gcs_meaning.proofs.Chosen.{chosen_row-aged}
use Rattle.gcs_bucket.specs.declared.restore.Source.{Source}
use Rattle.gcs_bucket.specs.Compose.{decided_compose}
use Rattle.gcs_bucket.specs.Restore.{decided_source}

-- ---- the restore of a version
pub source_dead : (slot : Slot) (t : ℕ) (name : List ℕ) (generation : ℕ) (pre : Pre) → slot.alive ≡ None → restore_step (aged slot t) t name generation pre ≡ (Refused NoBucket, aged slot t)
unfolding restore_step
source_dead slot t name generation pre dead = rw dead refl

pub source_missing : (slot : Slot) (t : ℕ) (name : List ℕ) (generation : ℕ) (pre : Pre) (s : State) → slot.alive ≡ Some s → None ≡ asked_row true name (Some generation) (aged_rows t s.rows)
    → restore_step (aged slot t) t name generation pre ≡ (Refused NoObject, aged slot t)
unfolding restore_step aged_state
source_missing slot t name generation pre s lives none = rw (lives, ← none) refl

pub source_made : (slot : Slot) (t : ℕ) (name : List ℕ) (generation : ℕ) (pre : Pre) (s : State) (row : Row) (source : Source) → slot.alive ≡ Some s
    → Some row ≡ asked_row true name (Some generation) (aged_rows t s.rows) → source.meta ≡ restored_meta row.meta → source.hashed ≡ row.hashed → source.components ≡ row.components
    → restore_step (aged slot t) t name generation pre ≡ decided_source (Ok source) t name pre (aged slot t)
unfolding restore_step put_step aged_state
source_made slot t name generation pre s row source lives found meta-is hashed-is components-is = rw (lives, ← found, meta-is, hashed-is, components-is) refl

-- ---- the compose of a version
pub compose_dead : (slot : Slot) (t : ℕ) (name : List ℕ) (pre : Pre) (meta : Meta) (parts : List Part) → slot.alive ≡ None → compose_step (aged slot t) t name pre meta parts ≡ (Refused NoBucket, aged slot t)
unfolding compose_step
compose_dead slot t name pre meta parts dead = rw dead refl

composed_by-same : (found other : Option Row) (i : ℕ) (part : Part) (content : Whole) (count : ℕ) (more : Whole → ℕ → Composed) (deeper : Whole → ℕ → Composed)
    → found ≡ other → ((whole : Whole) (sum : ℕ) → more whole sum ≡ deeper whole sum) → composed_by found i part content count more ≡ composed_by other i part content count deeper
composed_by-same found None i part content count more deeper same rest = ap (λ f. composed_by f i part content count more) same
composed_by-same found (Some row) i part content count more deeper same rest =
    ap (λ f. composed_by f i part content count more) same
    ∙ ap (composed_unless (source_refusal i part.generation_is row.generation)) (rest (with_whole content row.hashed.content) (count + components_of row))

composed_from-aged : (t : ℕ) (rows : List Row) (i : ℕ) (content : Whole) (count : ℕ) (parts : List Part) → composed_from (aged_rows t rows) i content count parts ≡ composed_from rows i content count parts
composed_from-aged t rows i content count [] = refl
composed_from-aged t rows i content count (part ∷ parts) =
    composed_by-same (chosen_row part.name part.generation (aged_rows t rows)) (chosen_row part.name part.generation rows) i part content count
    (λ whole sum. composed_from (aged_rows t rows) (i + 1) whole sum parts) (λ whole sum. composed_from rows (i + 1) whole sum parts)
    (chosen_row-aged t part.name part.generation rows) (λ whole sum. composed_from-aged t rows (i + 1) whole sum parts)

composed_aged : (t : ℕ) (rows : List Row) (parts : List Part) → composed (aged_rows t rows) parts ≡ composed rows parts
unfolding composed
composed_aged t rows parts = composed_from-aged t rows 0 no_content 0 parts

pub compose_lacking : (slot : Slot) (t : ℕ) (name : List ℕ) (pre : Pre) (meta : Meta) (parts : List Part) (s : State) (reason : Reason) → slot.alive ≡ Some s → composed s.rows parts ≡ lacks reason
    → compose_step (aged slot t) t name pre meta parts ≡ (Refused reason, aged slot t)
unfolding compose_step aged_state
compose_lacking slot t name pre meta parts s reason lives lack = rw (lives, composed_aged t s.rows parts, lack) refl

pub lack_told : (fault : ComposeFault) (sources : Composed) (reason : Reason) → fault ≡ FaultRefused reason → IsLackOf fault sources → sources ≡ lacks reason
lack_told fault sources reason is lack = subst (λ f. IsLackOf f sources) is lack

pub compose_made : (slot : Slot) (t : ℕ) (name : List ℕ) (pre : Pre) (meta : Meta) (parts : List Part) (s : State) (made : Joined) → slot.alive ≡ Some s
    → composed s.rows parts ≡ joins made.hashed.content made.components → made.hashed.with_md5 ≡ false
    → compose_step (aged slot t) t name pre meta parts ≡ decided_compose (Ok made) t name pre meta (aged slot t)
unfolding compose_step put_step aged_state
compose_made slot t name pre meta parts s made lives joined plain =
    let digested : composed_content made.hashed.content ≡ made.hashed = ap (λ (b : Bool). record { content = made.hashed.content; with_md5 = b }) (sym plain) in
    rw (lives, composed_aged t s.rows parts, joined, digested) refl
