-- A version of the joined bytes of others (Cloud Storage JSON API, "Objects: compose").
use Rattle.std.specs.Prelude.{ℕ, ◌+◌, ◌==◌, min, unwrap_or, false, List, [], ◌∷◌, Option, Some, None, if◌then◌else◌}
use Rattle.gcs_chunks.specs.Content.{Whole, no_content}
use Rattle.gcs_meaning.specs.declared.settings.Pre.{Pre}
use Rattle.gcs_meaning.specs.declared.settings.Meta.{Meta}
use Rattle.gcs_meaning.specs.declared.version.Part.{Part}
use Rattle.gcs_meaning.specs.declared.version.Row.{Row}
use Rattle.gcs_meaning.specs.declared.reason.Reason.{Reason}
use Rattle.gcs_meaning.specs.declared.reason.Reason.TheVariants.{NoSource, SourceCondition}
use Rattle.gcs_meaning.specs.declared.command.Answer.{Answer}
use Rattle.gcs_meaning.specs.declared.command.Answer.TheVariants.{Refused}
use Rattle.gcs_meaning.specs.Choosing.{chosen_row}
use Rattle.gcs_meaning.specs.Content.{Digested, with_whole}
use Rattle.gcs_meaning.specs.Slot.{State, Slot}
use Rattle.gcs_meaning.specs.Outcomes.{on_alive}
use Rattle.gcs_meaning.specs.Put.{no_expect, put_on}

-- the largest component count
abbrev pub most_components : ℕ
most_components = 2147483647

-- what the sources of a compose make: a content and how many components it has, or why there is none
pub data Composed : Type 0 where
  joins : Whole → ℕ → Composed
  lacks : Reason → Composed

-- the generation that is wanted of source i is the one that it has
abbrev pub source_refusal : ℕ → Option ℕ → ℕ → Option Reason
source_refusal i None found = None
source_refusal i (Some wanted) found = if wanted == found then None else Some (SourceCondition i wanted found)

-- unless the test of a source fails
abbrev pub composed_unless : Option Reason → Composed → Composed
composed_unless (Some reason) more = lacks reason
composed_unless None more = more

-- the components of a version: one where it wasn't composed
abbrev pub components_of : Row → ℕ
components_of row = unwrap_or row.components 1

-- source i behind what is joined already, and then the rest
abbrev pub composed_by : Option Row → ℕ → Part → Whole → ℕ → (Whole → ℕ → Composed) → Composed
composed_by None i part content count more = lacks (NoSource i)
composed_by (Some row) i part content count more =
    composed_unless (source_refusal i part.generation_is row.generation)
    (more (with_whole content row.hashed.content) (count + components_of row))

-- the sources from number i on, behind what is joined already
abbrev pub composed_from : List Row → ℕ → Whole → ℕ → List Part → Composed
composed_from rows i content count [] = joins content (min count most_components)
composed_from rows i content count (part ∷ parts) =
    composed_by (chosen_row part.name part.generation rows) i part content count (λ whole sum. composed_from rows (i + 1) whole sum parts)

-- the sources of a compose, among these versions
unfoldable pub composed : List Row → List Part → Composed
composed rows parts = composed_from rows 0 no_content 0 parts

-- a composed content: it has no MD5
abbrev pub composed_content : Whole → Digested
composed_content content = record { content = content; with_md5 = false }

-- what is joined is put
abbrev pub compose_put : Composed → State → Slot → ℕ → List ℕ → Pre → Meta → Answer × Slot
compose_put (lacks reason) s slot t name pre meta = (Refused reason, slot)
compose_put (joins content count) s slot t name pre meta = put_on s slot t name pre meta (composed_content content) (Some count) no_expect

-- a compose, on a slot that is aged to t
unfoldable pub compose_step : Slot → ℕ → List ℕ → Pre → Meta → List Part → Answer × Slot
compose_step slot t name pre meta parts = on_alive slot.alive slot (λ s. compose_put (composed s.rows parts) s slot t name pre meta)
