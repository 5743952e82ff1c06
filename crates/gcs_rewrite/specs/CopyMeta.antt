-- The metadata that a copy or a rewrite gives its destination (Cloud Storage JSON API, "Objects: copy" and "Objects: rewrite").
use Rattle.std.specs.Prelude.{◌&&◌, Bool, true, false, None, if◌then◌else◌}
use Rattle.gcs_meaning.specs.declared.changes.MetaChange.{MetaChange}
use Rattle.gcs_meaning.specs.declared.changes.Set.{Set}
use Rattle.gcs_meaning.specs.declared.changes.Set.TheVariants.{Keep}
use Rattle.gcs_meaning.specs.declared.settings.Meta.{Meta}
use Rattle.gcs_json.specs.declared.object.ObjectBody.{ObjectBody}
use Rattle.gcs_rewrite.specs.Made.{made_meta}

-- the field isn't named
abbrev pub is_kept : {X : Type 0} → Set X → Bool
is_kept Keep = true
is_kept _ = false

-- none of the fields that stand in the head of a version's bytes is named
abbrev pub keeps_lines : MetaChange → Bool
keeps_lines change =
    is_kept change.content_type && is_kept change.cache_control && is_kept change.content_disposition
    && is_kept change.content_encoding && is_kept change.content_language

-- nor is any other that can be changed
abbrev pub keeps_others : MetaChange → Bool
keeps_others change =
    is_kept change.custom_time && is_kept change.temporary_hold && is_kept change.event_hold && is_kept change.custom

-- the metadata of the source without its holds, and with the class that the body gives
abbrev pub carried_meta : ObjectBody → Meta → Meta
carried_meta body meta = record meta { storage_class = body.storage_class; temporary_hold = false; event_hold = None }

-- the metadata of the destination: those of the source where the body names no field that can be changed, else the body's
abbrev pub copied_meta : ObjectBody → Meta → Meta
copied_meta body meta =
    if keeps_lines body.change && keeps_others body.change then carried_meta body meta else made_meta body None None
