-- A new version of a name (Cloud Storage JSON API, "Objects: insert").
use Rattle.std.specs.Prelude.{ℕ, ◌==◌, length, unwrap_or, false, not, ◌||◌, List, [], ◌∷◌, Option, Some, None, if◌then◌else◌}
use Rattle.std.specs.Str.{bytes_eq}
use Rattle.gcs_meaning.specs.declared.settings.Pre.{Pre}
use Rattle.gcs_meaning.specs.declared.settings.Meta.{Meta}
use Rattle.gcs_meaning.specs.declared.settings.Settings.{Settings}
use Rattle.gcs_meaning.specs.declared.version.Kind.TheVariants.{Live}
use Rattle.gcs_meaning.specs.declared.version.Row.{Row}
use Rattle.gcs_meaning.specs.declared.version.Expect.{Expect}
use Rattle.gcs_meaning.specs.declared.reason.Digest.TheVariants.{Crc, Md5}
use Rattle.gcs_meaning.specs.declared.reason.Reason.{Reason}
use Rattle.gcs_meaning.specs.declared.reason.Reason.TheVariants.{HashDiffers}
use Rattle.gcs_meaning.specs.declared.command.Answer.{Answer}
use Rattle.gcs_meaning.specs.declared.command.Answer.TheVariants.{Object}
use Rattle.gcs_crc.specs.Crc.{crc}
use Rattle.md5.specs.Md5.{md5}
use Rattle.gcs_meaning.specs.Content.{Digested, bytes_in}
use Rattle.gcs_meaning.specs.Moment.{next_generation}
use Rattle.gcs_meaning.specs.Slot.{State, Slot}
use Rattle.gcs_meaning.specs.Tests.{or_else, size_refusal}
use Rattle.gcs_meaning.specs.Policy.{pre_refusal, retired_to}
use Rattle.gcs_meaning.specs.Choosing.{live_row}
use Rattle.gcs_meaning.specs.Outcomes.{on_alive, unless}
use Rattle.gcs_meaning.specs.Order.{comes_before, place_of}
use Rattle.gcs_meaning.specs.Retiring.{retired_rows, taken_refusal}

-- the generation that preconditions are tested on: that of the version, and 0 where there is none
abbrev pub generation_of : Option Row → ℕ
generation_of None = 0
generation_of (Some row) = row.generation

-- the metageneration of a version, and 0 where there is none
abbrev pub metageneration_of : Option Row → ℕ
metageneration_of None = 0
metageneration_of (Some row) = row.metageneration

-- a CRC32C that was given is that of the bytes
abbrev pub crc_refusal : Option ℕ → List ℕ → Option Reason
crc_refusal None bytes = None
crc_refusal (Some given) bytes = if given == crc bytes then None else Some (HashDiffers (Crc given) (Crc (crc bytes)))

-- an MD5 that was given is that of the bytes, where the content has one
abbrev pub md5_refusal : Option (List ℕ) → Digested → Option Reason
md5_refusal None hashed = None
md5_refusal (Some given) hashed =
    if not hashed.with_md5 || bytes_eq given (md5 (bytes_in hashed)) then None
    else Some (HashDiffers (Md5 given) (Md5 (md5 (bytes_in hashed))))

-- the given digests, the CRC32C first
unfoldable pub hash_refusal : Expect → Digested → Option Reason
hash_refusal expect hashed = or_else (crc_refusal expect.crc (bytes_in hashed)) (md5_refusal expect.md5 hashed)

-- the live version that a put replaces, where there is one, may be taken away
abbrev pub replaced_refusal : Settings → ℕ → Option Row → Option Reason
replaced_refusal settings t None = None
replaced_refusal settings t (Some row) = taken_refusal settings t false row

-- the first test of a put at t that fails, on the live version of the name
unfoldable pub put_refusal : Settings → ℕ → Pre → Expect → Digested → Option Row → Option Reason
put_refusal settings t pre expect hashed live =
    or_else (pre_refusal pre (generation_of live) (metageneration_of live))
    (or_else (replaced_refusal settings t live)
    (or_else (hash_refusal expect hashed)
    (size_refusal (length (bytes_in hashed)))))

-- the rows with one more, at its place by name and generation
abbrev pub with_row : Row → List Row → List Row
with_row row [] = row ∷ []
with_row row (first ∷ rest) = if comes_before (place_of row) (place_of first) then row ∷ first ∷ rest else first ∷ with_row row rest

-- what a version keeps of the metadata that it is put with
abbrev pub kept_meta : Settings → Meta → Meta
kept_meta settings meta = record meta {
  event_hold = Some (unwrap_or meta.event_hold settings.default_event_hold);
  storage_class = Some (unwrap_or meta.storage_class settings.storage_class);
}

-- the version that a put makes
abbrev pub new_row : Settings → ℕ → ℕ → List ℕ → Meta → Digested → Option ℕ → Row
new_row settings t generation name meta hashed components = record {
  name = name;
  generation = generation;
  metageneration = 1;
  hashed = hashed;
  components = components;
  meta = kept_meta settings meta;
  created = t;
  updated = t;
  retention_start = t;
  kind = Live;
}

-- the bucket once the live version is retired and the new one is there
unfoldable pub put_state : State → ℕ → Row → State
put_state state t row =
    record state { rows = with_row row (retired_rows (retired_to state.settings t false) t row.name None state.rows) }

-- a slot that has the version that was made
abbrev pub with_version : Slot → State → ℕ → Row → Answer × Slot
with_version slot s t row = (Object row s.settings, record slot { alive = Some (put_state s t row); last_object = row.generation })

-- no digests are expected
abbrev pub no_expect : Expect
no_expect = record { crc = None; md5 = None }

-- the put of a version into the bucket: the rule of every command that makes one
abbrev pub put_on : State → Slot → ℕ → List ℕ → Pre → Meta → Digested → Option ℕ → Expect → Answer × Slot
put_on s slot t name pre meta hashed components expect =
    let row = new_row s.settings t (next_generation t slot.last_object) name meta hashed components in
    unless (put_refusal s.settings t pre expect hashed (live_row name s.rows)) slot (with_version slot s t row)

-- the put of a version, on a slot that is aged to t
unfoldable pub put_step : Slot → ℕ → List ℕ → Pre → Meta → Digested → Option ℕ → Expect → Answer × Slot
put_step slot t name pre meta hashed components expect =
    on_alive slot.alive slot (λ s. put_on s slot t name pre meta hashed components expect)
