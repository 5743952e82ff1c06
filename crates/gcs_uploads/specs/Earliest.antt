-- The earliest start of the uploads that run: until a week after it none of them expires.
use Rattle.std.specs.Prelude.{ℕ, ◌-◌, ◌^◌, min, [], ◌∷◌, if◌then◌else◌}
use Rattle.gcs_meaning.specs.declared.uploading.Upload.{Upload}
use Rattle.gcs_meaning.specs.Uploads.{UploadMap, is_running}

-- the last moment that a clock can tell
abbrev pub last_moment : ℕ
last_moment = 2 ^ 64 - 1

-- when an upload that runs began; one that doesn't run never expires, and has the last moment
abbrev pub begun : Upload → ℕ
begun upload = if is_running upload.state then upload.start else last_moment

-- the earliest start of the uploads that run; where none does, the last moment
abbrev pub earliest_start : UploadMap → ℕ
earliest_start [] = last_moment
earliest_start (numbered ∷ uploads) = min (begun numbered.1) (earliest_start uploads)
