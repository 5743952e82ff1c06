use Rattle.std.proofs.Common.{◌≡◌, ◌≤◌, min}
use Rattle.gcs_uploads.specs.Earliest.{earliest_start, last_moment}
use Rattle.gcs_uploads.proofs.uploads.earliest_start.Given as goal

-- of the uploads that were seen it is the earliest
abbrev pub invariant-loop-upload : goal.invariant-loop-upload
invariant-loop-upload l = record {
  within : l.earliest ≤ last_moment;
  same : min l.earliest (earliest_start l.upload-iterator) ≡ earliest_start l.fn.uploads.entries;
}
